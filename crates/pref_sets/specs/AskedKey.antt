-- What a recursion asks, as a key.
use Rattle.std.specs.Prelude.{ℕ, Option, Some, None}
use Rattle.pref_sets.specs.Answers.{Next}
use Rattle.pref_sets.specs.Answers.Next.{Ask, Done}
use Rattle.req_keys.specs.Key.{PositionSet}
use Rattle.req_keys.specs.Wanting.{key_over}

-- the key that is asked, or none where all is done
abbrev pub asked_key : ℕ → Next → Option PositionSet
asked_key n (Ask set) = Some (key_over n set)
asked_key n (Done found) = None
