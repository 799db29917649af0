-- What a resumed part wants, as a contract sees it.
use Rattle.std.specs.Prelude.{ℕ, List, Option, Some, None}
use Rattle.req_keys.specs.Key.{PositionSet}
use Rattle.req_keys.specs.declared.verdict.Want.{Want}
use Rattle.req_keys.specs.declared.verdict.Want.TheVariants as want

-- a set of the positions 1, 2, .., n as a key
abbrev pub key_over : ℕ → List ℕ → PositionSet
key_over n set = record { n = n; members = set }

-- the key in a `Want`
abbrev pub wanted_key : Want → Option PositionSet
wanted_key (want.Ask key) = Some key.now
wanted_key want.Done = None
