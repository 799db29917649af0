-- The keys that are likely to be asked next: those that would be asked after some verdicts more, whatever these are. After Le
-- and others (2023), who predict coming consistency checks; the list and its order are own to this project.
use Rattle.std.specs.Prelude.{ℕ, zero, suc, List, [], ◌∷◌, ◌++◌, flat_map, filter_map, fold, if◌then◌else◌, Bool, Option, option_and_then}
use Rattle.std.specs.List.{list_any}
use Rattle.req_keys.specs.Key.{PositionSet}
use Rattle.req_keys.specs.Order.{key_eq}
use Rattle.req_keys.specs.declared.verdict.Verdict.{Verdict}
use Rattle.req_keys.specs.declared.verdict.Verdict.TheVariants.{Sat, Unsat}
use Rattle.script.specs.Job.{Told}

-- the words of so many verdicts, each Unsat or Sat, in the order with Unsat before Sat
abbrev pub words : ℕ → List (List Verdict)
words zero = [] ∷ []
words (suc length) = flat_map (λ word. (word ++ Unsat ∷ []) ∷ (word ++ Sat ∷ []) ∷ []) (words length)

-- the words of 1 to so many verdicts, shorter ones first
abbrev pub words_to : ℕ → List (List Verdict)
words_to zero = []
words_to (suc most) = words_to most ++ words (suc most)

-- the key that is asked after a word, if one is: the key that is asked first is told the word's first verdict, the key that is
-- asked then its second, and so on
abbrev pub asked_after : (Told → Option PositionSet) → Told → List Verdict → Option PositionSet
asked_after wants told [] = wants told
asked_after wants told (verdict ∷ word) = option_and_then (λ key. asked_after wants (told ++ (key, verdict) ∷ []) word) (wants told)

-- whether the key is in the list
abbrev pub has_key : List PositionSet → PositionSet → Bool
has_key keys key = list_any (key_eq key) keys

-- the list, with the key at its end unless the list has it
abbrev pub with_key : List PositionSet → PositionSet → List PositionSet
with_key keys key = if has_key keys key then keys else keys ++ key ∷ []

-- each key once, at its first place
abbrev pub each_once : List PositionSet → List PositionSet
each_once keys = fold with_key [] keys

-- the keys that are asked after the words of 1 to so many verdicts, each once
abbrev pub keys_ahead : (Told → Option PositionSet) → Told → ℕ → List PositionSet
keys_ahead wants told most = each_once (filter_map (asked_after wants told) (words_to most))
