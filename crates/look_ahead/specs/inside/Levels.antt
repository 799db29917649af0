-- The walk over the words, level by level: the states after the words of one length, without those that are done.
use Rattle.std.specs.Prelude.{ℕ, zero, suc, List, [], ◌∷◌, ◌++◌, flat_map, filter_map, Option, option_map, option_and_then, option_to_list}
use Rattle.req_keys.specs.Key.{PositionSet}
use Rattle.req_keys.specs.declared.verdict.Verdict.{Verdict}
use Rattle.req_keys.specs.declared.verdict.Verdict.TheVariants.{Sat, Unsat}
use Rattle.script.specs.Job.{Told}

-- what is seen of an asker: what it would ask over told pairs, and its told pairs
pub record Asking : Type 0 where
  pub wants : Told → Option PositionSet
  pub told : Told

abbrev pub seen : {X : Type 0} → (X → Told → Option PositionSet) → (X → Told) → X → Asking
seen wants told asker = record { wants = wants asker; told = told asker }

-- the key that it asks
abbrev pub asks_of : Asking → Option PositionSet
asks_of asking = asking.wants asking.told

-- where it asks a key
abbrev pub if_asking : Asking → Option Asking
if_asking asking = option_map (λ key. asking) (asks_of asking)

-- the asker after one verdict more, if it asks then
abbrev pub after_verdict : Verdict → Asking → Option Asking
after_verdict verdict asking =
    option_and_then (λ key. if_asking (record { wants = asking.wants; told = asking.told ++ (key, verdict) ∷ [] })) (asks_of asking)

-- after either verdict
abbrev pub after_either : Asking → List Asking
after_either asking = option_to_list (after_verdict Unsat asking) ++ option_to_list (after_verdict Sat asking)

-- the askers of the next level
abbrev pub next_level_of : List Asking → List Asking
next_level_of level = flat_map after_either level

-- the askers after the words of so many verdicts
abbrev pub level_of : Asking → ℕ → List Asking
level_of asking zero = asking ∷ []
level_of asking (suc most) = next_level_of (level_of asking most)

-- the keys that a level asks
abbrev pub keys_asked : List Asking → List PositionSet
keys_asked level = filter_map asks_of level
