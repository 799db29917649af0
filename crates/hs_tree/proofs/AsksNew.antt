-- What the tree asks has no answer.
use Rattle.std.proofs.Common.{◌≡◌, ℕ, zero, suc, Bool, true, false, Option, Some, None, List, [], ◌∷◌, cond, refl, sym, ◌∙◌, length}
use Rattle.std.specs.List.{list_any}
use Rattle.pref_sets.specs.Answers.{Answer, Next, Ask, Done, answer_to}
use Rattle.pref_sets.specs.QuickXplain.{qx}
use Rattle.pref_sets.proofs.Plans.{over-new}
use Rattle.pref_sets.proofs.QuickXplainPlan.{qx_plan, qx_part-plan}
use Rattle.hs_tree.specs.Tree.{Outcome, asks, ends, Standing, tree, without, is_within, known_label, by_label, by_conflict, by_rest, by_known, one_set, further, one_level, levels, next_of}

-- what is asked has no answer
abbrev AsksNew : List Answer → Outcome → Type 0
AsksNew table (asks found set) = answer_to table set ≡ None
AsksNew table (ends standing) = Unit {0}

label-new : (table : List Answer) (standing : Standing) (set : List ℕ) (next : Next) → ((other : List ℕ) → next ≡ Ask other → answer_to table other ≡ None) → AsksNew table (by_label standing set next)
label-new table standing set (Ask other) h = h other refl
label-new table standing set (Done label) h = tt

conflict-new : (table : List Answer) (last : Bool) (standing : Standing) (set rest : List ℕ) → AsksNew table (by_conflict table last standing set rest)
conflict-new table true standing set rest = tt
conflict-new table false standing set [] = tt
conflict-new table false standing set (position ∷ rest) =
    label-new table standing set (qx (position ∷ rest) table)
    (λ other e. over-new table (qx_plan (length (position ∷ rest)) [] [] (position ∷ rest)) other (sym (qx_part-plan (length (position ∷ rest)) table [] [] (position ∷ rest)) ∙ e))

rest-new : (table : List Answer) (last : Bool) (standing : Standing) (set rest : List ℕ) (answer : Option Bool) → answer_to table rest ≡ answer → AsksNew table (by_rest table last standing set rest answer)
rest-new table last standing set rest None e = e
rest-new table last standing set rest (Some true) e = tt
rest-new table last standing set rest (Some false) e = conflict-new table last standing set rest

known-new : (n : ℕ) (table : List Answer) (last : Bool) (standing : Standing) (set : List ℕ) (label : Option (List ℕ)) → AsksNew table (by_known n table last standing set label)
known-new n table last standing set (Some label) = tt
known-new n table last standing set None = rest-new table last standing set (without n set) (answer_to table (without n set)) refl

one_set-new : (n : ℕ) (table : List Answer) (last : Bool) (standing : Standing) (set : List ℕ) → AsksNew table (one_set n table last standing set)
one_set-new n table last standing set = case (list_any (λ diagnosis. is_within diagnosis set) standing.found)
  where
    case : (skipped : Bool) → AsksNew table (cond skipped (ends standing) (by_known n table last standing set (known_label standing.known set)))
    case true = tt
    case false = known-new n table last standing set (known_label standing.known set)

further-new : (table : List Answer) (outcome : Outcome) (follow : Standing → Outcome) → AsksNew table outcome → ((standing : Standing) → AsksNew table (follow standing)) → AsksNew table (further outcome follow)
further-new table (asks found set) follow h k = h
further-new table (ends standing) follow h k = k standing

level-new : (n : ℕ) (table : List Answer) (last : Bool) (sets : List (List ℕ)) (standing : Standing) → AsksNew table (one_level n table last sets standing)
level-new n table last [] standing = tt
level-new n table last (set ∷ sets) standing =
    further-new table (one_set n table last standing set) (λ after. one_level n table last sets after) (one_set-new n table last standing set) (λ after. level-new n table last sets after)

levels-new : (n : ℕ) (table : List Answer) (more : ℕ) (sets : List (List ℕ)) (standing : Standing) → AsksNew table (levels n table more sets standing)
levels-new n table zero sets standing = level-new n table true sets standing
levels-new n table (suc more) [] standing = tt
levels-new n table (suc more) (set ∷ sets) standing =
    further-new table (one_level n table false (set ∷ sets) standing) (λ after. levels n table more after.next (record after { next = [] })) (level-new n table false (set ∷ sets) standing) (λ after. levels-new n table more after.next (record after { next = [] }))

asked-new : (table : List Answer) (outcome : Outcome) (asked : List ℕ) → AsksNew table outcome → next_of outcome ≡ Ask asked → answer_to table asked ≡ None
asked-new table (asks found set) asked h e = let same : set ≡ asked = cc in rw (← same) h
asked-new table (ends standing) asked h e = absurd (cc)

pub tree-new : (n most : ℕ) (first asked : List ℕ) (table : List Answer) → next_of (tree n first most table) ≡ Ask asked → answer_to table asked ≡ None
tree-new n most first asked table e =
    asked-new table (levels n table most ([] ∷ []) (record { found = []; known = first ∷ []; next = [] })) asked
    (levels-new n table most ([] ∷ []) (record { found = []; known = first ∷ []; next = [] })) e
