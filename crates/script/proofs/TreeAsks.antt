-- What the tree asks has no answer yet, and is a set of its positions.
use Rattle.std.proofs.Common.{◌≡◌, ℕ, zero, suc, Bool, true, false, Option, Some, None, List, [], ◌∷◌, cond, refl, sym, ◌∙◌, length, arith}
use Rattle.std.specs.List.{list_any, range_with_len}
use Rattle.pref_sets.specs.Answers.{Answer, Next, Ask, Done, answer_to}
use Rattle.pref_sets.specs.FastDiag.{fd}
use Rattle.pref_sets.specs.Preferred.{IsWithin}
use Rattle.pref_sets.specs.QuickXplain.{qx}
use Rattle.pref_sets.proofs.AscendingPositions.{Ascends}
use Rattle.pref_sets.proofs.FastDiagPlan.{fd_plan, fd_part-plan, fd_plan-within, fd_plan-ascends}
use Rattle.pref_sets.proofs.Plans.{AsksOnly-asked, over-new}
use Rattle.pref_sets.proofs.QuickXplainPlan.{qx_plan, qx_part-plan, qx_plan-within, qx_plan-ascends}
use Rattle.pref_sets.proofs.RisingPositions.{Ascends-from_rises, rises-from_Ascends}
use Rattle.req_keys.specs.Positions.{RiseWithin}
use Rattle.req_keys.proofs.PositionsLaws.{RiseWithin-filter_range, RiseWithin-range}
use Rattle.req_keys.proofs.Rises.{members-within}
use Rattle.hs_tree.specs.Tree.{Outcome, asks, ends, Standing, without, is_within, known_label, by_label, by_conflict, by_rest, by_known, one_set, further, one_level, levels, tree, next_of}
use Rattle.lists.proofs.Members.{none as contains_none}

-- the set has no answer in the table, and is one of the positions 1, 2, .., n
abbrev pub IsNew : ℕ → List Answer → List ℕ → Type 0
IsNew n table set = (answer_to table set ≡ None) × RiseWithin 0 n set

pub range-rises : (n : ℕ) → RiseWithin 0 n (range_with_len 1 n)
range-rises n = RiseWithin-range 1 n 0 n (omega arith) (omega arith)

pub without-rises : (n : ℕ) (set : List ℕ) → RiseWithin 0 n (without n set)
without-rises n set = RiseWithin-filter_range _ 1 n 0 n (omega arith) (omega arith)

rises-within : (n : ℕ) (set all : List ℕ) → RiseWithin 0 n all → IsWithin set all → Ascends set → RiseWithin 0 n set
rises-within n set all rises within ascends = rises-from_Ascends 0 n set ascends (λ y m. members-within 0 n all rises y (within y m))

pub fd-asks : (n : ℕ) (positions : List ℕ) (table : List Answer) (asked : List ℕ) → RiseWithin 0 n positions → fd positions table ≡ Ask asked → IsNew n table asked
fd-asks n positions table asked rises e =
    let plan = fd_plan (length positions) positions [] true in
    let same = sym (fd_part-plan (length positions) table positions [] true) ∙ e in (
      over-new table plan asked same,
      rises-within n asked positions rises
          (AsksOnly-asked (λ set. IsWithin set positions) (λ set. IsWithin set positions) table plan
          (fd_plan-within positions (length positions) positions [] true (λ i m. absurd (contains_none i m)) (λ i m. m)) asked same)
          (AsksOnly-asked Ascends Ascends table plan (fd_plan-ascends (length positions) positions [] true (Ascends-from_rises 0 n positions rises)) asked same),
    )

pub qx-asks : (n : ℕ) (positions : List ℕ) (table : List Answer) (asked : List ℕ) → RiseWithin 0 n positions → qx positions table ≡ Ask asked → IsNew n table asked
qx-asks n positions table asked rises e =
    let plan = qx_plan (length positions) [] [] positions in
    let same = sym (qx_part-plan (length positions) table [] [] positions) ∙ e in (
      over-new table plan asked same,
      rises-within n asked positions rises
          (AsksOnly-asked (λ set. IsWithin set positions) (λ set. IsWithin set positions) table plan
          (qx_plan-within positions (length positions) [] [] positions (λ i m. absurd (contains_none i m)) (λ i m. m)) asked same)
          (AsksOnly-asked Ascends Ascends table plan (qx_plan-ascends (length positions) [] [] positions tt (Ascends-from_rises 0 n positions rises)) asked same),
    )

-- what is asked is new
abbrev AsksNew : ℕ → List Answer → Outcome → Type 0
AsksNew n table (asks found set) = IsNew n table set
AsksNew n table (ends standing) = Unit {0}

label-new : (n : ℕ) (table : List Answer) (standing : Standing) (set : List ℕ) (next : Next) → ((other : List ℕ) → next ≡ Ask other → IsNew n table other) → AsksNew n table (by_label standing set next)
label-new n table standing set (Ask other) h = h other refl
label-new n table standing set (Done label) h = tt

conflict-new : (n : ℕ) (table : List Answer) (last : Bool) (standing : Standing) (set rest : List ℕ) → RiseWithin 0 n rest → AsksNew n table (by_conflict table last standing set rest)
conflict-new n table true standing set rest rises = tt
conflict-new n table false standing set [] rises = tt
conflict-new n table false standing set (position ∷ rest) rises =
    label-new n table standing set (qx (position ∷ rest) table) (λ other e. qx-asks n (position ∷ rest) table other rises e)

rest-new : (n : ℕ) (table : List Answer) (last : Bool) (standing : Standing) (set rest : List ℕ) (answer : Option Bool) → answer_to table rest ≡ answer → RiseWithin 0 n rest → AsksNew n table (by_rest table last standing set rest answer)
rest-new n table last standing set rest None e rises = (e, rises)
rest-new n table last standing set rest (Some true) e rises = tt
rest-new n table last standing set rest (Some false) e rises = conflict-new n table last standing set rest rises

known-new : (n : ℕ) (table : List Answer) (last : Bool) (standing : Standing) (set : List ℕ) (label : Option (List ℕ)) → AsksNew n table (by_known n table last standing set label)
known-new n table last standing set (Some label) = tt
known-new n table last standing set None = rest-new n table last standing set (without n set) (answer_to table (without n set)) refl (without-rises n set)

one_set-new : (n : ℕ) (table : List Answer) (last : Bool) (standing : Standing) (set : List ℕ) → AsksNew n table (one_set n table last standing set)
one_set-new n table last standing set = case (list_any (λ diagnosis. is_within diagnosis set) standing.found)
  where
    case : (skipped : Bool) → AsksNew n table (cond skipped (ends standing) (by_known n table last standing set (known_label standing.known set)))
    case true = tt
    case false = known-new n table last standing set (known_label standing.known set)

further-new : (n : ℕ) (table : List Answer) (outcome : Outcome) (follow : Standing → Outcome) → AsksNew n table outcome → ((standing : Standing) → AsksNew n table (follow standing)) → AsksNew n table (further outcome follow)
further-new n table (asks found set) follow h k = h
further-new n table (ends standing) follow h k = k standing

level-new : (n : ℕ) (table : List Answer) (last : Bool) (sets : List (List ℕ)) (standing : Standing) → AsksNew n table (one_level n table last sets standing)
level-new n table last [] standing = tt
level-new n table last (set ∷ sets) standing =
    further-new n table (one_set n table last standing set) (λ after. one_level n table last sets after) (one_set-new n table last standing set) (λ after. level-new n table last sets after)

levels-new : (n : ℕ) (table : List Answer) (more : ℕ) (sets : List (List ℕ)) (standing : Standing) → AsksNew n table (levels n table more sets standing)
levels-new n table zero sets standing = level-new n table true sets standing
levels-new n table (suc more) [] standing = tt
levels-new n table (suc more) (set ∷ sets) standing =
    further-new n table (one_level n table false (set ∷ sets) standing) (λ after. levels n table more after.next (record after { next = [] })) (level-new n table false (set ∷ sets) standing) (λ after. levels-new n table more after.next (record after { next = [] }))

asked-new : (n : ℕ) (table : List Answer) (outcome : Outcome) (asked : List ℕ) → AsksNew n table outcome → next_of outcome ≡ Ask asked → IsNew n table asked
asked-new n table (asks found set) asked h e = let same : set ≡ asked = cc in rw (← same) h
asked-new n table (ends standing) asked h e = absurd (cc)

pub tree-asks : (n most : ℕ) (first : List ℕ) (table : List Answer) (asked : List ℕ) → next_of (tree n first most table) ≡ Ask asked → IsNew n table asked
tree-asks n most first table asked e =
    asked-new n table (tree n first most table) asked (levels-new n table most ([] ∷ []) (record { found = []; known = first ∷ []; next = [] })) e
