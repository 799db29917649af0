-- The tree over a table that answers what another one does.
use Rattle.std.proofs.Common.{◌≡◌, ℕ, zero, suc, Bool, true, false, Option, Some, None, List, [], ◌∷◌, cond, refl, sym, ◌∙◌, ap, length}
use Rattle.std.specs.List.{list_any}
use Rattle.pref_sets.specs.Answers.{Answer, Next, Ask, Done, answer_to}
use Rattle.pref_sets.specs.FastDiag.{fd}
use Rattle.pref_sets.specs.Plan.{Plan, AsksOnly}
use Rattle.pref_sets.specs.QuickXplain.{qx}
use Rattle.pref_sets.proofs.FastDiagPlan.{fd_plan, fd_part-plan}
use Rattle.pref_sets.proofs.Plans.{over-more_asked, over-more_found}
use Rattle.pref_sets.proofs.PlansLeft.{AsksOnly-any}
use Rattle.pref_sets.proofs.QuickXplainPlan.{qx_plan, qx_part-plan}
use Rattle.hs_tree.specs.Tree.{Outcome, asks, ends, Standing, without, is_within, known_label, by_label, by_conflict, by_rest, by_known, one_set, further, one_level, levels, tree, next_of}
use Rattle.script.specs.inside.Going.{HasAll}

AsksAny : (plan : Plan) → AsksOnly (λ set. Unit {0}) (λ set. Unit {0}) plan
AsksAny plan = AsksOnly-any (λ set. Unit {0}) plan (λ set. tt)

module _ (answers table : List Answer) (has : HasAll answers table) where
  pub fd-asks_over : (positions set : List ℕ) → fd positions answers ≡ Ask set → answer_to table set ≡ None → fd positions table ≡ Ask set
  fd-asks_over positions set e none =
      let plan = fd_plan (length positions) positions [] true in
      fd_part-plan (length positions) table positions [] true
      ∙ over-more_asked (λ s. Unit {0}) (λ s. Unit {0}) answers table (λ s sat u f. has s sat f) plan (AsksAny plan) set (sym (fd_part-plan (length positions) answers positions [] true) ∙ e) none

  pub fd-finds_over : (positions set : List ℕ) → fd positions answers ≡ Done set → fd positions table ≡ Done set
  fd-finds_over positions set e =
      let plan = fd_plan (length positions) positions [] true in
      fd_part-plan (length positions) table positions [] true
      ∙ over-more_found (λ s. Unit {0}) (λ s. Unit {0}) answers table (λ s sat u f. has s sat f) plan (AsksAny plan) set (sym (fd_part-plan (length positions) answers positions [] true) ∙ e)

  pub qx-asks_over : (positions set : List ℕ) → qx positions answers ≡ Ask set → answer_to table set ≡ None → qx positions table ≡ Ask set
  qx-asks_over positions set e none =
      let plan = qx_plan (length positions) [] [] positions in
      qx_part-plan (length positions) table [] [] positions
      ∙ over-more_asked (λ s. Unit {0}) (λ s. Unit {0}) answers table (λ s sat u f. has s sat f) plan (AsksAny plan) set (sym (qx_part-plan (length positions) answers [] [] positions) ∙ e) none

  pub qx-finds_over : (positions set : List ℕ) → qx positions answers ≡ Done set → qx positions table ≡ Done set
  qx-finds_over positions set e =
      let plan = qx_plan (length positions) [] [] positions in
      qx_part-plan (length positions) table [] [] positions
      ∙ over-more_found (λ s. Unit {0}) (λ s. Unit {0}) answers table (λ s sat u f. has s sat f) plan (AsksAny plan) set (sym (qx_part-plan (length positions) answers [] [] positions) ∙ e)

  -- over the table the other ends as the one, and asks what the one asks if that has no answer
  abbrev Follows : Outcome → Outcome → Type 0
  Follows (asks found set) other = answer_to table set ≡ None → other ≡ asks found set
  Follows (ends standing) other = other ≡ ends standing

  label-follows : (standing : Standing) (set : List ℕ) (next other : Next) → ((asked : List ℕ) → next ≡ Ask asked → answer_to table asked ≡ None → other ≡ Ask asked) → ((found : List ℕ) → next ≡ Done found → other ≡ Done found) → Follows (by_label standing set next) (by_label standing set other)
  label-follows standing set (Ask asked) other h k = λ none. ap (by_label standing set) (h asked refl none)
  label-follows standing set (Done found) other h k = ap (by_label standing set) (k found refl)

  conflict-follows : (last : Bool) (standing : Standing) (set rest : List ℕ) → Follows (by_conflict answers last standing set rest) (by_conflict table last standing set rest)
  conflict-follows true standing set rest = refl
  conflict-follows false standing set [] = refl
  conflict-follows false standing set (position ∷ rest) =
      label-follows standing set (qx (position ∷ rest) answers) (qx (position ∷ rest) table)
      (λ asked e none. qx-asks_over (position ∷ rest) asked e none)
      (λ found e. qx-finds_over (position ∷ rest) found e)

  rest-follows : (last : Bool) (standing : Standing) (set rest : List ℕ) (answer : Option Bool) → answer_to answers rest ≡ answer → Follows (by_rest answers last standing set rest answer) (by_rest table last standing set rest (answer_to table rest))
  rest-follows last standing set rest None e = λ none. ap (by_rest table last standing set rest) none
  rest-follows last standing set rest (Some true) e = ap (by_rest table last standing set rest) (has rest true e)
  rest-follows last standing set rest (Some false) e = rw (has rest false e) (conflict-follows last standing set rest)

  known-follows : (n : ℕ) (last : Bool) (standing : Standing) (set : List ℕ) (label : Option (List ℕ)) → Follows (by_known n answers last standing set label) (by_known n table last standing set label)
  known-follows n last standing set (Some label) = refl
  known-follows n last standing set None = rest-follows last standing set (without n set) (answer_to answers (without n set)) refl

  set-follows : (n : ℕ) (last : Bool) (standing : Standing) (set : List ℕ) → Follows (one_set n answers last standing set) (one_set n table last standing set)
  set-follows n last standing set = case (list_any (λ diagnosis. is_within diagnosis set) standing.found)
    where
      case : (skipped : Bool) → Follows (cond skipped (ends standing) (by_known n answers last standing set (known_label standing.known set))) (cond skipped (ends standing) (by_known n table last standing set (known_label standing.known set)))
      case true = refl
      case false = known-follows n last standing set (known_label standing.known set)

  further-follows : (one other : Outcome) (follow next : Standing → Outcome) → Follows one other → ((standing : Standing) → Follows (follow standing) (next standing)) → Follows (further one follow) (further other next)
  further-follows (asks found set) other follow next h k = λ none. ap (λ o. further o next) (h none)
  further-follows (ends standing) other follow next h k = rw h (k standing)

  level-follows : (n : ℕ) (last : Bool) (sets : List (List ℕ)) (standing : Standing) → Follows (one_level n answers last sets standing) (one_level n table last sets standing)
  level-follows n last [] standing = refl
  level-follows n last (set ∷ sets) standing =
      further-follows (one_set n answers last standing set) (one_set n table last standing set) (λ after. one_level n answers last sets after) (λ after. one_level n table last sets after)
      (set-follows n last standing set) (λ after. level-follows n last sets after)

  levels-follow : (n more : ℕ) (sets : List (List ℕ)) (standing : Standing) → Follows (levels n answers more sets standing) (levels n table more sets standing)
  levels-follow n zero sets standing = level-follows n true sets standing
  levels-follow n (suc more) [] standing = refl
  levels-follow n (suc more) (set ∷ sets) standing =
      further-follows (one_level n answers false (set ∷ sets) standing) (one_level n table false (set ∷ sets) standing)
      (λ after. levels n answers more after.next (record after { next = [] })) (λ after. levels n table more after.next (record after { next = [] }))
      (level-follows n false (set ∷ sets) standing) (λ after. levels-follow n more after.next (record after { next = [] }))

  follows-asked : (one other : Outcome) (set : List ℕ) → Follows one other → next_of one ≡ Ask set → answer_to table set ≡ None → next_of other ≡ Ask set
  follows-asked (asks found asked) other set h e none = let same : asked ≡ set = cc in ap next_of (h (rw same none)) ∙ e
  follows-asked (ends standing) other set h e none = absurd (cc)

  follows-done : (one other : Outcome) (none : List ℕ) → Follows one other → next_of one ≡ Done none → other ≡ one
  follows-done (asks found asked) other none h e = absurd (cc)
  follows-done (ends standing) other none h e = h

  pub tree-asks_over : (n most : ℕ) (first set : List ℕ) → next_of (tree n first most answers) ≡ Ask set → answer_to table set ≡ None → next_of (tree n first most table) ≡ Ask set
  tree-asks_over n most first set e none =
      follows-asked (tree n first most answers) (tree n first most table) set (levels-follow n most ([] ∷ []) (record { found = []; known = first ∷ []; next = [] })) e none

  pub tree-finds_over : (n most : ℕ) (first none : List ℕ) → next_of (tree n first most answers) ≡ Done none → tree n first most table ≡ tree n first most answers
  tree-finds_over n most first none e =
      follows-done (tree n first most answers) (tree n first most table) none (levels-follow n most ([] ∷ []) (record { found = []; known = first ∷ []; next = [] })) e
