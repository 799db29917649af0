-- How a run of a job goes on: what each part comes to over the told pairs is what the job wants.
use Rattle.std.proofs.Common.{◌≡◌, ℕ, zero, suc, ◌<◌, Option, Some, None, List, [], map, refl, sym, ◌∙◌, ap, arith}
use Rattle.std.specs.List.{range_with_len}
use Rattle.pref_sets.specs.Answers.{Answer, Next, Ask, Done, IsDone, answer_to}
use Rattle.pref_sets.specs.FastDiag.{fd}
use Rattle.pref_sets.specs.QuickXplain.{qx}
use Rattle.fast_diag.specs.Diagnosing.{Diagnosing}
use Rattle.fast_diag.specs.Diagnosing as diagnosing
use Rattle.hs_tree.specs.Hitting.{Hitting, found_after, next_after}
use Rattle.hs_tree.specs.Tree.{tree, found_by, next_of}
use Rattle.quick_xplain.specs.Explaining.{Explaining}
use Rattle.quick_xplain.specs.Explaining as explaining
use Rattle.req_keys.specs.Key.{PositionSet, empty_key, full_key}
use Rattle.req_keys.specs.Wanting.{key_over}
use Rattle.req_keys.specs.declared.verdict.Verdict.{Verdict}
use Rattle.req_keys.specs.declared.verdict.Verdict.TheVariants as verdict
use Rattle.script.specs.declared.going.Halt.TheVariants as halt
use Rattle.script.specs.declared.job.JobPlan.{JobPlan}
use Rattle.script.specs.declared.job.Outcome.TheVariants as outcome
use Rattle.script.specs.declared.job.Part.{Part}
use Rattle.script.specs.declared.job.Part.TheVariants as part
use Rattle.script.specs.declared.job.Parts.{Parts}
use Rattle.script.specs.declared.stage.Stage.TheVariants as stage
use Rattle.script.specs.Job.{Told, Wanted, asks, ends, answers_of, verdict_in, by_verdict, asks_or_limit, by_next, no_parts, want, background_part, kept_part, conflict_part, listing_part}
use Rattle.script.specs.inside.Going.{HasAll, IsHalted, IsTable, answer_in}
use Rattle.script.specs.inside.Stages.{HasConflict, HasKept, IsAt, IsBeyond, IsExplaining, IsKeeping, IsListing}
use Rattle.script.proofs.TreeMore.{fd-asks_over, fd-finds_over, qx-asks_over, qx-finds_over, tree-asks_over, tree-finds_over}

done-set : (next : Next) → IsDone next → (set : List ℕ) × (next ≡ Done set)
done-set (Ask set) h = absurd h
done-set (Done set) h = (set, refl)

pub key-of_members : (n : ℕ) (key : PositionSet) → key.n ≡ n → key ≡ key_over n key.members
key-of_members n key e = let N : ℕ → PositionSet = λ k. record { n = k; members = key.members } in ap N e

pub beyond-some : (n : ℕ) (told : Told) → IsBeyond n told → 0 < n
beyond-some zero told is = let all = is.all in let none = is.background in absurd (cc)
beyond-some (suc n) told is = omega arith

pub has-none : (table : List Answer) → HasAll [] table
has-none table set sat e = absurd (cc)

module _ (plan : JobPlan) (told : Told) where
  pub want-by : (answer : Option Verdict) → verdict_in told (full_key plan.requirements) ≡ answer → want plan told ≡ by_verdict part.All (full_key plan.requirements) no_parts answer (ends outcome.Consistent) (background_part plan.requirements told plan.list)
  want-by answer e = ap (λ x. by_verdict part.All (full_key plan.requirements) no_parts x (ends outcome.Consistent) (background_part plan.requirements told plan.list)) e

  pub background-by : (answer : Option Verdict) → verdict_in told (full_key plan.requirements) ≡ Some verdict.Unsat → verdict_in told (empty_key plan.requirements) ≡ answer → want plan told ≡ by_verdict part.Background (empty_key plan.requirements) no_parts answer (kept_part plan.requirements told plan.list) (ends outcome.Background)
  background-by answer all e =
      want-by (Some verdict.Unsat) all
      ∙ ap (λ x. by_verdict part.Background (empty_key plan.requirements) no_parts x (kept_part plan.requirements told plan.list) (ends outcome.Background)) e

  beyond-want : IsBeyond plan.requirements told → want plan told ≡ kept_part plan.requirements told plan.list
  beyond-want is = background-by (Some verdict.Sat) is.all is.background

  next-asks : (part : Part) (before : Parts) (next : Next) (follow : List ℕ → Wanted) (set : List ℕ) → next ≡ Ask set → verdict_in told (key_over plan.requirements set) ≡ None → by_next plan.requirements told part before next follow ≡ asks part (key_over plan.requirements set)
  next-asks part before next follow set e none =
      ap (λ x. by_next plan.requirements told part before x follow) e ∙ ap (λ v. asks_or_limit part (key_over plan.requirements set) before v) none

  next-limit : (part : Part) (before : Parts) (next : Next) (follow : List ℕ → Wanted) (set : List ℕ) → next ≡ Ask set → verdict_in told (key_over plan.requirements set) ≡ Some verdict.Limit → by_next plan.requirements told part before next follow ≡ ends (outcome.LimitAt part (key_over plan.requirements set) before)
  next-limit part before next follow set e limit =
      ap (λ x. by_next plan.requirements told part before x follow) e ∙ ap (λ v. asks_or_limit part (key_over plan.requirements set) before v) limit

  next-done : (part : Part) (before : Parts) (next : Next) (follow : List ℕ → Wanted) (set : List ℕ) → next ≡ Done set → by_next plan.requirements told part before next follow ≡ follow set
  next-done part before next follow set e = ap (λ x. by_next plan.requirements told part before x follow) e

  kept-want : (kept : PositionSet) → HasKept plan.requirements told kept → want plan told ≡ conflict_part plan.requirements told kept.members plan.list
  kept-want kept is = beyond-want is.beyond ∙ next-done part.Kept no_parts _ (λ found. conflict_part plan.requirements told found plan.list) kept.members is.found

  pub conflict-want : (kept conflict : PositionSet) → HasConflict plan.requirements told kept conflict → want plan told ≡ listing_part plan.requirements told kept.members conflict.members plan.list
  conflict-want kept conflict is =
      kept-want kept is.behind
      ∙ next-done part.Conflict (record { kept = Some (key_over plan.requirements kept.members); conflict = None; listing = None }) _ (λ found. listing_part plan.requirements told kept.members found plan.list) conflict.members is.found

  module _ (table : IsTable plan.requirements told) where
    none-answer : (set : List ℕ) → verdict_in told (key_over plan.requirements set) ≡ None → answer_to (answers_of told) set ≡ None
    none-answer set none = table set ∙ ap answer_in none

    limit-answer : (set : List ℕ) → verdict_in told (key_over plan.requirements set) ≡ Some verdict.Limit → answer_to (answers_of told) set ≡ None
    limit-answer set limit = table set ∙ ap answer_in limit

    -- FastDiag
    pub keep-waits : (state : Diagnosing) → IsKeeping plan.requirements told state → IsHalted state.n told (diagnosing.next_of state) halt.Waits → IsAt plan told (stage.Kept state)
    keep-waits state is h =
        let same : fd (range_with_len 1 plan.requirements) state.told ≡ Ask h.0 = ap (λ (k : ℕ). fd (range_with_len 1 k) state.told) (sym is.size) ∙ h.1 in
        let none : verdict_in told (key_over plan.requirements h.0) ≡ None = ap (λ (k : ℕ). verdict_in told (key_over k h.0)) (sym is.size) ∙ h.2 in
        let over = fd-asks_over state.told (answers_of told) is.has (range_with_len 1 plan.requirements) h.0 same (none-answer h.0 none) in
        (is, (h.0, h.1, beyond-want is.beyond ∙ next-asks part.Kept no_parts _ (λ found. conflict_part plan.requirements told found plan.list) h.0 over none))

    pub keep-limit : (state : Diagnosing) (key : PositionSet) → IsKeeping plan.requirements told state → IsHalted state.n told (diagnosing.next_of state) (halt.Limit key) → want plan told ≡ ends (outcome.LimitAt part.Kept key no_parts)
    keep-limit state key is h =
        let same : fd (range_with_len 1 plan.requirements) state.told ≡ Ask h.0 = ap (λ (k : ℕ). fd (range_with_len 1 k) state.told) (sym is.size) ∙ h.1 in
        let one : key ≡ key_over plan.requirements h.0 = h.2 ∙ ap (λ (k : ℕ). key_over k h.0) is.size in
        let limit : verdict_in told (key_over plan.requirements h.0) ≡ Some verdict.Limit = ap (λ (k : ℕ). verdict_in told (key_over k h.0)) (sym is.size) ∙ h.3 in
        let over = fd-asks_over state.told (answers_of told) is.has (range_with_len 1 plan.requirements) h.0 same (limit-answer h.0 limit) in
        beyond-want is.beyond ∙ next-limit part.Kept no_parts _ (λ found. conflict_part plan.requirements told found plan.list) h.0 over limit ∙ ap (λ (k : PositionSet). ends (outcome.LimitAt part.Kept k no_parts)) (sym one)

    pub keep-ends : (state : Diagnosing) (kept : PositionSet) → IsKeeping plan.requirements told state → IsDone (diagnosing.next_of state) → ((set : List ℕ) → diagnosing.next_of state ≡ Done set → kept ≡ key_over state.n set) → HasKept plan.requirements told kept
    keep-ends state kept is done h =
        let found = done-set (diagnosing.next_of state) done in
        let one : kept ≡ key_over state.n found.0 = h found.0 found.1 in
        let same : fd (range_with_len 1 plan.requirements) state.told ≡ Done found.0 = ap (λ (k : ℕ). fd (range_with_len 1 k) state.told) (sym is.size) ∙ found.1 in
        record {
          beyond = is.beyond;
          size = ap (λ (k : PositionSet). k.n) one ∙ is.size;
          found = fd-finds_over state.told (answers_of told) is.has (range_with_len 1 plan.requirements) found.0 same ∙ ap (λ (k : PositionSet). Done k.members) (sym one);
        }

    -- QuickXplain
    pub explain-waits : (kept : PositionSet) (state : Explaining) → IsExplaining plan.requirements told kept state → IsHalted state.among.n told (explaining.next_of state) halt.Waits → IsAt plan told (stage.Conflict kept state)
    explain-waits kept state is h =
        let same : qx (range_with_len 1 plan.requirements) state.told ≡ Ask h.0 = ap (λ (k : PositionSet). qx k.members state.told) (sym is.among) ∙ h.1 in
        let none : verdict_in told (key_over plan.requirements h.0) ≡ None = ap (λ (k : PositionSet). verdict_in told (key_over k.n h.0)) (sym is.among) ∙ h.2 in
        let over = qx-asks_over state.told (answers_of told) is.has (range_with_len 1 plan.requirements) h.0 same (none-answer h.0 none) in
        (is, (h.0, h.1, kept-want kept is.behind ∙ next-asks part.Conflict (record { kept = Some (key_over plan.requirements kept.members); conflict = None; listing = None }) _ (λ found. listing_part plan.requirements told kept.members found plan.list) h.0 over none))

    pub explain-limit : (kept : PositionSet) (state : Explaining) (key : PositionSet) → IsExplaining plan.requirements told kept state → IsHalted state.among.n told (explaining.next_of state) (halt.Limit key) → want plan told ≡ ends (outcome.LimitAt part.Conflict key (record { kept = Some kept; conflict = None; listing = None }))
    explain-limit kept state key is h =
        let same : qx (range_with_len 1 plan.requirements) state.told ≡ Ask h.0 = ap (λ (k : PositionSet). qx k.members state.told) (sym is.among) ∙ h.1 in
        let one : key ≡ key_over plan.requirements h.0 = h.2 ∙ ap (λ (k : PositionSet). key_over k.n h.0) is.among in
        let limit : verdict_in told (key_over plan.requirements h.0) ≡ Some verdict.Limit = ap (λ (k : PositionSet). verdict_in told (key_over k.n h.0)) (sym is.among) ∙ h.3 in
        let over = qx-asks_over state.told (answers_of told) is.has (range_with_len 1 plan.requirements) h.0 same (limit-answer h.0 limit) in
        kept-want kept is.behind
        ∙ next-limit part.Conflict (record { kept = Some (key_over plan.requirements kept.members); conflict = None; listing = None }) _ (λ found. listing_part plan.requirements told kept.members found plan.list) h.0 over limit
        ∙ ap (λ (k : PositionSet). ends (outcome.LimitAt part.Conflict k (record { kept = Some (key_over plan.requirements kept.members); conflict = None; listing = None }))) (sym one)
        ∙ ap (λ (k : PositionSet). ends (outcome.LimitAt part.Conflict key (record { kept = Some k; conflict = None; listing = None }))) (sym (key-of_members plan.requirements kept is.behind.size))

    pub explain-ends : (kept : PositionSet) (state : Explaining) (conflict : PositionSet) → IsExplaining plan.requirements told kept state → IsDone (explaining.next_of state) → ((set : List ℕ) → explaining.next_of state ≡ Done set → conflict ≡ key_over state.among.n set) → HasConflict plan.requirements told kept conflict
    explain-ends kept state conflict is done h =
        let found = done-set (explaining.next_of state) done in
        let one : conflict ≡ key_over state.among.n found.0 = h found.0 found.1 in
        let same : qx (range_with_len 1 plan.requirements) state.told ≡ Done found.0 = ap (λ (k : PositionSet). qx k.members state.told) (sym is.among) ∙ found.1 in
        record {
          behind = is.behind;
          size = ap (λ (k : PositionSet). k.n) one ∙ ap (λ (k : PositionSet). k.n) is.among;
          found = qx-finds_over state.told (answers_of told) is.has (range_with_len 1 plan.requirements) found.0 same ∙ ap (λ (k : PositionSet). Done k.members) (sym one);
        }

  both-keys : (kept conflict : PositionSet) → HasConflict plan.requirements told kept conflict → (listing : Option (List PositionSet)) (to : Parts → Wanted) →
      to (record { kept = Some (key_over plan.requirements kept.members); conflict = Some (key_over plan.requirements conflict.members); listing = listing })
      ≡ to (record { kept = Some kept; conflict = Some conflict; listing = listing })
  both-keys kept conflict is listing to =
      ap (λ (k : PositionSet). to (record { kept = Some k; conflict = Some (key_over plan.requirements conflict.members); listing = listing })) (sym (key-of_members plan.requirements kept is.behind.size))
      ∙ ap (λ (k : PositionSet). to (record { kept = Some kept; conflict = Some k; listing = listing })) (sym (key-of_members plan.requirements conflict is.size))

  -- no listing is asked for
  pub ends-unlisted : (kept conflict : PositionSet) → HasConflict plan.requirements told kept conflict → plan.list ≡ None → want plan told ≡ ends (outcome.Explained (record { kept = Some kept; conflict = Some conflict; listing = None }))
  ends-unlisted kept conflict is none =
      conflict-want kept conflict is
      ∙ ap (listing_part plan.requirements told kept.members conflict.members) none
      ∙ both-keys kept conflict is None (λ parts. ends (outcome.Explained parts))

  module _ (table : IsTable plan.requirements told) (kept conflict : PositionSet) (state : Hitting) (is : IsListing plan told kept conflict state) where
    next-same : (answers : List Answer) → next_of (tree state.first.n state.first.members state.most answers) ≡ next_of (tree plan.requirements conflict.members state.most answers)
    next-same answers =
        ap (λ (k : PositionSet). next_of (tree k.n k.members state.most answers)) is.first
        ∙ ap (λ (k : ℕ). next_of (tree k conflict.members state.most answers)) is.behind.size

    n-same : state.first.n ≡ plan.requirements
    n-same = ap (λ (k : PositionSet). k.n) is.first ∙ is.behind.size

    abbrev before : Parts
    before = record { kept = Some (key_over plan.requirements kept.members); conflict = Some (key_over plan.requirements conflict.members); listing = None }

    listed : want plan told ≡ listing_part plan.requirements told kept.members conflict.members (Some state.most)
    listed = conflict-want kept conflict is.behind ∙ ap (listing_part plan.requirements told kept.members conflict.members) is.most

    pub list-waits : IsHalted state.first.n told (next_after state) halt.Waits → IsAt plan told (stage.Listing kept conflict state)
    list-waits h =
        let same : next_of (tree plan.requirements conflict.members state.most state.told) ≡ Ask h.0 = sym (next-same state.told) ∙ h.1 in
        let none : verdict_in told (key_over plan.requirements h.0) ≡ None = ap (λ (k : ℕ). verdict_in told (key_over k h.0)) (sym n-same) ∙ h.2 in
        let over = tree-asks_over state.told (answers_of told) is.has plan.requirements state.most conflict.members h.0 same (table h.0 ∙ ap answer_in none) in
        (is, (h.0, h.1, listed ∙ next-asks part.Listing _ _ _ h.0 over none))

    pub list-limit : (key : PositionSet) → IsHalted state.first.n told (next_after state) (halt.Limit key) → want plan told ≡ ends (outcome.LimitAt part.Listing key (record { kept = Some kept; conflict = Some conflict; listing = None }))
    list-limit key h =
        let same : next_of (tree plan.requirements conflict.members state.most state.told) ≡ Ask h.0 = sym (next-same state.told) ∙ h.1 in
        let one : key ≡ key_over plan.requirements h.0 = h.2 ∙ ap (λ (k : ℕ). key_over k h.0) n-same in
        let limit : verdict_in told (key_over plan.requirements h.0) ≡ Some verdict.Limit = ap (λ (k : ℕ). verdict_in told (key_over k h.0)) (sym n-same) ∙ h.3 in
        let over = tree-asks_over state.told (answers_of told) is.has plan.requirements state.most conflict.members h.0 same (table h.0 ∙ ap answer_in limit) in
        listed
        ∙ next-limit part.Listing _ _ _ h.0 over limit
        ∙ ap (λ (k : PositionSet). ends (outcome.LimitAt part.Listing k before)) (sym one)
        ∙ both-keys kept conflict is.behind None (λ parts. ends (outcome.LimitAt part.Listing key parts))

    pub list-ends : (keys : List PositionSet) → IsDone (next_after state) → keys ≡ map (key_over state.first.n) (found_after state) → want plan told ≡ ends (outcome.Explained (record { kept = Some kept; conflict = Some conflict; listing = Some keys }))
    list-ends keys done e =
        let found = done-set (next_after state) done in
        let same : next_of (tree plan.requirements conflict.members state.most state.told) ≡ Done found.0 = sym (next-same state.told) ∙ found.1 in
        let over = tree-finds_over state.told (answers_of told) is.has plan.requirements state.most conflict.members found.0 same in
        let all : keys ≡ map (key_over plan.requirements) (found_by (tree plan.requirements conflict.members state.most (answers_of told))) =
        e
        ∙ ap (λ (k : PositionSet). map (key_over k.n) (found_by (tree k.n k.members state.most state.told))) is.first
        ∙ ap (λ (k : ℕ). map (key_over k) (found_by (tree k conflict.members state.most state.told))) is.behind.size
        ∙ ap (λ o. map (key_over plan.requirements) (found_by o)) (sym over) in
        listed
        ∙ next-done part.Listing _ _ _ found.0 (ap next_of over ∙ same)
        ∙ ap (λ (l : List PositionSet). ends (outcome.Explained (record { kept = Some (key_over plan.requirements kept.members); conflict = Some (key_over plan.requirements conflict.members); listing = Some l }))) (sym all)
        ∙ both-keys kept conflict is.behind (Some keys) (λ parts. ends (outcome.Explained parts))

-- a part that was told more
pub keep-goes : (n : ℕ) (told : Told) (old new : Diagnosing) → IsKeeping n told old → ◌≡◌ {A = PositionSet × ℕ} (full_key new.n, 0) (full_key old.n, 0) → HasAll new.told (answers_of told) → IsKeeping n told new
keep-goes n told old new is start has =
    record { beyond = is.beyond; size = ap (λ (s : PositionSet × ℕ). s.0.n) start ∙ is.size; has = has }

pub explain-goes : (n : ℕ) (told : Told) (kept : PositionSet) (old new : Explaining) → IsExplaining n told kept old → ◌≡◌ {A = PositionSet × ℕ} (new.among, 0) (old.among, 0) → HasAll new.told (answers_of told) → IsExplaining n told kept new
explain-goes n told kept old new is start has =
    record { behind = is.behind; among = ap (λ (s : PositionSet × ℕ). s.0) start ∙ is.among; has = has }

pub list-goes : (plan : JobPlan) (told : Told) (kept conflict : PositionSet) (old new : Hitting) → IsListing plan told kept conflict old → ◌≡◌ {A = PositionSet × ℕ} (new.first, new.most) (old.first, old.most) → HasAll new.told (answers_of told) → IsListing plan told kept conflict new
list-goes plan told kept conflict old new is start has =
    record {
      behind = is.behind;
      first = ap (λ (s : PositionSet × ℕ). s.0) start ∙ is.first;
      most = is.most ∙ ap (λ (s : PositionSet × ℕ). Some s.1) (sym start);
      has = has;
    }
