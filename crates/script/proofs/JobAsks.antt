-- What a job asks was not told, and is a key of its positions.
use Rattle.std.proofs.Common.{◌≡◌, ℕ, Option, Some, None, List, ◌⊎◌, refl, ⊎_elim}
use Rattle.std.specs.List.{range_with_len}
use Rattle.pref_sets.specs.Answers.{Next, Ask, Done}
use Rattle.pref_sets.specs.FastDiag.{fd}
use Rattle.pref_sets.specs.QuickXplain.{qx}
use Rattle.req_keys.specs.Key.{PositionSet, empty_key, full_key}
use Rattle.req_keys.specs.Positions.{RiseWithin}
use Rattle.req_keys.specs.Wanting.{key_over}
use Rattle.req_keys.specs.declared.verdict.Verdict.{Verdict}
use Rattle.req_keys.specs.declared.verdict.Verdict.TheVariants as verdict
use Rattle.hs_tree.specs.Tree.{tree, next_of}
use Rattle.script.specs.declared.job.JobPlan.{JobPlan}
use Rattle.script.specs.declared.job.Outcome.TheVariants as outcome
use Rattle.script.specs.declared.job.Part.{Part}
use Rattle.script.specs.declared.job.Part.TheVariants as part
use Rattle.script.specs.declared.job.Parts.{Parts}
use Rattle.script.specs.Job.{Told, Wanted, asks, ends, answers_of, verdict_in, by_verdict, asks_or_limit, by_next, no_parts, want, background_part, kept_part, conflict_part, listing_part}
use Rattle.script.proofs.Lookups.{unanswered}
use Rattle.script.proofs.TreeAsks.{IsNew, range-rises, fd-asks, qx-asks, tree-asks}

-- a key of the n positions that was not told
pub record IsNewKey (n : ℕ) (told : Told) (key : PositionSet) : Type 0 where
  pub new : verdict_in told key ≡ None
  pub size : key.n ≡ n
  pub rises : RiseWithin 0 n key.members

-- what is asked is such a key
abbrev pub AsksNewKey : ℕ → Told → Wanted → Type 0
AsksNewKey n told (asks part key) = IsNewKey n told key
AsksNewKey n told (ends outcome) = Unit {0}

verdict-new : (n : ℕ) (told : Told) (part : Part) (key : PositionSet) (before : Parts) (answer : Option Verdict) (sat unsat : Wanted) → verdict_in told key ≡ answer → key.n ≡ n → RiseWithin 0 n key.members → AsksNewKey n told sat → AsksNewKey n told unsat → AsksNewKey n told (by_verdict part key before answer sat unsat)
verdict-new n told part key before None sat unsat e size rises h k = record { new = e; size = size; rises = rises }
verdict-new n told part key before (Some verdict.Sat) sat unsat e size rises h k = h
verdict-new n told part key before (Some verdict.Unsat) sat unsat e size rises h k = k
verdict-new n told part key before (Some verdict.Limit) sat unsat e size rises h k = tt

limit-new : (n : ℕ) (told : Told) (part : Part) (key : PositionSet) (before : Parts) (answer : Option Verdict) → verdict_in told key ≡ answer → key.n ≡ n → RiseWithin 0 n key.members → (answer ≡ None) ⊎ (answer ≡ Some verdict.Limit) → AsksNewKey n told (asks_or_limit part key before answer)
limit-new n told part key before None e size rises h = record { new = e; size = size; rises = rises }
limit-new n told part key before (Some verdict.Sat) e size rises h = absurd (⊎_elim (λ (f : Some verdict.Sat ≡ None). cc) (λ (f : Some verdict.Sat ≡ Some verdict.Limit). cc) h)
limit-new n told part key before (Some verdict.Unsat) e size rises h = absurd (⊎_elim (λ (f : Some verdict.Unsat ≡ None). cc) (λ (f : Some verdict.Unsat ≡ Some verdict.Limit). cc) h)
limit-new n told part key before (Some verdict.Limit) e size rises h = tt

next-new : (n : ℕ) (told : Told) (part : Part) (before : Parts) (next : Next) (follow : List ℕ → Wanted) → ((asked : List ℕ) → next ≡ Ask asked → IsNew n (answers_of told) asked) → ((found : List ℕ) → next ≡ Done found → AsksNewKey n told (follow found)) → AsksNewKey n told (by_next n told part before next follow)
next-new n told part before (Ask set) follow h k =
    limit-new n told part (key_over n set) before (verdict_in told (key_over n set)) refl refl (h set refl).1 (unanswered told (key_over n set) (h set refl).0)
next-new n told part before (Done found) follow h k = k found refl

listing-new : (n : ℕ) (told : Told) (kept conflict : List ℕ) (list : Option ℕ) → AsksNewKey n told (listing_part n told kept conflict list)
listing-new n told kept conflict None = tt
listing-new n told kept conflict (Some most) =
    next-new n told part.Listing _ (next_of (tree n conflict most (answers_of told))) _ (λ asked e. tree-asks n most conflict (answers_of told) asked e) (λ found e. tt)

conflict-new : (n : ℕ) (told : Told) (kept : List ℕ) (list : Option ℕ) → AsksNewKey n told (conflict_part n told kept list)
conflict-new n told kept list =
    next-new n told part.Conflict _ (qx (range_with_len 1 n) (answers_of told)) _
    (λ asked e. qx-asks n (range_with_len 1 n) (answers_of told) asked (range-rises n) e)
    (λ conflict e. listing-new n told kept conflict list)

kept-new : (n : ℕ) (told : Told) (list : Option ℕ) → AsksNewKey n told (kept_part n told list)
kept-new n told list =
    next-new n told part.Kept no_parts (fd (range_with_len 1 n) (answers_of told)) _
    (λ asked e. fd-asks n (range_with_len 1 n) (answers_of told) asked (range-rises n) e)
    (λ kept e. conflict-new n told kept list)

pub want-new : (plan : JobPlan) (told : Told) → AsksNewKey plan.requirements told (want plan told)
want-new plan told =
    let n = plan.requirements in
    verdict-new n told part.All (full_key n) no_parts (verdict_in told (full_key n)) (ends outcome.Consistent) (background_part n told plan.list) refl refl (range-rises n) tt
    (verdict-new n told part.Background (empty_key n) no_parts (verdict_in told (empty_key n)) (kept_part n told plan.list) (ends outcome.Background) refl refl tt (kept-new n told plan.list) tt)
