-- A job that is told each wanted key with its verdict.
use Rattle.std.proofs.Common.{◌≡◌, refl, ℕ, Bool, true, false, ◌-◌, ◌<◌, [], ◌∷◌, ◌++◌, length, Some, None, arith, sym, ap, subst, ◌∙◌, length-append}
use Rattle.std.specs.Prelude.{is_some}
use Rattle.std.proofs.lemmas.Option.{none-some, same_Some}
use Rattle.req_keys.specs.Key.{PositionSet}
use Rattle.req_keys.specs.declared.verdict.Verdict.{Verdict}
use Rattle.script.specs.declared.job.JobPlan.{JobPlan}
use Rattle.script.specs.declared.job.Outcome.{Outcome}
use Rattle.script.specs.declared.job.Part.{Part}
use Rattle.look_ahead.specs.Posting.{PostingState, nothing_posted}
use Rattle.look_ahead.specs.Postings.{turn_at, turns_over}
use Rattle.script.specs.Job.{Told, Wanted, asks, ends, want}
use Rattle.script.specs.Running.{Running, IsAsking, IsEnded, key_in, want_after}
use Rattle.script.specs.Sequential.{IsSoFar, check_count, needs, outcome_of, result_of}
use Rattle.script.proofs.SequentialRuns.{few-checks, so_far-checks, so_far-push, so_far-all, want-key}

-- the part that asks a wanted key
pub asking : (w : Wanted) (key : PositionSet) → Some key ≡ key_in w → (part : Part) × (w ≡ asks part key)
asking (asks part other) key e = (part, ap (asks part) (sym (same_Some key other e)))
asking (ends outcome) key e = absurd (none-some key (sym e))

pub is_asking : (w : Wanted) (part : Part) (key : PositionSet) → w ≡ asks part key → IsAsking w
is_asking (asks p k) part key e = tt
is_asking (ends outcome) part key e = (cc)

pub ended : (w : Wanted) → None ≡ key_in w → IsEnded w
ended (asks part key) e = absurd (none-some key e)
ended (ends outcome) e = tt

module _ (plan : JobPlan) (verdict : PositionSet → Verdict) (run : Running) (part : Part) (key : PositionSet) (same : run.plan ≡ plan) (far : IsSoFar plan verdict run.told) (wants : want_after run ≡ asks part key) where
  wanted : want plan run.told ≡ asks part key
  wanted = ap (λ (p : JobPlan). want p run.told) (sym same) ∙ wants

  pub size : key.n ≡ plan.requirements
  size = (want-key plan run.told part key wanted).size

  module _ (v : Verdict) (new : Running) (is : v ≡ verdict key) (told : new ≡ record { plan = run.plan; told = run.told ++ (key, v) ∷ [] }) where
    pub same_plan : new.plan ≡ plan
    same_plan = ap (λ (r : Running). r.plan) told ∙ same

    more : new.told ≡ run.told ++ (key, verdict key) ∷ []
    more = ap (λ (r : Running). r.told) told ∙ ap (λ (x : Verdict). run.told ++ (key, x) ∷ []) is

    pub so_far : IsSoFar plan verdict new.told
    so_far = subst (IsSoFar plan verdict) (sym more) (so_far-push plan verdict run.told part key far wanted)

    pub fewer_left : check_count plan - length new.told < check_count plan - length run.told
    fewer_left =
        let few = few-checks plan.requirements verdict new.told (so_far-checks plan verdict new.told so_far) in
        let one = length-append run.told ((key, verdict key) ∷ []) in
        let long : length new.told ≡ length (run.told ++ (key, verdict key) ∷ []) = ap length more in
        omega (arith, few, one, long)

-- what has ended is the whole run
module _ (plan : JobPlan) (verdict : PositionSet → Verdict) (run : Running) (same : run.plan ≡ plan) (far : IsSoFar plan verdict run.told) (outcome : Outcome) (wants : want_after run ≡ ends outcome) where
  wanted_end : want plan run.told ≡ ends outcome
  wanted_end = ap (λ (p : JobPlan). want p run.told) (sym same) ∙ wants

  pub all_needed : run.told ≡ needs plan verdict
  all_needed = so_far-all plan verdict run.told outcome far wanted_end

  pub resulting : result_of plan verdict ≡ Some outcome
  resulting = ap outcome_of (ap (want plan) (sym all_needed) ∙ wanted_end)

-- one turn more
pub more_turns : (plan : JobPlan) (depth entries : ℕ) (run : Running) (key : PositionSet) (v : Verdict) (new : Running) (before after : PostingState)
    → run.plan ≡ plan → new ≡ record { plan = run.plan; told = run.told ++ (key, v) ∷ [] }
    → before ≡ turns_over plan depth [] run.told (nothing_posted entries) → after ≡ turn_at run.plan depth run.told key before
    → ((plan : JobPlan) (depth entries : ℕ) (told : Told) (key : PositionSet) (verdict : Verdict) → turns_over plan depth [] (told ++ (key, verdict) ∷ []) (nothing_posted entries) ≡ turn_at plan depth told key (turns_over plan depth [] told (nothing_posted entries)))
    → after ≡ turns_over plan depth [] new.told (nothing_posted entries)
more_turns plan depth entries run key v new before after same told so_far turn goes_on =
    turn
    ∙ ap (λ (p : JobPlan). turn_at p depth run.told key before) same
    ∙ ap (turn_at plan depth run.told key) so_far
    ∙ sym (goes_on plan depth entries run.told key v)
    ∙ ap (λ (r : Running). turns_over plan depth [] r.told (nothing_posted entries)) (sym told)

-- whether a key is asked, as a test
pub asked_key : (w : Wanted) (b : Bool) → b ≡ is_some (key_in w) → b ≡ true → (part : Part) × (key : PositionSet) × (w ≡ asks part key)
asked_key (asks part key) b e holds = (part, key, refl)
asked_key (ends outcome) b e holds = absurd (cc)

pub asked_none : (w : Wanted) (b : Bool) → b ≡ is_some (key_in w) → b ≡ false → key_in w ≡ None
asked_none (asks part key) b e fails = absurd (cc)
asked_none (ends outcome) b e fails = refl

-- where nothing was asked the run is as it was
module _ (plan : JobPlan) (verdict : PositionSet → Verdict) (run end : Running) (is : end ≡ run) where
  pub end_plan : run.plan ≡ plan → end.plan ≡ plan
  end_plan same = ap (λ (r : Running). r.plan) is ∙ same

  pub end_far : IsSoFar plan verdict run.told → IsSoFar plan verdict end.told
  end_far far = let P : Running → Type 0 = λ r. IsSoFar plan verdict r.told in subst P (sym is) far

  pub end_asks : key_in (want_after run) ≡ None → IsEnded (want_after end)
  end_asks none = ended (want_after end) (sym (ap (λ (r : Running). key_in (want_after r)) is ∙ none))

  pub end_turns : (depth entries : ℕ) (before after : PostingState) → after ≡ before → before ≡ turns_over plan depth [] run.told (nothing_posted entries) → after ≡ turns_over plan depth [] end.told (nothing_posted entries)
  end_turns depth entries before after same turns = same ∙ turns ∙ ap (λ (r : Running). turns_over plan depth [] r.told (nothing_posted entries)) (sym is)
