-- A job under way, from one turn to the next.
use Rattle.std.proofs.Common.{◌≡◌, refl, inr, ℕ, ◌-◌, ◌<◌, length, [], ◌∷◌, ◌++◌, Some, None, sym, ap, subst, ◌∙◌}
use Rattle.std.specs.Prelude.{IfOk, Option, Result, Ok, Err}
use Rattle.clauses.specs.Problem.{ClauseProblem}
use Rattle.req_keys.specs.Key.{PositionSet}
use Rattle.req_keys.specs.declared.verdict.Verdict.{Verdict}
use Rattle.script.specs.declared.job.JobPlan.{JobPlan}
use Rattle.script.specs.declared.job.Outcome.{Outcome}
use Rattle.script.specs.declared.job.Part.{Part}
use Rattle.script.specs.Job.{Told, asks, ends}
use Rattle.script.specs.Running.{Running, IsAsking, key_in, want_after}
use Rattle.script.specs.Sequential.{IsSoFar, check_count, needs, result_of, verdicts_of}
use Rattle.look_ahead.specs.Posting.{PostingState, after_turn, nothing_posted, orders_of, settled_by}
use Rattle.look_ahead.specs.Postings.{posting, turn_at, turns_over}
use Rattle.look_ahead.specs.declared.orders.Orders.{Orders}
use Rattle.diag_workers.specs.inside.Course.{BeginsRound, IsBetween, IsOrdered, IsNext, guessed, posted_so_far}
use Rattle.diag_workers.proofs.AloneLaws.{all_needed, asking, ended, fewer_left, is_asking, more_turns, resulting, so_far}

-- what `turns_go_on` says of one pair more
abbrev pub GoesOn : Type 0
GoesOn = (plan : JobPlan) (depth entries : ℕ) (told : Told) (key : PositionSet) (verdict : Verdict)
    → turns_over plan depth [] (told ++ (key, verdict) ∷ []) (nothing_posted entries) ≡ turn_at plan depth told key (turns_over plan depth [] told (nothing_posted entries))

pub asks-asking : (run : Running) (key : PositionSet) → key_in (want_after run) ≡ Some key → IsAsking (want_after run)
asks-asking run key e =
    let by = asking (want_after run) key (sym e) in
    is_asking (want_after run) by.0 key by.1

-- ---- the turn that has begun is served

module _ (problem : ClauseProblem) (depth entries : ℕ) (run : Running) (posting : PostingState) (orders : Orders) (begun : IsOrdered problem depth entries run posting orders) where
  pub served-between : (new : Running) (settled : PostingState) → GoesOn
      → new ≡ record { plan = run.plan; told = run.told ++ (begun.key, verdicts_of problem begun.key) ∷ [] } → settled ≡ settled_by begun.key posting
      → IsBetween problem depth entries new settled
  served-between new settled goes_on told is =
      let verdict = verdicts_of problem in
      let by = asking (want_after run) begun.key (sym begun.asks) in
      let same : new.plan ≡ run.plan = ap (λ (r : Running). r.plan) told in
      let far : IsSoFar run.plan verdict new.told = so_far run.plan verdict run by.0 begun.key refl begun.far by.1 (verdict begun.key) new refl told in
      let P : JobPlan → Type 0 = λ p. IsSoFar p verdict new.told in
      let turn : settled ≡ turn_at run.plan depth run.told begun.key (posted_so_far depth entries run) = is ∙ ap (settled_by begun.key) begun.turned in
      let turns : settled ≡ turns_over run.plan depth [] new.told (nothing_posted entries) =
      more_turns run.plan depth entries run begun.key (verdict begun.key) new (posted_so_far depth entries run) settled refl told refl turn goes_on in
      record {
        far = subst P (sym same) far;
        turns = turns ∙ ap (λ (p : JobPlan). turns_over p depth [] new.told (nothing_posted entries)) (sym same);
      }

-- ---- the next turn begins

pub next-none : (problem : ClauseProblem) (depth entries : ℕ) (run : Running) (old new : PostingState) → None ≡ key_in (want_after run) → new ≡ old
    → IsBetween problem depth entries run old → IsNext problem depth entries run new None
next-none problem depth entries run old new none same between =
    (record { far = between.far; turns = same ∙ between.turns }, ended (want_after run) none)

pub next-some : (problem : ClauseProblem) (depth entries : ℕ) (run : Running) (old new : PostingState) (key : PositionSet) (orders : Orders) → Some key ≡ key_in (want_after run)
    → new ≡ after_turn key (guessed depth run) old → orders ≡ orders_of key (guessed depth run) old
    → IsBetween problem depth entries run old → IsNext problem depth entries run new (Some orders)
next-some problem depth entries run old new key orders asked turned ordered between =
    record {
      key = key;
      asks = sym asked;
      far = between.far;
      turned = turned ∙ ap (after_turn key (guessed depth run)) between.turns;
      ordered = ordered ∙ ap (orders_of key (guessed depth run)) between.turns;
    }

-- ---- what a call answers

-- what follows from what is answered, where it isn't want of memory
pub if_ok : {A E : Type 0} {P Q : A → Type 0} (found : Result A E) → ((a : A) → P a → Q a) → IfOk found P → IfOk found Q
if_ok (Ok a) f h = f a h
if_ok (Err e) f h = tt

-- what `next_turn` says
abbrev pub Nexts : ℕ → Running → PostingState → PostingState → Option Orders → Type 0
Nexts depth run old new next = (problem : ClauseProblem) (entries : ℕ) → IsBetween problem depth entries run old → IsNext problem depth entries run new next

pub given-next : {E : Type 0} (found : Result (Option Orders) E) (problem : ClauseProblem) (depth entries : ℕ) (run : Running) (old new : PostingState) → IsBetween problem depth entries run old
    → IfOk found (Nexts depth run old new) → IfOk found (IsNext problem depth entries run new)
given-next found problem depth entries run old new between = if_ok found (λ next h. h problem entries between)

-- ---- a job begins

pub begun-between : (problem : ClauseProblem) (depth entries : ℕ) (plan : JobPlan) (run : Running) (state : PostingState) → run ≡ record { plan = plan; told = [] } → state ≡ nothing_posted entries → IsBetween problem depth entries run state
begun-between problem depth entries plan run state is none =
    let P : Running → Type 0 = λ r. IsBetween problem depth entries r state in
    subst P (sym is) (record { far = (0, refl); turns = none })

-- its first turn begins a round
pub begins-first : (plan : JobPlan) (run after : Running) (next : Option Orders) → run ≡ record { plan = plan; told = [] } → after ≡ run → BeginsRound after next
begins-first plan run after None is same = tt
begins-first plan run after (Some orders) is same = inr (ap (λ (r : Running). r.told) (same ∙ is))

-- ---- a check is made with its turn

-- what was told, over an equal problem
told_over : (run : Running) (key : PositionSet) (of problem : ClauseProblem) (new : Running) → of ≡ problem → new ≡ record { plan = run.plan; told = run.told ++ (key, verdicts_of of key) ∷ [] }
    → new ≡ record { plan = run.plan; told = run.told ++ (key, verdicts_of problem key) ∷ [] }
told_over run key of problem new is told = told ∙ ap (λ (p : ClauseProblem). record { plan = run.plan; told = run.told ++ (key, verdicts_of p key) ∷ [] }) is

pub checked-plan : (of : ClauseProblem) (run : Running) (key : PositionSet) (new : Running) → new ≡ record { plan = run.plan; told = run.told ++ (key, verdicts_of of key) ∷ [] } → new.plan ≡ run.plan
checked-plan of run key new told = ap (λ (r : Running). r.plan) told

pub checked-between : (problem of : ClauseProblem) (depth entries : ℕ) (run : Running) (state : PostingState) (part : Part) (key : PositionSet) → want_after run ≡ asks part key → of ≡ problem
    → IsBetween problem depth entries run state → (new : Running) (now : PostingState) → GoesOn
    → new ≡ record { plan = run.plan; told = run.told ++ (key, verdicts_of of key) ∷ [] } → now ≡ turn_at run.plan depth run.told key state
    → IsBetween problem depth entries new now
checked-between problem of depth entries run state part key wants is between new now goes_on told turn =
    let verdict = verdicts_of problem in
    let said = told_over run key of problem new is told in
    let same = checked-plan problem run key new said in
    let far : IsSoFar run.plan verdict new.told = so_far run.plan verdict run part key refl between.far wants (verdict key) new refl said in
    let P : JobPlan → Type 0 = λ p. IsSoFar p verdict new.told in
    let turns : now ≡ turns_over run.plan depth [] new.told (nothing_posted entries) =
    more_turns run.plan depth entries run key (verdict key) new state now refl said between.turns turn goes_on in
    record {
      far = subst P (sym same) far;
      turns = turns ∙ ap (λ (p : JobPlan). turns_over p depth [] new.told (nothing_posted entries)) (sym same);
    }

pub checked-fewer : (plan : JobPlan) (problem of : ClauseProblem) (depth entries : ℕ) (run : Running) (state : PostingState) (part : Part) (key : PositionSet) → want_after run ≡ asks part key → of ≡ problem → run.plan ≡ plan
    → IsBetween problem depth entries run state → (new : Running)
    → new ≡ record { plan = run.plan; told = run.told ++ (key, verdicts_of of key) ∷ [] }
    → check_count plan - length new.told < check_count plan - length run.told
checked-fewer plan problem of depth entries run state part key wants is same between new told =
    let verdict = verdicts_of problem in
    let P : JobPlan → Type 0 = λ p. IsSoFar p verdict run.told in
    fewer_left plan verdict run part key same (subst P same between.far) wants (verdict key) new refl (told_over run key of problem new is told)

pub unchecked : (problem : ClauseProblem) (depth entries : ℕ) (run : Running) (state : PostingState) → IsBetween problem depth entries run state → key_in (want_after run) ≡ None
    → (new : Running) (now : PostingState) → new ≡ run → now ≡ state → IsNext problem depth entries new now None
unchecked problem depth entries run state between none new now same still =
    let P : Running → Type 0 = λ r. IsNext problem depth entries r now None in
    subst P (sym same) (record { far = between.far; turns = still ∙ between.turns }, ended (want_after run) (sym none))

-- ---- the job is done

module _ (plan : JobPlan) (problem : ClauseProblem) (depth entries : ℕ) (run : Running) (state : PostingState) (same : run.plan ≡ plan) (done : IsNext problem depth entries run state None) (outcome : Outcome) (wants : want_after run ≡ ends outcome) where
  far : IsSoFar plan (verdicts_of problem) run.told
  far = let P : JobPlan → Type 0 = λ p. IsSoFar p (verdicts_of problem) run.told in subst P same done.0.far

  pub done-used : run.told ≡ needs plan (verdicts_of problem)
  done-used = all_needed plan (verdicts_of problem) run same far outcome wants

  pub done-outcome : result_of plan (verdicts_of problem) ≡ Some outcome
  done-outcome = resulting plan (verdicts_of problem) run same far outcome wants

  pub done-posting : state ≡ posting plan (verdicts_of problem) depth entries
  done-posting =
      done.0.turns
      ∙ ap (λ (p : JobPlan). turns_over p depth [] run.told (nothing_posted entries)) same
      ∙ ap (λ (t : Told). turns_over plan depth [] t (nothing_posted entries)) done-used
