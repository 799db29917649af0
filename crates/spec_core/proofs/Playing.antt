-- A world over a list of events.
use Rattle.std.proofs.Common.{◌≡◌, ◌∙◌, sym, ap, subst, ℕ, List, ◌++◌, Option, Some, None}
use Rattle.std.specs.Prelude.{IfSome}
use Rattle.clauses.specs.Problem.{ClauseProblem}
use Rattle.script.specs.declared.job.JobPlan.{JobPlan}
use Rattle.script.specs.declared.job.Outcome.{Outcome}
use Rattle.script.specs.Job.{Told}
use Rattle.script.specs.Sequential.{needs, result_of, verdicts_of}
use Rattle.spec_core.specs.declared.event.Event.{Event}
use Rattle.spec_core.specs.World.{IsAlong, World, WorldOn, ends_as, new_world, world_over}

abbrev pub played : WorldOn → List Event → WorldOn
played on events = record { problem = on.problem; world = world_over (verdicts_of on.problem) events on.world }

-- what the law over all lists of events says of the world that is handed out
module _ (problem : ClauseProblem) (plan : JobPlan) (workers entries : ℕ) (events slice : List Event) (start end : WorldOn) (begun : start ≡ record { problem = problem; world = new_world plan workers entries }) (done : end ≡ played start slice) (same : slice ≡ events) where
  ended : end.world ≡ world_over (verdicts_of problem) events (new_world plan workers entries)
  ended =
      ap (λ (w : WorldOn). w.world) (done ∙ ap (λ (w : WorldOn). played w slice) begun)
      ∙ ap (λ (es : List Event). world_over (verdicts_of problem) es (new_world plan workers entries)) same

  pub ended-along : IsAlong (verdicts_of problem) (world_over (verdicts_of problem) events (new_world plan workers entries)) → IsAlong (verdicts_of problem) end.world
  ended-along is = subst (IsAlong (verdicts_of problem)) (sym ended) is

  pub ended-begins : ((rest : Told) × (needs plan (verdicts_of problem) ≡ (world_over (verdicts_of problem) events (new_world plan workers entries)).told ++ rest)) → (rest : Told) × (needs plan (verdicts_of problem) ≡ end.world.told ++ rest)
  ended-begins is =
      let P : World → Type 0 = λ w. (rest : Told) × (needs plan (verdicts_of problem) ≡ w.told ++ rest) in
      subst P (sym ended) is

  pub ended-outcome : ((outcome : Outcome) → ends_as (world_over (verdicts_of problem) events (new_world plan workers entries)) ≡ Some outcome → result_of plan (verdicts_of problem) ≡ Some outcome)
      → IfSome (ends_as end.world) (λ outcome. result_of plan (verdicts_of problem) ≡ Some outcome)
  ended-outcome is = by (ends_as end.world) (ap ends_as (sym ended))
    where
      by : (o : Option Outcome) → ends_as (world_over (verdicts_of problem) events (new_world plan workers entries)) ≡ o → IfSome o (λ outcome. result_of plan (verdicts_of problem) ≡ Some outcome)
      by None e = tt
      by (Some outcome) e = is outcome e
