-- Worked examples of events on a world. Each computes.
use Rattle.std.specs.Prelude.{◌≡◌, ℕ, List, [], ◌∷◌, Some, None, refl}
use Rattle.req_keys.specs.Key.{PositionSet}
use Rattle.req_keys.specs.Wanting.{key_over}
use Rattle.req_keys.specs.declared.verdict.Verdict.{Verdict}
use Rattle.req_keys.specs.declared.verdict.Verdict.TheVariants.{Unsat}
use Rattle.script.specs.declared.job.JobPlan.{JobPlan}
use Rattle.script.specs.declared.job.Outcome.TheVariants as outcome
use Rattle.spec_core.specs.declared.event.Event.TheVariants.{Post, Draw, Claim, Answer, GiveUp, Cancel, Take, Use, Solve, Stop, Leave, Round}
use Rattle.spec_core.specs.Rounds.{goes, world_through}
use Rattle.spec_core.specs.World.{World, ends_as, new_world, world_after, world_over}

abbrev plan : ℕ → JobPlan
plan n = record { requirements = n; list = None }

abbrev none : PositionSet → Verdict
none key = Unsat

abbrev key : List ℕ → PositionSet
key set = key_over 1 set

-- a job about no requirements, on which nothing can be met, is done by one search
pub solved-background : ends_as (world_over none (Solve ∷ []) (new_world (plan 0) 1 2)) ≡ Some outcome.Background
solved-background = refl

-- nothing can be taken from an empty board, and no entry is used
pub nothing_there : (world_after none (Take 0) (new_world (plan 1) 1 2) ≡ None) × (world_after none (Use 0) (new_world (plan 1) 1 2) ≡ None)
nothing_there = (refl, refl)

-- an entry with the asked key is posted, drawn, claimed, answered and used
abbrev answered : World
answered = world_over none (Post (key (1 ∷ [])) ∷ Draw 1 ∷ Claim 1 ∷ Answer 1 ∷ []) (new_world (plan 1) 1 2)

pub used-answer : (world_over none (Use 0 ∷ []) answered).told ≡ (key (1 ∷ []), Unsat) ∷ []
used-answer = refl

-- a wrong prediction is an ordinary entry, and isn't used while another key is asked
pub wrong_prediction : world_after none (Use 0) (world_over none (Post (key []) ∷ Draw 1 ∷ Claim 1 ∷ Answer 1 ∷ []) (new_world (plan 1) 1 2)) ≡ None
wrong_prediction = refl

-- neither is an entry with the mark
pub cancelled-unused : world_after none (Use 0) (world_over none (Cancel 0 ∷ []) answered) ≡ None
cancelled-unused = refl

-- a worker that runs on ends late, and its entry has no answer
pub late-answer : world_after none (Use 0) (world_over none (Post (key (1 ∷ [])) ∷ Draw 1 ∷ Claim 1 ∷ Cancel 0 ∷ Answer 1 ∷ []) (new_world (plan 1) 1 2)) ≡ None
late-answer = refl

-- nothing is posted of a job that is done
pub done-posts_nothing : world_after none (Post (key_over 0 [])) (world_over none (Solve ∷ []) (new_world (plan 0) 1 2)) ≡ None
done-posts_nothing = refl

-- no ticket past the entries, and no round while a worker has a ticket
pub draw-past_the_entries : world_after none (Draw 2) (world_over none (Draw 1 ∷ []) (new_world (plan 1) 2 1)) ≡ None
draw-past_the_entries = refl

pub round-with_a_ticket : world_after none Round (world_over none (Draw 1 ∷ Stop ∷ []) (new_world (plan 1) 1 2)) ≡ None
round-with_a_ticket = refl

-- the told pairs stay over a round
pub round-keeps_told : (world_over none (Solve ∷ Draw 1 ∷ Stop ∷ Leave 1 ∷ Round ∷ []) (new_world (plan 1) 1 2)) ≡ record (new_world (plan 1) 1 2) { told = (key (1 ∷ []), Unsat) ∷ [] }
round-keeps_told = refl

-- on a stopped board one worker runs its entry and another has a ticket alone
abbrev stopped : World
stopped = world_over none (Post (key (1 ∷ [])) ∷ Draw 1 ∷ Draw 2 ∷ Claim 1 ∷ Stop ∷ []) (new_world (plan 1) 2 2)

pub round-goes : (goes stopped.board 1 ≡ GiveUp 1) × (goes stopped.board 2 ≡ Leave 2)
round-goes = (refl, refl)

-- they go in either order, and the next round begins on a new board
pub round-anew : (world_through none (GiveUp 1 ∷ Leave 2 ∷ Round ∷ []) stopped ≡ Some (new_world (plan 1) 2 2)) × (world_through none (Leave 2 ∷ GiveUp 1 ∷ Round ∷ []) stopped ≡ Some (new_world (plan 1) 2 2))
round-anew = (refl, refl)

-- not while one of them is there, and neither goes as the other does
pub round-early : (world_through none (GiveUp 1 ∷ Round ∷ []) stopped ≡ None) × (world_through none (Leave 1 ∷ []) stopped ≡ None) × (world_through none (GiveUp 2 ∷ []) stopped ≡ None)
round-early = (refl, refl, refl)
