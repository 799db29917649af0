-- Worked examples on how a worker ends, and on how often its search was told to stop. Each computes.
use Rattle.std.specs.Prelude.{◌≡◌, ℕ, true, false, refl}
use Rattle.std.proofs.Common.{⊎_elim, inl, inr}
use Rattle.lists.specs.Rising.{LAST}
use Rattle.check_table.specs.Found.{IsIdle}
use Rattle.check_table.specs.Views.{newcomer}
use Rattle.check_table.specs.declared.view.MainView.{MainView}
use Rattle.check_table.specs.declared.view.Stage.TheVariants.{Holds}
use Rattle.workers.specs.Ending.{HasEnded}
use Rattle.workers.specs.Stopping.{counted}

-- ---- the end

-- a worker that has just come may not end
pub newcomer-goes_on : (m : MainView) → HasEnded (newcomer m) → ⊥
newcomer-goes_on m ended = ⊎_elim (λ (end : (false ≡ true) × IsIdle (newcomer m)). let e = end.0 in cc) (λ (stop : false ≡ true). cc) ended

-- nor one that has a ticket and saw no stop
pub holder-goes_on : (m : MainView) (t : ℕ) → HasEnded (record (newcomer m) { stage = Holds t }) → ⊥
holder-goes_on m t ended = ⊎_elim (λ (end : (false ≡ true) × (Holds t ≡ (newcomer m).stage)). let e = end.0 in cc) (λ (stop : false ≡ true). cc) ended

pub out_of_tickets-ends : (m : MainView) → HasEnded (record (newcomer m) { done = true })
out_of_tickets-ends m = inl (refl, refl)

-- one that saw the stop may end with a ticket
pub stopped-ends : (m : MainView) (t : ℕ) → HasEnded (record (newcomer m) { stage = Holds t; saw_stop = true })
stopped-ends m t = inr refl

-- ---- the count

pub told-once : counted true 0 ≡ 1
told-once = refl

pub told-to_go_on : counted false 3 ≡ 3
told-to_go_on = refl

pub told-at_the_last : counted true LAST ≡ LAST
told-at_the_last = refl
