use Rattle.std.proofs.Common.{ℕ, subst}
use Rattle.clause_form.specs.ClauseForm.{problem_of}
use Rattle.certificate.specs.Accepted.{IsDecided, UnlessLimit}
use Rattle.certificate.specs.Writing.{IsOver}
use Rattle.certificate.proofs.RunDecides.{run-decided}
use Rattle.certificate.proofs.WrittenAccepted.{decided-accepted}
use Rattle.certificate.proofs.accepted.written_is_accepted.Goals as goal

pub returns-clause-decided : goal.returns-clause-decided
returns-clause-decided c = λ problem plan found e. run-decided problem plan found e

pub returns-clause-accepted : goal.returns-clause-accepted
returns-clause-accepted c = λ model config allowance rungs plan found stated lawful same e.
    let decided = run-decided (problem_of model config allowance rungs) plan found e in
    decided-accepted c.sat_is_an_assignment.ensures.sized c.sat_is_an_assignment.ensures.satisfied c.assignments_are_products.ensures.products
    c.unsat_is_derived.ensures.lines c.unsat_is_derived.ensures.derivation c.learned_clauses_name_others.ensures.members c.learned_clauses_name_others.ensures.below
    model config allowance rungs stated lawful found
    (subst (λ (n : ℕ). IsOver n found) same decided.0)
    (subst (λ (n : ℕ). UnlessLimit found (IsDecided (problem_of model config allowance rungs) n)) same decided.1)
