use Rattle.std.proofs.Common.{◌≡◌, ⊎_elim, Some, None, List, take}
use Rattle.std.specs.Prelude.{Contains}
use Rattle.clauses.specs.declared.literal.Lit.{Lit}
use Rattle.clauses.specs.Clause.{negation}
use Rattle.propagation.specs.inside.Places.{IsOpenBeside, IsUnit}
use Rattle.propagation.proofs.ValueLaws.{All-members}
use Rattle.propagation.proofs.placing.place_of.Goals as goal

-- nothing else is open
unit-from : (set clause : List Lit) (one : Lit) → IsOpenBeside set clause None (Some one) → IsOpenBeside set clause (Some one) None → IsUnit set clause one
unit-from set clause one here rest = record {
  inside = here.0;
  not_false = here.2;
  others = λ l m ne. ⊎_elim (λ (e : Some one ≡ Some l). let same : l ≡ one = cc in absurd (ne same)) (λ (f : Contains set (negation l)). f) (rest l m);
}

pub returns-in_default : goal.returns-in_default
returns-in_default c =
    let set = take c.args.end c.args.trail.now.literals in
    All-members (λ l. Contains set (negation l)) c.args.clause.now (λ l m.
    ⊎_elim (λ (e : None ≡ Some l). absurd (cc)) (λ (f : Contains set (negation l)). f) (c.in_default.ensures l m))

pub returns-in-Some-late_in : goal.returns-in-Some-late_in
returns-in-Some-late_in c =
    let set = take c.args.end c.args.trail.now.literals in
    (unit-from set c.args.clause.now c.in-Some.one c.in-Some.ensures c.in_default-open_beside.ensures, c.in-Some-late_in.ensures.0, c.in-Some-late_in.ensures.1, c.in-Some-late_in.ensures.2)

pub returns-in-None : goal.returns-in-None
returns-in-None c =
    let set = take c.args.end c.args.trail.now.literals in
    (unit-from set c.args.clause.now c.in-Some.one c.in-Some.ensures c.in_default-open_beside.ensures, c.in-None.ensures)
