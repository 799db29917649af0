use Rattle.std.proofs.Common.{◌∙◌, ap, sym, subst, arith, ◌≤◌, length, take}
use Rattle.propagation.specs.Propagation.{Propagation}
use Rattle.solver.specs.inside.Trials.{Trying, IsTrial, tried_of}
use Rattle.solver.proofs.TrialLaws.{few-tried, trial-shorter, shown_by, shown-shorter}
use Rattle.solver.proofs.trial.Trial.keep.Goals as goal

pub overflow_cast-count : goal.overflow_cast-count
overflow_cast-count c =
    let count : c.args.count ≤ length (tried_of c.self.inside.propagator c.self.inside.fixed) = subst (λ (s : Trying). c.args.count ≤ length s.tried) (sym c.self.view_is) c.requires in
    let few = few-tried c.self.inside.problem.now c.self.inside.first c.self.inside.propagator c.self.inside.fixed c.args.count c.self.invariant in
    omega arith

pub overflow_add-self-inside : goal.overflow_add-self-inside
overflow_add-self-inside c =
    let count : c.args.count ≤ length (tried_of c.self.inside.propagator c.self.inside.fixed) = subst (λ (s : Trying). c.args.count ≤ length s.tried) (sym c.self.view_is) c.requires in
    let few = few-tried c.self.inside.problem.now c.self.inside.first c.self.inside.propagator c.self.inside.fixed c.args.count c.self.invariant in
    omega arith

pub invariant_of-self : goal.invariant_of-self
invariant_of-self c =
    subst (λ at. IsTrial c.self.inside.problem.now c.self.inside.first at c.self.inside.fixed) (sym c.back_to.ensures)
    (trial-shorter c.self.inside.problem.now c.self.inside.first c.self.inside.propagator c.self.inside.fixed c.args.count c.self.invariant)

pub returns : goal.returns
returns c =
    ap (λ (at : Propagation). shown_by c.self.inside.problem.now c.self.inside.first at c.self.inside.fixed) c.back_to.ensures
    ∙ shown-shorter c.self.inside.problem.now c.self.inside.first c.self.inside.propagator c.self.inside.fixed c.args.count c.self.invariant
    ∙ ap (λ (s : Trying). record s { tried = take c.args.count s.tried }) c.self.view_is
