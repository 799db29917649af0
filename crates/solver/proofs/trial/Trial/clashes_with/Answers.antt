use Rattle.std.proofs.Common.{◌∙◌, ap, sym, subst, arith, ◌≤◌, length, take}
use Rattle.clauses.specs.Closure.{clash}
use Rattle.solver.specs.inside.Trials.{Trying, tried_of, with_tried}
use Rattle.solver.proofs.TrialLaws.{few-tried, kept-propagated}
use Rattle.solver.proofs.trial.Trial.clashes_with.Goals as goal

pub overflow_cast-count : goal.overflow_cast-count
overflow_cast-count c =
    let count : c.args.count ≤ length (tried_of c.self.inside.propagator c.self.inside.fixed) = subst (λ (s : Trying). c.args.count ≤ length s.tried) (sym c.self.view_is) c.requires in
    let few = few-tried c.self.inside.problem.now c.self.inside.first c.self.inside.propagator c.self.inside.fixed c.args.count c.self.invariant in
    omega arith

pub overflow_add-self-inside : goal.overflow_add-self-inside
overflow_add-self-inside c =
    let count : c.args.count ≤ length (tried_of c.self.inside.propagator c.self.inside.fixed) = subst (λ (s : Trying). c.args.count ≤ length s.tried) (sym c.self.view_is) c.requires in
    let few = few-tried c.self.inside.problem.now c.self.inside.first c.self.inside.propagator c.self.inside.fixed c.args.count c.self.invariant in
    omega arith

pub returns : goal.returns
returns c =
    c.clashes_within.ensures
    ∙ kept-propagated c.self.inside.problem.now c.self.inside.first c.self.inside.propagator c.self.inside.fixed c.args.count c.self.invariant
    ∙ ap (λ (s : Trying). clash (with_tried s (take c.args.count s.tried))) c.self.view_is
