use Rattle.std.proofs.Common.{◌∙◌, sym, ap, subst, [], ◌∷◌, ◌++◌}
use Rattle.clauses.specs.Closure.{follows}
use Rattle.propagation.specs.Propagation.{Propagation}
use Rattle.derivation_check.specs.inside.Checked.{IsChecked}
use Rattle.derivation_check.specs.Lines.{Lines, given}
use Rattle.derivation_check.proofs.CheckerLaws.{checked-follows, checked-longer, restored}
use Rattle.derivation_check.proofs.checker.Checker.accepts.Goals as goal

pub invariant_of-self : goal.invariant_of-self
invariant_of-self c =
    subst (λ (at : Propagation). IsChecked c.self.inside.problem.now c.self.inside.key c.self.inside.roots at)
    (sym
    (c.in_ok-learn.ensures.ok
    ∙ ap (λ (at : Propagation). record at { learned = at.learned ++ c.args.line.now ∷ [] })
    (restored c.self.inside.problem.now c.self.inside.key c.self.inside.roots c.self.inside.propagator c.self.invariant c.follows-yes.new.propagator c.follows-yes.ensures.behind c.back_to.new.self c.back_to.ensures)))
    (checked-longer c.self.inside.problem.now c.self.inside.key c.self.inside.roots c.self.inside.propagator c.self.invariant c.args.line.now)

pub returns-in_ok-learn-clause-follows : goal.returns-in_ok-learn-clause-follows
returns-in_ok-learn-clause-follows c =
    c.follows-yes.ensures.follows
    ∙ checked-follows c.self.inside.problem.now c.self.inside.key c.self.inside.roots c.self.inside.propagator c.self.invariant c.args.line.now
    ∙ ap (λ (so_far : Lines). follows (given so_far) c.args.line.now) c.self.view_is

pub returns-else-yes-clause-follows : goal.returns-else-yes-clause-follows
returns-else-yes-clause-follows c =
    c.follows-yes.ensures.follows
    ∙ checked-follows c.self.inside.problem.now c.self.inside.key c.self.inside.roots c.self.inside.propagator c.self.invariant c.args.line.now
    ∙ ap (λ (so_far : Lines). follows (given so_far) c.args.line.now) c.self.view_is
