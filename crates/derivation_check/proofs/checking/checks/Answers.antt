use Rattle.std.proofs.Common.{◌≡◌, ◌∙◌, sym, ap, subst}
use Rattle.std.specs.Prelude.{◌↔◌}
use Rattle.clauses.specs.Closure.{AreDerived, IsDerivation}
use Rattle.clauses.specs.Problem.{clauses_with}
use Rattle.derivation_check.specs.declared.checked.Checked.{Checked}
use Rattle.derivation_check.specs.declared.checked.Checked.TheVariants as checked
use Rattle.derivation_check.specs.Checking.{answer_of, check, first_wrong, EndsEmpty, IsFirstWrong}
use Rattle.derivation_check.proofs.CheckLaws.{yes-iff, yes-unsatisfiable, at-iff, end-iff}
use Rattle.derivation_check.proofs.checking.checks.Goals as goal

is_check : (c : goal.After-answer_of) → c.answer_of.result ≡ check (clauses_with c.args.problem.now c.args.key.now) c.args.lines.now
is_check c =
    c.answer_of.ensures
    ∙ ap (λ wrong. answer_of wrong c.ends_empty.result) c.in_ok-wrong.ensures
    ∙ ap (answer_of (first_wrong (clauses_with c.args.problem.now c.args.key.now) c.args.lines.now)) c.ends_empty.ensures

pub returns-clause-yes : goal.returns-clause-yes
returns-clause-yes c =
    subst (λ (r : Checked). (r ≡ checked.Yes) ↔ IsDerivation (clauses_with c.args.problem.now c.args.key.now) c.args.lines.now) (sym (is_check c))
    (yes-iff (clauses_with c.args.problem.now c.args.key.now) c.args.lines.now)

pub returns-clause-unsatisfiable : goal.returns-clause-unsatisfiable
returns-clause-unsatisfiable c = λ yes. yes-unsatisfiable (clauses_with c.args.problem.now c.args.key.now) c.args.lines.now (sym (is_check c) ∙ yes)

pub returns-clause-no_at : goal.returns-clause-no_at
returns-clause-no_at c = λ number.
    subst (λ (r : Checked). (r ≡ checked.NoAt number) ↔ IsFirstWrong (clauses_with c.args.problem.now c.args.key.now) c.args.lines.now number) (sym (is_check c))
    (at-iff (clauses_with c.args.problem.now c.args.key.now) c.args.lines.now number)

pub returns-clause-no_end : goal.returns-clause-no_end
returns-clause-no_end c =
    subst (λ (r : Checked). (r ≡ checked.NoEnd) ↔ (AreDerived (clauses_with c.args.problem.now c.args.key.now) c.args.lines.now × (¬ EndsEmpty c.args.lines.now))) (sym (is_check c))
    (end-iff (clauses_with c.args.problem.now c.args.key.now) c.args.lines.now)
