use Rattle.std.proofs.Common.{◌∙◌, sym, subst}
use Rattle.feature_tree.specs.FormulaAnswer.{formula_answer}
use Rattle.feature_tree.specs.Refusals.{StandsFor, IsBad}
use Rattle.feature_tree.specs.Roles.{roles_of}
use Rattle.feature_tree.specs.declared.reader.error.FormulaError.TheVariants.{Unsupported, BadFormula}
use Rattle.feature_tree.proofs.FormulaAnswerLaws.{formula_is_answered, refusal_is_answered}
use Rattle.feature_tree.proofs.FormulaLaws.{formula_found, refusal_found, at_err, at_refusal}
use Rattle.feature_tree.proofs.ReadNameLaws.{stands_below}
use Rattle.feature_tree.proofs.reader.formula_of.Goals as goal

pub returns-then-has_unsupported-clause-refused : goal.returns-then-has_unsupported-clause-refused
returns-then-has_unsupported-clause-refused c =
    refusal_is_answered c.args.tokens.now Unsupported (sym c.has_unsupported.ensures ∙ c.if-has_unsupported.true)

pub returns-then-not-is_formula-clause-refusal : goal.returns-then-not-is_formula-clause-refusal
returns-then-not-is_formula-clause-refusal c = record {
  supported = sym c.has_unsupported.ensures ∙ c.if-has_unsupported.false;
  none = λ parsed reads. c.is_formula.ensures.no c.if-not-is_formula.true (parsed, reads);
}

pub returns-then-not-is_formula-clause-refused : goal.returns-then-not-is_formula-clause-refused
returns-then-not-is_formula-clause-refused c =
    let bad : IsBad (roles_of c.args.tokens.now) = returns-then-not-is_formula-clause-refusal c in
    refusal_is_answered c.args.tokens.now BadFormula bad

pub returns-in_err-found-clause-refusal : goal.returns-in_err-found-clause-refusal
returns-in_err-found-clause-refusal c =
    at_err (roles_of c.args.tokens.now) c.from_residual.result c.in_err-found.field-0.0 c.from_residual.ensures.1
    (refusal_found (roles_of c.args.tokens.now) (sym c.has_unsupported.ensures ∙ c.if-has_unsupported.false) (c.is_formula.ensures.yes c.if-not-is_formula.false)
    c.in_err-found.field-0.0 c.in_err-found.ensures.answers)

pub returns-in_err-found-clause-refused : goal.returns-in_err-found-clause-refused
returns-in_err-found-clause-refused c =
    let reason = c.in_err-found.field-0.0 in
    at_refusal (formula_answer c.args.tokens.now) c.from_residual.result reason c.from_residual.ensures.1
    (refusal_is_answered c.args.tokens.now reason
    (refusal_found (roles_of c.args.tokens.now) (sym c.has_unsupported.ensures ∙ c.if-has_unsupported.false) (c.is_formula.ensures.yes c.if-not-is_formula.false)
    reason c.in_err-found.ensures.answers))

pub returns-clause-formula : goal.returns-clause-formula
returns-clause-formula c =
    subst (StandsFor (roles_of c.args.tokens.now)) (sym c.into_formula.ensures)
    (formula_found (roles_of c.args.tokens.now) (sym c.has_unsupported.ensures ∙ c.if-has_unsupported.false) (c.is_formula.ensures.yes c.if-not-is_formula.false)
    c.in_ok-found.found c.in_ok-found.ensures.answers)

pub returns-clause-answer : goal.returns-clause-answer
returns-clause-answer c = formula_is_answered c.args.tokens.now c.into_formula.result (returns-clause-formula c)

pub returns-clause-names : goal.returns-clause-names
returns-clause-names c = stands_below c.args.tokens.now c.into_formula.result (returns-clause-formula c)
