use Rattle.feature_tree.proofs.FormulaAnswerLaws.{parses_the_grammar, formula_answer_is_the_answer}
use Rattle.feature_tree.proofs.laws.formula_answer_is_the_answer.Goals as goal

pub returns-clause-parses : goal.returns-clause-parses
returns-clause-parses c = parses_the_grammar

pub returns-clause-answer : goal.returns-clause-answer
returns-clause-answer c = formula_answer_is_the_answer
