use Rattle.std.proofs.Common.{arith}
use Rattle.clauses.specs.Problem.{clauses_with}
use Rattle.clauses.specs.Search.{allowance_of, first_of}
use Rattle.clauses.proofs.AttemptLaws.{answer-limit, limit-answer}
use Rattle.clauses.proofs.CauseLaws.{limit-cause, cause-limit}
use Rattle.clauses.proofs.laws.limit_is_a_spent_allowance.Goals as goal

pub returns : goal.returns
returns c = λ problem key. (
  (λ e attempt inside. limit-cause (first_of attempt) (clauses_with problem key) problem.variables (allowance_of problem attempt) (answer-limit problem key problem.rungs 0 e attempt (omega arith) (omega arith))),
  (λ each. limit-answer problem key problem.rungs 0 (λ attempt low inside. cause-limit (first_of attempt) (clauses_with problem key) problem.variables (allowance_of problem attempt) (each attempt (omega arith)))),
)
