use Rattle.std.proofs.Common.{◌≡◌, ◌∙◌, ℕ, sym, ap, subst, ◌<◌, ◌≤◌, Some, arith}
use Rattle.std.proofs.lemmas.Bool.{both_ways}
use Rattle.std.proofs.lemmas.Result.{IfOk-weaker}
use Rattle.req_keys.specs.Key.{PositionSet}
use Rattle.clauses.specs.Problem.{ClauseProblem}
use Rattle.clauses.specs.Search.{Limit, SearchAnswer, attempt_of, search_of}
use Rattle.solver.specs.inside.Searching.{ended}
use Rattle.solver.proofs.SolveLaws.{answer-found, answer-last}
use Rattle.solver.proofs.solving.search_for.Goals as goal

pub returns-then-not-is_limit-clause-ended : goal.returns-then-not-is_limit-clause-ended
returns-then-not-is_limit-clause-ended g c =
    let inside = subst (λ (p : ClauseProblem). c.loop-number.number < p.rungs) (c.problem.view_is ∙ c.problem-problem.ensures.problem) c.loop-number-test.true in
    answer-found c.args.search.now.trial.problem c.args.key.now c.loop-number.number (ended c.attempt.new.search c.in_ok-ending.ending) inside c.loop-number.invariant.before (ap (λ (p : ClauseProblem). attempt_of p c.args.key.now c.loop-number.number) (sym c.loop-number.invariant.problem) ∙ c.in_ok-ending.ensures.ended)
    (λ e. both_ways c.is_limit.result c.if-not-is_limit.true ((c.is_limit.ensures c.attempt.new.search).1 e))

-- the last attempt
module _ (problem : ClauseProblem) (key : PositionSet) (rungs number : ℕ) (same : rungs ≡ problem.rungs) (end : rungs ≤ number) (before : (earlier : ℕ) → earlier < number → attempt_of problem key earlier ≡ Some Limit) where
  found : (given : SearchAnswer) → attempt_of problem key rungs ≡ Some given → search_of problem key ≡ Some given
  found given e = answer-last problem key given (λ earlier l. before earlier (omega arith)) (ap (attempt_of problem key) (sym same) ∙ e)

pub returns-clause-ended : goal.returns-clause-ended
returns-clause-ended g c =
    let problem : ClauseProblem = c.args.search.now.trial.problem in
    let key = c.args.key.now in
    IfOk-weaker c.attempt-2.result (λ end. attempt_of c.loop-number.search.trial.problem key c.problem.inside.rungs ≡ Some (ended c.attempt-2.new.search end)) (λ end. search_of problem key ≡ Some (ended c.attempt-2.new.search end))
    (λ end e. found problem key c.problem.inside.rungs c.loop-number.number (ap (λ (p : ClauseProblem). p.rungs) (c.problem.view_is ∙ c.problem-problem.ensures.problem)) c.loop-number-test.false c.loop-number.invariant.before (ended c.attempt-2.new.search end) (ap (λ (p : ClauseProblem). attempt_of p key c.problem.inside.rungs) (sym c.loop-number.invariant.problem) ∙ e))
    c.attempt-2.ensures.ended
