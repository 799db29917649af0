use Rattle.std.proofs.Common.{◌≡◌, ◌∙◌, ap, subst, Some, Bool, true, false, ℕ, arith}
use Rattle.std.proofs.lemmas.Result.{IfOk-weaker}
use Rattle.req_keys.specs.Key.{PositionSet}
use Rattle.clauses.specs.Problem.{ClauseProblem}
use Rattle.clauses.specs.Search.{allowance_of, attempt_of, first_of}
use Rattle.solver.specs.declared.search.Ending.TheVariants as ending
use Rattle.solver.specs.inside.Searching.{HasBegun, IsAtEnd, IsTurn, Searching, ended}
use Rattle.solver.proofs.SolveLaws.{going-at_end, going-ends, going-fewer, going-on, going-start, refuted-at_end, refuted-ends}
use Rattle.solver.proofs.solving.attempt.Goals as goal

-- the attempt begins with the first value and the allowance of its number
begun-as : (problem given : ClauseProblem) (key : PositionSet) (number : ℕ) (at : Searching) (first : Bool) (allowance : ℕ) (fits answer : Bool) → given ≡ problem → first ≡ first_of number → allowance ≡ allowance_of given number → fits ≡ answer
    → HasBegun problem key first allowance at fits → HasBegun problem key (first_of number) (allowance_of problem number) at answer
begun-as problem given key number at first allowance fits answer same_problem same_first same_allowance same_fits begun =
    subst (λ (n : ℕ). HasBegun problem key (first_of number) n at answer) (same_allowance ∙ ap (λ (p : ClauseProblem). allowance_of p number) same_problem)
    (subst (λ (b : Bool). HasBegun problem key b allowance at answer) same_first (subst (HasBegun problem key first allowance at) same_fits begun))

pub returns-then-not-fits-clause-ended : goal.returns-then-not-fits-clause-ended
returns-then-not-fits-clause-ended g c =
    let problem : ClauseProblem = c.args.search.now.trial.problem in
    IfOk-weaker c.refuted.result (λ end. end ≡ ending.Unsat) (λ end. attempt_of problem c.args.key.now c.args.number ≡ Some (ended c.begin.new.self end))
    (refuted-ends problem c.args.key.now c.args.number c.begin.new.self
    (begun-as problem c.problem.result.now c.args.key.now c.args.number c.begin.new.self c.first_of-first.result c.allowance_of-allowance.result c.in_ok-fits.fits false c.problem.ensures.problem c.first_of-first.ensures c.allowance_of-allowance.ensures c.if-not-fits.true c.in_ok-fits.ensures.begun))
    c.refuted.ensures.ending

pub returns-then-not-fits-clause-end : goal.returns-then-not-fits-clause-end
returns-then-not-fits-clause-end g c =
    let problem : ClauseProblem = c.args.search.now.trial.problem in
    IfOk-weaker c.refuted.result (λ end. end ≡ ending.Unsat) (IsAtEnd c.begin.new.self)
    (refuted-at_end problem c.args.key.now c.args.number c.begin.new.self
    (begun-as problem c.problem.result.now c.args.key.now c.args.number c.begin.new.self c.first_of-first.result c.allowance_of-allowance.result c.in_ok-fits.fits false c.problem.ensures.problem c.first_of-first.ensures c.allowance_of-allowance.ensures c.if-not-fits.true c.in_ok-fits.ensures.begun))
    c.refuted.ensures.ending

pub loop-ending-init : goal.loop-ending-init
loop-ending-init g c =
    let problem : ClauseProblem = c.args.search.now.trial.problem in
    let begun = begun-as problem c.problem.result.now c.args.key.now c.args.number c.begin.new.self c.first_of-first.result c.allowance_of-allowance.result c.in_ok-fits.fits true c.problem.ensures.problem c.first_of-first.ensures c.allowance_of-allowance.ensures c.if-not-fits.false c.in_ok-fits.ensures.begun in
    record {
      going = going-start problem c.args.key.now c.args.number c.begin.new.self begun;
      never_falls = omega arith;
      stays = g.met.S.Stop.reflexive c.args.stop.now;
    }

pub returns-in-Some-clause-ended : goal.returns-in-Some-clause-ended
returns-in-Some-clause-ended g c =
    going-ends c.args.search.now.trial.problem c.args.key.now c.args.number c.loop-ending.search c.loop-ending.invariant.going c.turn.new.search c.in-Some.ending
    (subst (IsTurn c.loop-ending.search c.turn.new.search) c.in-Some.is c.in_ok-ending.ensures.turn)

pub returns-in-Some-clause-end : goal.returns-in-Some-clause-end
returns-in-Some-clause-end g c =
    going-at_end c.args.search.now.trial.problem c.args.key.now c.args.number c.loop-ending.search c.loop-ending.invariant.going c.turn.new.search c.in-Some.ending
    (subst (IsTurn c.loop-ending.search c.turn.new.search) c.in-Some.is c.in_ok-ending.ensures.turn)

pub loop-ending-smaller : goal.loop-ending-smaller
loop-ending-smaller g c =
    going-fewer c.args.search.now.trial.problem c.args.key.now c.args.number c.loop-ending.search c.loop-ending.invariant.going c.turn.new.search
    (subst (IsTurn c.loop-ending.search c.turn.new.search) c.in_default.is c.in_ok-ending.ensures.turn)

pub loop-ending-preserved : goal.loop-ending-preserved
loop-ending-preserved g c = record {
  going =
      going-on c.args.search.now.trial.problem c.args.key.now c.args.number c.loop-ending.search c.loop-ending.invariant.going c.turn.new.search
      (subst (IsTurn c.loop-ending.search c.turn.new.search) c.in_default.is c.in_ok-ending.ensures.turn);
  never_falls = (let before = c.loop-ending.invariant.never_falls in let turn = c.turn.ensures.never_falls in omega arith);
  stays = g.met.S.Stop.transitive c.args.stop.now c.loop-ending.stop c.turn.new.stop c.loop-ending.invariant.stays c.turn.ensures.stays;
}
