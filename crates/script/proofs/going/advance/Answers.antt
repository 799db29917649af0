use Rattle.std.proofs.Common.{◌≡◌, List, Some, true, false, sym, ap, subst}
use Rattle.pref_sets.specs.Answers.{Answer}
use Rattle.req_keys.specs.declared.verdict.Verdict.{Verdict}
use Rattle.req_keys.specs.declared.verdict.Verdict.TheVariants as verdict
use Rattle.script.specs.Job.{answers_of}
use Rattle.script.specs.inside.Going.{HasAll, answer_in, told_beside}
use Rattle.script.proofs.Answering.{has-answer}
use Rattle.script.proofs.going.advance.Goals as goal

pub returns-in_ok-next-in-Sat-clause-has : goal.returns-in_ok-next-in-Sat-clause-has
returns-in_ok-next-in-Sat-clause-has g c =
    let told = told_beside c.args.told.now in
    let answers = g.R.Recursion.answers c.args.state.now in
    let asks = c.requires.asks in
    let verdict_is : c.args.told.now.verdict ≡ verdict.Sat = c.in-Sat.is in
    subst (λ (a : List Answer). HasAll a (answers_of told)) (sym (c.in_ok-next-in-Sat.ensures.answers asks.0 asks.1))
    (has-answer (g.R.Recursion.start c.args.state.now).0.n c.args.told.now.used.now c.args.told.now.key.now c.args.told.now.verdict true answers asks.0 (ap (λ (v : Verdict). answer_in (Some v)) verdict_is) asks.2 c.requires.new c.requires.table c.requires.has)

pub returns-in_ok-next-in-Unsat-clause-has : goal.returns-in_ok-next-in-Unsat-clause-has
returns-in_ok-next-in-Unsat-clause-has g c =
    let told = told_beside c.args.told.now in
    let answers = g.R.Recursion.answers c.args.state.now in
    let asks = c.requires.asks in
    let verdict_is : c.args.told.now.verdict ≡ verdict.Unsat = c.in-Unsat.is in
    subst (λ (a : List Answer). HasAll a (answers_of told)) (sym (c.in_ok-next-in-Unsat.ensures.answers asks.0 asks.1))
    (has-answer (g.R.Recursion.start c.args.state.now).0.n c.args.told.now.used.now c.args.told.now.key.now c.args.told.now.verdict false answers asks.0 (ap (λ (v : Verdict). answer_in (Some v)) verdict_is) asks.2 c.requires.new c.requires.table c.requires.has)
