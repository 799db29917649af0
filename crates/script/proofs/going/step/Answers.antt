use Rattle.std.proofs.Common.{◌<◌, List, sym, subst}
use Rattle.pref_sets.specs.Answers.{Answer}
use Rattle.script.specs.Job.{answers_of}
use Rattle.script.specs.declared.going.Said.{Said}
use Rattle.script.specs.inside.Going.{HasAll, IsSaid, lacking, told_beside}
use Rattle.script.proofs.Answering.{one-answer}
use Rattle.script.proofs.going.step.Goals as goal

pub returns-in_ok-go_on-in-Answers-clause-has : goal.returns-in_ok-go_on-in-Answers-clause-has
returns-in_ok-go_on-in-Answers-clause-has g c =
    let told = told_beside c.args.told.now in
    let n = (g.R.Recursion.start c.args.state.now).0.n in
    let answers = g.R.Recursion.answers c.args.state.now in
    let said = subst (λ (s : Said). IsSaid n told (g.R.Recursion.next c.args.state.now answers) s) c.in-Answers.is c.in_ok-halt.ensures in
    let new = c.in_ok-go_on-in-Answers.ensures.answers said.0 said.1 in
    let both = one-answer n told answers said.0 c.in-Answers.sat c.requires.table c.requires.has said.2 (c.asks_new.ensures said.0 said.1) in
    subst (λ (a : List Answer). HasAll a (answers_of told)) (sym new) both.0

pub returns-in_ok-go_on-in-Answers-clause-goes : goal.returns-in_ok-go_on-in-Answers-clause-goes
returns-in_ok-go_on-in-Answers-clause-goes g c =
    let told = told_beside c.args.told.now in
    let n = (g.R.Recursion.start c.args.state.now).0.n in
    let answers = g.R.Recursion.answers c.args.state.now in
    let said = subst (λ (s : Said). IsSaid n told (g.R.Recursion.next c.args.state.now answers) s) c.in-Answers.is c.in_ok-halt.ensures in
    let new = c.in_ok-go_on-in-Answers.ensures.answers said.0 said.1 in
    let both = one-answer n told answers said.0 c.in-Answers.sat c.requires.table c.requires.has said.2 (c.asks_new.ensures said.0 said.1) in
    subst (λ (a : List Answer). lacking a told < lacking answers told) (sym new) both.1
