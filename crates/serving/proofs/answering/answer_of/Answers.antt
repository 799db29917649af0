use Rattle.std.proofs.Common.{refl, subst}
use Rattle.req_keys.specs.Key.{PositionSet}
use Rattle.check_table.specs.Found.{TookIs}
use Rattle.check_table.specs.Places.{IsVerdictOf}
use Rattle.serving.proofs.StandingEntries.{keeps-on, leaves-on}
use Rattle.serving.proofs.TakenEntries.{not-running, running-word, take-keeps, take-leaves, take-met, take-stands, verdict-is}
use Rattle.serving.proofs.answering.answer_of.Goals as goal

pub returns-in-Answered-clause-verdict : goal.returns-in-Answered-clause-verdict
returns-in-Answered-clause-verdict g c =
    let stands = c.takes.invariant.stands in
    let problem = c.args.table.now.problem in
    let v = c.in-Answered.verdict in
    verdict-is problem c.args.key.now v (subst (λ (k : PositionSet). IsVerdictOf problem k v) stands.same (c.take.ensures.right stands.entry stands.at v c.in-Answered.is))

pub returns-in-Answered-clause-entries : goal.returns-in-Answered-clause-entries
returns-in-Answered-clause-entries g c =
    let i = c.takes.invariant in
    leaves-on c.args.number _ _ _ i.leaves (take-leaves c.takes.main.sees c.take.new.main.sees c.args.number _ c.args.key.now i.stands c.take.ensures.view)

pub returns-in-Mine-clause-entries : goal.returns-in-Mine-clause-entries
returns-in-Mine-clause-entries g c =
    let i = c.takes.invariant in
    leaves-on c.args.number _ _ _ i.leaves (take-leaves c.takes.main.sees c.take.new.main.sees c.args.number _ c.args.key.now i.stands c.take.ensures.view)

pub returns-in-Mine-clause-met : goal.returns-in-Mine-clause-met
returns-in-Mine-clause-met g c =
    let i = c.takes.invariant in
    take-met c.takes.main.sees c.take.new.main.sees c.args.number _ c.args.key.now i.stands c.take.ensures.view c.args.table.now.problem c.args.main.now.sees i.keeps refl c.take.result c.take.ensures.answer (not-running c.take.result c.in-Mine.is)

pub takes-preserved : goal.takes-preserved
takes-preserved g c =
    let i = c.takes.invariant in
    let how = c.take.ensures.answer in
    record {
      own = c.take.ensures.own;
      keeps = keeps-on c.args.main.now.sees c.takes.main.sees c.take.new.main.sees i.keeps (take-keeps c.takes.main.sees c.take.new.main.sees c.args.number _ c.args.key.now i.stands c.take.ensures.view);
      leaves = leaves-on c.args.number _ _ _ i.leaves (take-leaves c.takes.main.sees c.take.new.main.sees c.args.number _ c.args.key.now i.stands c.take.ensures.view);
      stands = take-stands c.takes.main.sees c.take.new.main.sees c.args.number _ c.args.key.now i.stands c.take.ensures.view (running-word _ how.0 how.1 (subst (TookIs how.0) c.in-Running.is how.2));
    }
