use Rattle.std.proofs.Common.{ap}
use Rattle.quick_xplain.specs.Explaining.{Explaining, next_of}
use Rattle.script.proofs.AskedSets.{asked-set}
use Rattle.script.proofs.recursions.QuickXplainRecursion.after.Goals as goal

pub returns-clause-start : goal.returns-clause-start
returns-clause-start c =
    let asked = asked-set (next_of c.args.self.now) c.requires in
    ap (λ (d : Explaining). (d.among, 0)) (c.in_ok-next.ensures asked.0 asked.1)
