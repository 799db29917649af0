use Rattle.std.proofs.Common.{ap}
use Rattle.hs_tree.specs.Hitting.{Hitting, next_after}
use Rattle.script.proofs.AskedSets.{asked-set}
use Rattle.script.proofs.recursions.HsTreeRecursion.go_on.Goals as goal

pub returns-clause-start : goal.returns-clause-start
returns-clause-start c =
    let asked = asked-set (next_after c.args.self.now) c.requires in
    ap (λ (d : Hitting). (d.first, d.most)) (c.in_ok-tell.ensures.ok asked.0 asked.1)
