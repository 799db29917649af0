use Rattle.std.proofs.Common.{ap}
use Rattle.fast_diag.specs.Diagnosing.{Diagnosing, next_of}
use Rattle.req_keys.specs.Key.{full_key}
use Rattle.script.proofs.AskedSets.{asked-set}
use Rattle.script.proofs.recursions.FastDiagRecursion.after.Goals as goal

pub returns-clause-start : goal.returns-clause-start
returns-clause-start c =
    let asked = asked-set (next_of c.args.self.now) c.requires in
    ap (λ (d : Diagnosing). (full_key d.n, 0)) (c.in_ok-next.ensures asked.0 asked.1)
