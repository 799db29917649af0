use Rattle.std.proofs.Common.{◌∙◌, ◌-◌, ◌*◌, min, ap, sym}
use Rattle.std.proofs.Math.Nat.{min_comm}
use Rattle.model_gen.proofs.TreeLaws.{length-children}
use Rattle.model_gen.proofs.tree.child_count.Goals as goal

pub returns : goal.returns
returns c =
    c.min.ensures ∙ ap (λ k. min k 4) c.saturating_sub.ensures ∙ min_comm (c.args.size - 4 * c.args.feature) 4
    ∙ sym (length-children c.args.size c.args.feature)
