use Rattle.std.proofs.Common.{Bool, ap, sym, ◌∙◌}
use Rattle.uvl_reader.specs.inside.Drafts.{standing_of}
use Rattle.uvl_reader.specs.inside.Standing.{is_deeper, pending_fault, left_at}
use Rattle.uvl_reader.proofs.GoodLaws.{good_closed}
use Rattle.uvl_reader.proofs.draft.Draft.read_judged.Goals as goal

pub read_kind-requires-clause-good : goal.read_kind-requires-clause-good
read_kind-requires-clause-good c =
    let deeper = c.is_deeper-deeper.ensures ∙ ap (is_deeper c.args.line.now.indent) c.nearest-nearest.ensures in
    let none = ap (λ (b : Bool). pending_fault b c.args.self.now.pending) (sym deeper) ∙ c.left_line.ensures ∙ ap left_at c.in_default.is in
    rw c.close-met.ensures.left (good_closed c.args.bytes.now (standing_of c.args.self.now) c.args.line.now.indent c.requires.good none)
