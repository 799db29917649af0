use Rattle.std.proofs.Common.{sym, ◌∙◌}
use Rattle.uvl_reader.specs.inside.Drafts.{standing_of}
use Rattle.uvl_reader.proofs.GoodLaws.{takes_more}
use Rattle.uvl_reader.proofs.draft.Draft.read_shape.Goals as goal

pub add_feature-requires-clause-takes : goal.add_feature-requires-clause-takes
add_feature-requires-clause-takes c =
    takes_more c.args.bytes.now (standing_of c.args.self.now) c.args.line.now.tokens c.text_of-name.result.now c.requires.good c.requires.kind c.requires.place (sym c.name_fault.ensures ∙ c.in_default.is)
