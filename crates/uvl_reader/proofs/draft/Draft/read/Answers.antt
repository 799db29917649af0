use Rattle.uvl_reader.specs.inside.Drafts.{standing_of}
use Rattle.uvl_reader.proofs.GoodLaws.{good_under}
use Rattle.uvl_reader.proofs.draft.Draft.read.Goals as goal
use Rattle.uvl_reader.proofs.draft.Draft.read.Goals.{then-line-eq0, else-line-eq0+else-self}

pub read_judged-requires-clause-good : goal.read_judged-requires-clause-good
read_judged-requires-clause-good c =
    elim c.if-line-eq0.branch [
      | then-line-eq0 w ↦ rw w.self-is (good_under c.args.bytes.now (standing_of c.args.self.now) w.begins_with_include-self.result c.requires.good)
      | else-line-eq0+else-self w ↦ rw w.self-is c.requires.good
    ]
