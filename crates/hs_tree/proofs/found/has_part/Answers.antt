use Rattle.std.proofs.Common.{sym}
use Rattle.hs_tree.proofs.found.has_part.Goals as goal

pub is_subset-requires : goal.is_subset-requires
is_subset-requires c = (c.requires c.diagnosis-item.result (c.loop-diagnosis.diagnosis-index, c.loop-diagnosis-test.true, sym c.diagnosis-item.is)).number
