-- A name answers what was set under it last, and every other name what it did.
use Rattle.std.proofs.Common.{arith}
use Rattle.std.proofs.lemmas.Map.Text.{text_keys}
use Rattle.diag_base.proofs.mem_shelf.MemShelf.set.Goals as goal

pub returns-clause-ok : goal.returns-clause-ok
returns-clause-ok c = λ other. grind (arith, text_keys)
