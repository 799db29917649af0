-- what was kept, and what is kept of the text that is left
use Rattle.std.proofs.Common.{◌≡◌, ◌++◌, length}
use Rattle.diag_top.specs.Unindented.{unindented}
use Rattle.diag_top.proofs.generated.unindented.Given as goal

abbrev pub invariant-lines : goal.invariant-lines
invariant-lines l = l.kept ++ unindented l.rest ≡ unindented l.text

abbrev pub decreases-lines : goal.decreases-lines
decreases-lines l = length l.rest
