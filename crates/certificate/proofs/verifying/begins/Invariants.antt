use Rattle.std.proofs.Common.{◌≡◌, length}
use Rattle.certificate.specs.Judging.{Subject, judged_from_start}
use Rattle.certificate.proofs.verifying.begins.Given as goal

abbrev pub invariant-lines : goal.invariant-lines
invariant-lines l = (about : Subject) → judged_from_start about l.fn.lines.number l.fn.lines.lines ≡ judged_from_start about l.lines.number l.lines.lines

abbrev pub decreases-lines : goal.decreases-lines
decreases-lines l = length l.lines.lines
