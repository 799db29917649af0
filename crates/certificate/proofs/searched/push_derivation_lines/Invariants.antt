-- what was put so far, and what is left
use Rattle.std.proofs.Common.{◌≡◌, ◌++◌, drop}
use Rattle.std.specs.List.{flat_map}
use Rattle.certificate.specs.Text.{derivation_line}
use Rattle.certificate.proofs.searched.push_derivation_lines.Given as goal

abbrev pub invariant-loop-clause : goal.invariant-loop-clause
invariant-loop-clause l = l.text ++ flat_map derivation_line (drop l.clause-index l.lines) ≡ l.fn.text ++ flat_map derivation_line l.lines
