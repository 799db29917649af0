use Rattle.std.proofs.Common.{◌≡◌, drop}
use Rattle.uvl_reader.specs.ModelReading.{features_number}
use Rattle.uvl_reader.proofs.reader.features_number.Given as goal

abbrev pub invariant-loop-line : goal.invariant-loop-line
invariant-loop-line l = features_number l.lines ≡ features_number (drop l.line-index l.lines)
