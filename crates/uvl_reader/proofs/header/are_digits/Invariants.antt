use Rattle.std.proofs.Common.{◌≡◌, true, take}
use Rattle.std.specs.List.{list_all}
use Rattle.uvl_reader.specs.Shapes.{is_digit}
use Rattle.uvl_reader.proofs.header.are_digits.Given as goal

abbrev pub invariant-loop-byte : goal.invariant-loop-byte
invariant-loop-byte l = list_all is_digit (take l.byte-index l.text) ≡ true
