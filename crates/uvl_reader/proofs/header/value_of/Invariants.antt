use Rattle.std.proofs.Common.{◌≡◌, ◌<◌, ◌^◌, take}
use Rattle.uvl_reader.specs.Shapes.{value_of}
use Rattle.uvl_reader.proofs.header.value_of.Given as goal

abbrev pub invariant-loop-digit : goal.invariant-loop-digit
invariant-loop-digit l = record { so_far : l.value ≡ value_of (take l.digit-index l.digits); small : l.value < 10 ^ l.digit-index }
