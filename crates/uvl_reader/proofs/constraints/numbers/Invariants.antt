use Rattle.std.proofs.Common.{◌≡◌, ◌++◌, drop}
use Rattle.std.specs.Option.{option_map}
use Rattle.uvl_reader.specs.inside.Standing.{numbers}
use Rattle.uvl_reader.proofs.constraints.numbers.Given as goal

abbrev pub invariant-loop-token : goal.invariant-loop-token
invariant-loop-token l = numbers l.names l.bytes l.tokens ≡ option_map (λ others. l.of ++ others) (numbers l.names l.bytes (drop l.token-index l.tokens))
