use Rattle.std.proofs.Common.{◌≡◌, ◌++◌, List, ℕ, drop}
use Rattle.std.specs.Option.{option_map}
use Rattle.config_reader.specs.Names.{numbers}
use Rattle.config_reader.proofs.formula.numbers.Given as goal

abbrev pub invariant-loop-token : goal.invariant-loop-token
invariant-loop-token l = numbers l.names l.bytes l.tokens ≡ option_map (λ (more : List ℕ). l.of ++ more) (numbers l.names l.bytes (drop l.token-index l.tokens))
