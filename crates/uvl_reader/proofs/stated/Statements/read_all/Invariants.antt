use Rattle.std.proofs.Common.{◌≡◌, drop, map}
use Rattle.uvl_reader.specs.inside.Standing.{with_all}
use Rattle.uvl_reader.proofs.stated.Statements.read_all.Given as goal

abbrev pub invariant-loop-tokens : goal.invariant-loop-tokens
invariant-loop-tokens l = with_all l.line l.fn.self (map (λ tokens. tokens.now) l.formulas) ≡ with_all l.line l.self (map (λ tokens. tokens.now) (drop l.tokens-index l.formulas))
