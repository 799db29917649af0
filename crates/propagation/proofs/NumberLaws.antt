-- Literals as numbers.
use Rattle.std.proofs.Common.{◌≡◌}
use Rattle.clauses.specs.declared.literal.Lit.{Lit}
use Rattle.propagation.specs.inside.Trails.{code_of}
use Rattle.propagation.specs.inside.Numbers.{literal_of, number-again}
use Rattle.propagation.proofs.CodeLaws.{code-same}

pub literal-again : (literal : Lit) → literal_of (code_of literal) ≡ literal
literal-again literal = code-same (literal_of (code_of literal)) literal (number-again (code_of literal))
