-- Literals as numbers.
use Rattle.std.specs.Prelude.{◌≡◌, ℕ, ◌+◌, ◌*◌, ◌/◌, ◌%◌, ◌<◌, ◌==◌, if◌then◌else◌}
use Rattle.std.proofs.Common.{◌∙◌, refl, zero, suc, arith}
use Rattle.clauses.specs.declared.literal.Lit.{Lit}
use Rattle.propagation.specs.inside.Trails.{code_of}

-- the literal with this number
abbrev pub literal_of : ℕ → Lit
literal_of number = record { var = number / 2; positive = number % 2 == 1 }

by_rest : (half rest : ℕ) → rest < 2 → 2 * half + (if rest == 1 then 1 else 0) ≡ 2 * half + rest
by_rest half zero low = refl
by_rest half (suc zero) low = refl
by_rest half (suc (suc rest)) low = absurd (omega arith)

-- it has this number
pub number-again : (number : ℕ) → code_of (literal_of number) ≡ number
number-again number = by_rest (number / 2) (number % 2) (omega arith) ∙ omega arith
