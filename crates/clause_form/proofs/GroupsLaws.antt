-- Groups whose children aren't counted, and bounds that ask nothing.
use Rattle.std.proofs.Common.{◌≡◌, ◌∙◌, refl, ap, ℕ, zero, suc, ◌+◌, min, List, [], ◌∷◌, ◌++◌, map, None, arith}
use Rattle.std.specs.Prelude.{slice_get}
use Rattle.std.specs.List.{range_with_len}
use Rattle.clauses.specs.declared.literal.Lit.{Lit}
use Rattle.clauses.specs.Clause.{positive_of}
use Rattle.count_gates.specs.Table.{opposite, or_never, at_least, row_clauses, row_literals, rows_from, table_size}
use Rattle.clause_form.specs.Groups.{under}

pub row-none : (first i : ℕ) → row_literals first 0 i ≡ []
row-none first zero = refl
row-none first (suc i) = let none : min (suc i) 0 ≡ 0 = omega arith in ap (λ n. map positive_of (range_with_len (first + table_size i 0) n)) none

pub rows-none : (first i : ℕ) (children : List Lit) → rows_from first 0 i children ≡ []
rows-none first i [] = refl
rows-none first i (child ∷ children) = ap (λ row. row_clauses (row_literals first 0 i) row child ++ rows_from first 0 (suc i) children) (row-none first (suc i)) ∙ rows-none first (suc i) children

pub size-none : (i : ℕ) → table_size i 0 ≡ 0
size-none zero = refl
size-none (suc i) = let before = size-none i in omega arith

-- more than a bound that can't be passed is never there
pub high-none : (parent most : ℕ) (row : List Lit) → slice_get row most ≡ None → under parent (opposite (at_least row (suc most))) ≡ []
high-none parent most row none = ap (λ found. under parent (opposite (or_never found))) none
