-- Clauses in one row: where each ends, and the literals of all, one clause behind the other.
use Rattle.std.specs.Prelude.{◌≡◌, ◌-◌, ◌≤◌, ℕ, List, [], ◌∷◌, drop, take}
use Rattle.clauses.specs.declared.literal.Lit.{Lit}

-- the clauses from this place of the row on
abbrev pub cut_at : ℕ → List ℕ → List Lit → List (List Lit)
cut_at start [] row = []
cut_at start (end ∷ ends) row = take (end - start) (drop start row) ∷ cut_at end ends row

-- they end one behind the other, the last one at the row's end
abbrev pub AreEnds : ℕ → List ℕ → ℕ → Type 0
AreEnds start [] count = start ≡ count
AreEnds start (end ∷ ends) count = (start ≤ end) × AreEnds end ends count
