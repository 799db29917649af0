-- Trimming some items only, in the presence of others: what the recursion of `trim` computes of each part.
use Rattle.std.specs.Prelude.{◌≡◌, ℕ, List, [], ◌∷◌, ◌++◌, ◌⊎◌}

-- `left` is what stays of the items behind `before`: the later items are tried first, with the first one there, and
-- then the first one leaves where the property holds without it
abbrev pub IsTrimmedBehind : (List ℕ → Type 0) → List ℕ → List ℕ → List ℕ → Type 0
IsTrimmedBehind P before [] left = left ≡ []
IsTrimmedBehind P before (x ∷ items) left =
    (later : List ℕ) × IsTrimmedBehind P (before ++ x ∷ []) items later
    × ((P (before ++ later) × (left ≡ later)) ⊎ ((¬ P (before ++ later)) × (left ≡ x ∷ later)))
