-- Making literals true, and room for those that are assumed. Own to this project.
use Rattle.std.specs.Prelude.{◌≡◌, ◌⊎◌, ◌≤◌, ℕ, [], ◌∷◌, ◌++◌, drop, map, None}
use Rattle.lists.specs.Distinct.{IsDistinct}
use Rattle.clauses.specs.declared.literal.Lit.{Lit}
use Rattle.propagation.specs.Propagation.{Propagation, propagated, value_of}

-- the assumed literals behind the first so many are of distinct variables
abbrev pub AreDistinctBehind : ℕ → Propagation → Type 0
AreDistinctBehind count at = IsDistinct (map (λ literal. literal.var) (drop count at.assumed))

-- those behind at most 4,096 are, so there is room for a literal of each variable that has no value
abbrev pub HasRoom : Propagation → Type 0
HasRoom at = (count : ℕ) × (count ≤ 4096) × AreDistinctBehind count at

-- the literal is assumed if its variable had no value, and else nothing is
abbrev pub IsMadeTrue : Propagation → Lit → Propagation → Type 0
IsMadeTrue before literal now =
    (now ≡ before) ⊎ ((value_of (propagated before) literal.var ≡ None) × (now ≡ record before { assumed = before.assumed ++ literal ∷ [] }))
