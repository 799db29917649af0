-- A clause form is made of parts, one after the other. Each has variables of its own, which are numbered behind those of
-- the parts before it, and clauses about them and earlier ones. Own to this project.
use Rattle.std.specs.Prelude.{ℕ, ◌+◌, ◌-◌, ◌^◌, min, List, [], ◌∷◌, ◌++◌}
use Rattle.clauses.specs.declared.literal.Lit.{Lit}

-- how many variables of its own, and the clauses, where the first of them has the given number
pub data Part : Type 0 where
  Own : ℕ → (ℕ → List (List Lit)) → Part

abbrev pub size : Part → ℕ
size (Own count make) = count

abbrev pub clauses : Part → ℕ → List (List Lit)
clauses (Own count make) first = make first

-- clauses that need no variables of their own
abbrev pub bare : List (List Lit) → Part
bare these = Own 0 (λ first. these)

-- how many variables the parts have together
abbrev pub size_of : List Part → ℕ
size_of [] = 0
size_of (part ∷ parts) = size part + size_of parts

-- their clauses, where the first variable of the first part has this number
abbrev pub clauses_from : ℕ → List Part → List (List Lit)
clauses_from first [] = []
clauses_from first (part ∷ parts) = clauses part first ++ clauses_from (first + size part) parts

-- the number, as far as 64 bits hold it
abbrev pub capped : ℕ → ℕ
capped count = min count (2 ^ 64 - 1)
