-- Worked examples of counting tables. Each computes.
use Rattle.std.specs.Prelude.{◌≡◌, [], ◌∷◌, refl}
use Rattle.clauses.specs.Clause.{positive_of as yes, negative_of as no}
use Rattle.count_gates.specs.Table.{table_size, table_clauses, table_literals}

-- one child: its variable says what it says, since at least 0 is always true, and nothing stands before the first child
pub one-clauses : table_clauses 1 1 (yes 0 ∷ []) ≡ (no 1 ∷ yes 0 ∷ []) ∷ (yes 1 ∷ no 0 ∷ []) ∷ []
one-clauses = refl

pub one-literals : table_literals 1 1 (yes 0 ∷ []) ≡ yes 1 ∷ []
one-literals = refl

-- a negative child
pub negative-clauses : table_clauses 1 1 (no 0 ∷ []) ≡ (no 1 ∷ no 0 ∷ []) ∷ (yes 1 ∷ yes 0 ∷ []) ∷ []
negative-clauses = refl

-- at least 1 of 2: variable 2 is for the first child, 3 for both
pub either-clauses :
    table_clauses 2 1 (yes 0 ∷ yes 1 ∷ []) ≡
    (no 2 ∷ yes 0 ∷ []) ∷ (yes 2 ∷ no 0 ∷ [])
    ∷ (no 3 ∷ yes 2 ∷ yes 1 ∷ []) ∷ (yes 3 ∷ no 2 ∷ []) ∷ (yes 3 ∷ no 1 ∷ []) ∷ []
either-clauses = refl

pub either-literals : table_literals 2 1 (yes 0 ∷ yes 1 ∷ []) ≡ yes 3 ∷ []
either-literals = refl

-- and at least 2: there aren't 2 of the first child, so a false member is left out, and a clause
pub both-clauses :
    table_clauses 2 2 (yes 0 ∷ yes 1 ∷ []) ≡
    (no 2 ∷ yes 0 ∷ []) ∷ (yes 2 ∷ no 0 ∷ [])
    ∷ (no 3 ∷ yes 2 ∷ yes 1 ∷ []) ∷ (yes 3 ∷ no 2 ∷ []) ∷ (yes 3 ∷ no 1 ∷ [])
    ∷ (no 4 ∷ yes 1 ∷ []) ∷ (no 4 ∷ yes 2 ∷ []) ∷ (yes 4 ∷ no 2 ∷ no 1 ∷ []) ∷ []
both-clauses = refl

pub both-literals : table_literals 2 2 (yes 0 ∷ yes 1 ∷ []) ≡ yes 3 ∷ yes 4 ∷ []
both-literals = refl

-- a child that stands twice has two rows
pub twice-clauses :
    table_clauses 1 2 (yes 0 ∷ yes 0 ∷ []) ≡
    (no 1 ∷ yes 0 ∷ []) ∷ (yes 1 ∷ no 0 ∷ [])
    ∷ (no 2 ∷ yes 1 ∷ yes 0 ∷ []) ∷ (yes 2 ∷ no 1 ∷ []) ∷ (yes 2 ∷ no 0 ∷ [])
    ∷ (no 3 ∷ yes 0 ∷ []) ∷ (no 3 ∷ yes 1 ∷ []) ∷ (yes 3 ∷ no 1 ∷ no 0 ∷ []) ∷ []
twice-clauses = refl

-- at least 2 of 3: the last variable's four clauses are all there
pub two_of_three-clauses :
    table_clauses 3 2 (yes 0 ∷ yes 1 ∷ yes 2 ∷ []) ≡
    (no 3 ∷ yes 0 ∷ []) ∷ (yes 3 ∷ no 0 ∷ [])
    ∷ (no 4 ∷ yes 3 ∷ yes 1 ∷ []) ∷ (yes 4 ∷ no 3 ∷ []) ∷ (yes 4 ∷ no 1 ∷ [])
    ∷ (no 5 ∷ yes 1 ∷ []) ∷ (no 5 ∷ yes 3 ∷ []) ∷ (yes 5 ∷ no 3 ∷ no 1 ∷ [])
    ∷ (no 6 ∷ yes 4 ∷ yes 2 ∷ []) ∷ (yes 6 ∷ no 4 ∷ []) ∷ (yes 6 ∷ no 2 ∷ [])
    ∷ (no 7 ∷ yes 5 ∷ yes 2 ∷ []) ∷ (no 7 ∷ yes 5 ∷ yes 4 ∷ []) ∷ (yes 7 ∷ no 5 ∷ []) ∷ (yes 7 ∷ no 4 ∷ no 2 ∷ []) ∷ []
two_of_three-clauses = refl

pub two_of_three-literals : table_literals 3 2 (yes 0 ∷ yes 1 ∷ yes 2 ∷ []) ≡ yes 6 ∷ yes 7 ∷ []
two_of_three-literals = refl

pub two_of_three-size : table_size 3 2 ≡ 5
two_of_three-size = refl

pub none-size : table_size 0 2 ≡ 0
none-size = refl
