-- The counting table of some children, which are literals: variables for 'at least j of the first i children', j at
-- most `upto`, and clauses that fix each of them. After Sinz, Towards an optimal CNF encoding of Boolean cardinality
-- constraints, 2005, with clauses in both directions.
use Rattle.std.specs.Prelude.{ℕ, zero, suc, ◌+◌, min, Option, Some, None, List, [], ◌∷◌, ◌++◌, map, flat_map, length, slice_get}
use Rattle.std.specs.List.{range_with_len}
use Rattle.clauses.specs.declared.literal.Lit.{Lit}
use Rattle.clauses.specs.Clause.{negation, positive_of}

-- how many variables the first k rows have: row i has one for each j from 1 to the smaller of i and upto
abbrev pub table_size : ℕ → ℕ → ℕ
table_size zero upto = 0
table_size (suc k) upto = table_size k upto + min (suc k) upto

-- the variables, as literals, of row i: for j = 1, 2, .. in order. The variables of all rows are numbered from `first`,
-- row after row
abbrev pub row_literals : ℕ → ℕ → ℕ → List Lit
row_literals first upto zero = []
row_literals first upto (suc i) = map positive_of (range_with_len (first + table_size i upto) (min (suc i) upto))

-- what a clause is written with: a literal, or what is true or false whatever the variables are
pub data Member : Type 0 where
  Always : Member
  Never : Member
  Is : Lit → Member

-- its negation
abbrev pub opposite : Member → Member
opposite Always = Never
opposite Never = Always
opposite (Is literal) = Is (negation literal)

-- the clause of these members, if any: with a true member there is none, and a false member is left out
abbrev pub clause_of : List Member → List (List Lit)
clause_of [] = [] ∷ []
clause_of (Always ∷ members) = []
clause_of (Never ∷ members) = clause_of members
clause_of (Is literal ∷ members) = map (λ rest. literal ∷ rest) (clause_of members)

-- a literal that stands there, or else what is false
abbrev pub or_never : Option Lit → Member
or_never None = Never
or_never (Some literal) = Is literal

-- a literal that stands there, or else what is true
abbrev pub or_always : Option Lit → Member
or_always None = Always
or_always (Some literal) = Is literal

-- 'at least j' of a row's children, for j up to upto: true where j is 0, and false where j is above their number
abbrev pub at_least : List Lit → ℕ → Member
at_least row zero = Always
at_least row (suc j) = or_never (slice_get row j)

-- the clauses of the variable for 'at least j of the first i children', s: `same` says 'at least j of the first i - 1',
-- `fewer` says 'at least j - 1 of the first i - 1', and the last is child i. They say: s where same, or fewer and child
abbrev pub cell_clauses : Member → Member → Member → Member → List (List Lit)
cell_clauses s same fewer child =
    clause_of (opposite s ∷ same ∷ child ∷ [])
    ++ clause_of (opposite s ∷ same ∷ fewer ∷ [])
    ++ clause_of (s ∷ opposite same ∷ [])
    ++ clause_of (s ∷ opposite fewer ∷ opposite child ∷ [])

-- the clauses of a row, from the row before and the row's child: those of each of its variables, in order
abbrev pub row_clauses : List Lit → List Lit → Lit → List (List Lit)
row_clauses before row child =
    flat_map (λ j. cell_clauses (at_least row (suc j)) (at_least before (suc j)) (at_least before j) (Is child)) (range_with_len 0 (length row))

-- the clauses of the rows of these children, which follow the first i
abbrev pub rows_from : ℕ → ℕ → ℕ → List Lit → List (List Lit)
rows_from first upto i [] = []
rows_from first upto i (child ∷ children) = row_clauses (row_literals first upto i) (row_literals first upto (suc i)) child ++ rows_from first upto (suc i) children

-- the clauses of the table
abbrev pub table_clauses : ℕ → ℕ → List Lit → List (List Lit)
table_clauses first upto children = rows_from first upto 0 children

-- the literals for 'at least 1', 'at least 2' and so on up to 'at least upto' of all children: those of the last row
abbrev pub table_literals : ℕ → ℕ → List Lit → List Lit
table_literals first upto children = row_literals first upto (length children)
