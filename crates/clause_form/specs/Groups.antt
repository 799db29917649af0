-- What a group asks of a product that has its parent, as clauses. A group with bounds counts its children by a table.
-- Own to this project.
use Rattle.std.specs.Prelude.{ℕ, suc, max, nat_le, List, [], ◌∷◌, ◌++◌, map, length, Option, Some, if◌then◌else◌}
use Rattle.std.specs.Option.{option_map_or}
use Rattle.clauses.specs.declared.literal.Lit.{Lit}
use Rattle.clauses.specs.Clause.{negative_of, positive_of}
use Rattle.count_gates.specs.Table.{Member, Is, opposite, clause_of, at_least, table_size, table_clauses, table_literals}
use Rattle.feature_tree.specs.declared.group.Group.{Group}
use Rattle.feature_tree.specs.declared.group.GroupKind.{GroupKind}
use Rattle.feature_tree.specs.declared.group.GroupKind.TheVariants.{Mandatory, Optional, Or, Alternative, Range}
use Rattle.clause_form.specs.Parts.{Part, Own, bare}

-- the count, if there are so many children, else 0
abbrev pub within : ℕ → ℕ → ℕ
within children count = if nat_le count children then count else 0

-- how far the children are counted: to the lowest number that is enough, and to the lowest that is too many, where there are
-- so many children
abbrev pub counted : ℕ → ℕ → Option ℕ → ℕ
counted children low high = max (within children low) (option_map_or (λ most. within children (suc most)) high 0)

-- where the parent is there, this is true
abbrev pub under : ℕ → Member → List (List Lit)
under parent member = clause_of (Is (negative_of parent) ∷ member ∷ [])

-- what is asked of the literals for 'at least 1', 'at least 2' and so on. 'At least 0' is always true, which is no clause, and
-- 'at least j' is never true where there are fewer children
abbrev pub bound_clauses : ℕ → List Lit → ℕ → Option ℕ → List (List Lit)
bound_clauses parent row low high =
    under parent (at_least row low) ++ option_map_or (λ most. under parent (opposite (at_least row (suc most)))) high []

-- at least `low` and at most `high` of the children, if the parent is there
abbrev pub range_part : ℕ → ℕ → Option ℕ → List Lit → Part
range_part parent low high children =
    let upto = counted (length children) low high in
    Own (table_size (length children) upto) (λ first. table_clauses first upto children ++ bound_clauses parent (table_literals first upto children) low high)

abbrev pub kind_part : ℕ → GroupKind → ℕ → Option ℕ → List Lit → Part
kind_part parent Mandatory low high children = bare (map (λ child. negative_of parent ∷ child ∷ []) children)
kind_part parent Optional low high children = bare []
kind_part parent Or low high children = bare ((negative_of parent ∷ children) ∷ [])
kind_part parent Alternative low high children = range_part parent 1 (Some 1) children
kind_part parent Range low high children = range_part parent low high children

-- the group of the feature with this number
abbrev pub group_part : ℕ → Group → Part
group_part parent group = kind_part parent group.kind group.low group.high (map positive_of group.children)
