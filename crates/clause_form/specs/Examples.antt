-- Worked examples. Each computes.
use Rattle.std.specs.Prelude.{◌≡◌, List, [], ◌∷◌, Some, None, refl}
use Rattle.clauses.specs.declared.literal.Lit.{Lit}
use Rattle.clauses.specs.Clause.{positive_of as yes, negative_of as no}
use Rattle.count_gates.specs.Table.{table_size}
use Rattle.feature_tree.specs.declared.formula.Formula.TheVariants.{Name, Not, All, Any, Implies, Same}
use Rattle.feature_tree.specs.declared.group.GroupKind.TheVariants.{Mandatory, Optional, Or, Alternative, Range}
use Rattle.feature_tree.specs.Folds.{folds}
use Rattle.clause_form.specs.Parts.{size, clauses}
use Rattle.clause_form.specs.Gates.{gates, literal, gates_of}
use Rattle.clause_form.specs.Groups.{counted, kind_part}

-- ---- formulas: the features are those below 7, so the first gate is 7

name-literal : literal (gates_of (Name 4)) 7 ≡ yes 4
name-literal = simp folds refl

not-literal : literal (gates_of (Not (Name 4))) 7 ≡ no 4
not-literal = simp folds refl

not-size : size (gates (gates_of (Not (Not (Name 4))))) ≡ 0
not-size = simp folds refl

all-clauses :
    clauses (gates (gates_of (All (Name 0 ∷ Not (Name 1) ∷ Name 2 ∷ [])))) 7 ≡
    (no 7 ∷ yes 0 ∷ []) ∷ (no 7 ∷ no 1 ∷ []) ∷ (no 7 ∷ yes 2 ∷ []) ∷ (yes 7 ∷ no 0 ∷ yes 1 ∷ no 2 ∷ []) ∷ []
all-clauses = simp folds refl

any-clauses : clauses (gates (gates_of (Any (Name 0 ∷ Name 1 ∷ [])))) 7 ≡ (yes 7 ∷ no 0 ∷ []) ∷ (yes 7 ∷ no 1 ∷ []) ∷ (no 7 ∷ yes 0 ∷ yes 1 ∷ []) ∷ []
any-clauses = simp folds refl

implies-clauses : clauses (gates (gates_of (Implies (Name 0) (Name 1)))) 7 ≡ (yes 7 ∷ yes 0 ∷ []) ∷ (yes 7 ∷ no 1 ∷ []) ∷ (no 7 ∷ no 0 ∷ yes 1 ∷ []) ∷ []
implies-clauses = simp folds refl

same-clauses :
    clauses (gates (gates_of (Same (Name 0) (Name 1)))) 7 ≡
    (no 7 ∷ no 0 ∷ yes 1 ∷ []) ∷ (no 7 ∷ yes 0 ∷ no 1 ∷ []) ∷ (yes 7 ∷ yes 0 ∷ yes 1 ∷ []) ∷ (yes 7 ∷ no 0 ∷ no 1 ∷ []) ∷ []
same-clauses = simp folds refl

-- the gates of the members come first, from left to right, and equal members have gates of their own
nested-clauses :
    clauses (gates (gates_of (Any (All (Name 0 ∷ Name 1 ∷ []) ∷ Not (All (Name 0 ∷ Name 1 ∷ [])) ∷ [])))) 7 ≡
    (no 7 ∷ yes 0 ∷ []) ∷ (no 7 ∷ yes 1 ∷ []) ∷ (yes 7 ∷ no 0 ∷ no 1 ∷ [])
    ∷ (no 8 ∷ yes 0 ∷ []) ∷ (no 8 ∷ yes 1 ∷ []) ∷ (yes 8 ∷ no 0 ∷ no 1 ∷ [])
    ∷ (yes 9 ∷ no 7 ∷ []) ∷ (yes 9 ∷ yes 8 ∷ []) ∷ (no 9 ∷ yes 7 ∷ no 8 ∷ []) ∷ []
nested-clauses = simp folds refl

nested-literal : literal (gates_of (Any (All (Name 0 ∷ Name 1 ∷ []) ∷ Not (All (Name 0 ∷ Name 1 ∷ [])) ∷ []))) 7 ≡ yes 9
nested-literal = simp folds refl

-- the sides of an implication too: here the left side has a gate, and the right side one behind it
sides-clauses :
    clauses (gates (gates_of (Implies (Same (Name 0) (Name 1)) (Not (Any (Name 2 ∷ Name 3 ∷ [])))))) 7 ≡
    (no 7 ∷ no 0 ∷ yes 1 ∷ []) ∷ (no 7 ∷ yes 0 ∷ no 1 ∷ []) ∷ (yes 7 ∷ yes 0 ∷ yes 1 ∷ []) ∷ (yes 7 ∷ no 0 ∷ no 1 ∷ [])
    ∷ (yes 8 ∷ no 2 ∷ []) ∷ (yes 8 ∷ no 3 ∷ []) ∷ (no 8 ∷ yes 2 ∷ yes 3 ∷ [])
    ∷ (yes 9 ∷ yes 7 ∷ []) ∷ (yes 9 ∷ yes 8 ∷ []) ∷ (no 9 ∷ no 7 ∷ no 8 ∷ []) ∷ []
sides-clauses = simp folds refl

-- ---- groups of the parent 0, whose children are 1 and 2; the first variable of the group is 7

abbrev two : List Lit
two = yes 1 ∷ yes 2 ∷ []

mandatory : clauses (kind_part 0 Mandatory 0 None two) 7 ≡ (no 0 ∷ yes 1 ∷ []) ∷ (no 0 ∷ yes 2 ∷ []) ∷ []
mandatory = refl

optional : clauses (kind_part 0 Optional 0 None two) 7 ≡ []
optional = refl

or : clauses (kind_part 0 Or 0 None two) 7 ≡ (no 0 ∷ yes 1 ∷ yes 2 ∷ []) ∷ []
or = refl

-- exactly one: 9 says that both are there, and 8 that one is
alternative :
    clauses (kind_part 0 Alternative 0 None two) 7 ≡
    (no 7 ∷ yes 1 ∷ []) ∷ (yes 7 ∷ no 1 ∷ [])
    ∷ (no 8 ∷ yes 7 ∷ yes 2 ∷ []) ∷ (yes 8 ∷ no 7 ∷ []) ∷ (yes 8 ∷ no 2 ∷ [])
    ∷ (no 9 ∷ yes 2 ∷ []) ∷ (no 9 ∷ yes 7 ∷ []) ∷ (yes 9 ∷ no 7 ∷ no 2 ∷ [])
    ∷ (no 0 ∷ yes 8 ∷ []) ∷ (no 0 ∷ no 9 ∷ []) ∷ []
alternative = refl

-- exactly one of one: two aren't to be had, so nothing is counted beyond one
alternative-of_one : clauses (kind_part 0 Alternative 0 None (yes 1 ∷ [])) 7 ≡ (no 7 ∷ yes 1 ∷ []) ∷ (yes 7 ∷ no 1 ∷ []) ∷ (no 0 ∷ yes 7 ∷ []) ∷ []
alternative-of_one = refl

-- at least one, with no upper bound, and with one that can't be passed
range-open :
    clauses (kind_part 0 Range 1 None two) 7 ≡
    (no 7 ∷ yes 1 ∷ []) ∷ (yes 7 ∷ no 1 ∷ []) ∷ (no 8 ∷ yes 7 ∷ yes 2 ∷ []) ∷ (yes 8 ∷ no 7 ∷ []) ∷ (yes 8 ∷ no 2 ∷ []) ∷ (no 0 ∷ yes 8 ∷ []) ∷ []
range-open = refl

range-high : clauses (kind_part 0 Range 1 (Some 999999999) two) 7 ≡ clauses (kind_part 0 Range 1 None two) 7
range-high = refl

-- any number is allowed: nothing is counted, and nothing asked
range-any : clauses (kind_part 0 Range 0 (Some 2) two) 7 ≡ []
range-any = refl

-- none is allowed: 8 says that one is there
range-none :
    clauses (kind_part 0 Range 0 (Some 0) two) 7 ≡
    (no 7 ∷ yes 1 ∷ []) ∷ (yes 7 ∷ no 1 ∷ []) ∷ (no 8 ∷ yes 7 ∷ yes 2 ∷ []) ∷ (yes 8 ∷ no 7 ∷ []) ∷ (yes 8 ∷ no 2 ∷ []) ∷ (no 0 ∷ no 8 ∷ []) ∷ []
range-none = refl

-- more than there are: the parent can't be there, and nothing is counted
range-too_many : clauses (kind_part 0 Range 3 (Some 3) two) 7 ≡ (no 0 ∷ []) ∷ []
range-too_many = refl

range-too_many-size : size (kind_part 0 Range 3 (Some 3) two) ≡ 0
range-too_many-size = refl

-- ---- how many variables

-- 1,000 of 2,000 children: they are counted up to 1,001
counted-both : counted 2000 1000 (Some 1000) ≡ 1001
counted-both = refl

-- a bound that can't be passed isn't counted to
counted-low : counted 65534 2 (Some 999999999) ≡ 2
counted-low = refl

counted-high : counted 65534 0 (Some 65533) ≡ 65534
counted-high = refl

counted-most : counted 65534 65535 (Some 65534) ≡ 0
counted-most = refl

-- the widest group, of which at least one is wanted and no number is too many: a variable for each child
widest : table_size 65534 (counted 65534 1 (Some 999999999)) ≡ 65534
widest = refl
