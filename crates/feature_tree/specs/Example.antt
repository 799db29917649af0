-- Worked examples.
use Rattle.std.specs.Prelude.{◌≡◌, ℕ, Bool, true, false, List, [], ◌∷◌, Option, Some, None, refl, codes}
use Rattle.feature_tree.specs.declared.formula.Formula.TheVariants.{Name, Not, All, Any, Implies, Same}
use Rattle.feature_tree.specs.declared.group.Group.{Group}
use Rattle.feature_tree.specs.declared.group.GroupKind.{GroupKind}
use Rattle.feature_tree.specs.declared.group.GroupKind.TheVariants.{Mandatory, Optional, Or, Alternative, Range}
use Rattle.feature_tree.specs.declared.feature.Feature.{Feature}
use Rattle.feature_tree.specs.FeatureModel.{FeatureModel}
use Rattle.feature_tree.specs.Folds.{folds}
use Rattle.feature_tree.specs.Truth.{truth}
use Rattle.feature_tree.specs.Growing.{with_root, with_group, with_child}
use Rattle.feature_tree.specs.Names.{names}
use Rattle.feature_tree.specs.Numbered.{numbered}
use Rattle.feature_tree.specs.Product.{allows}
use Rattle.feature_tree.specs.Decided.{is_product, is_consistent}

abbrev yes : Bool
yes = true

abbrev no : Bool
no = false

-- ---- truth: of two features the second is in the set

abbrev second : List Bool
second = no ∷ yes ∷ []

truth_name : truth second (Name 1) ≡ true
truth_name = simp folds refl

truth_name_outside : truth second (Name 0) ≡ false
truth_name_outside = simp folds refl

truth_not : truth second (Not (Name 1)) ≡ false
truth_not = simp folds refl

truth_all : truth second (All (Name 1 ∷ Name 0 ∷ [])) ≡ false
truth_all = simp folds refl

truth_all_of_none : truth second (All []) ≡ true
truth_all_of_none = simp folds refl

truth_any : truth second (Any (Name 1 ∷ Name 0 ∷ [])) ≡ true
truth_any = simp folds refl

truth_any_of_none : truth second (Any []) ≡ false
truth_any_of_none = simp folds refl

truth_implies : truth second (Implies (Name 0) (Name 1)) ≡ true
truth_implies = simp folds refl

truth_implies_not : truth second (Implies (Name 1) (Name 0)) ≡ false
truth_implies_not = simp folds refl

-- two false sides are the same, and no implication the other way round is wanted
truth_same : truth second (Same (Name 0) (Not (Name 1))) ≡ true
truth_same = simp folds refl

truth_same_not : truth second (Same (Name 0) (Name 1)) ≡ false
truth_same_not = simp folds refl

names_of_formula : names (Implies (Name 3) (All (Name 1 ∷ Not (Name 3) ∷ []))) ≡ 3 ∷ 1 ∷ 3 ∷ []
names_of_formula = simp folds refl

-- ---- other names: the first is 4, the second is 2

abbrev four_and_two : List ℕ
four_and_two = 4 ∷ 2 ∷ []

numbered_parts : numbered four_and_two (Implies (Name 1) (All (Name 0 ∷ Not (Name 1) ∷ []))) ≡ Implies (Name 2) (All (Name 4 ∷ Not (Name 2) ∷ []))
numbered_parts = simp folds refl

numbered_any : numbered four_and_two (Any (Name 1 ∷ Name 1 ∷ Name 0 ∷ [])) ≡ Any (Name 2 ∷ Name 2 ∷ Name 4 ∷ [])
numbered_any = simp folds refl

numbered_same : numbered four_and_two (Same (Name 0) (Name 1)) ≡ Same (Name 4) (Name 2)
numbered_same = simp folds refl

-- two names may have one number, and a name beyond the list keeps its own
numbered_alike : numbered (3 ∷ 3 ∷ []) (All (Name 0 ∷ Name 1 ∷ Name 2 ∷ [])) ≡ All (Name 3 ∷ Name 3 ∷ Name 2 ∷ [])
numbered_alike = simp folds refl

numbered_none : numbered four_and_two (All []) ≡ All []
numbered_none = simp folds refl

-- ---- groups of three children: the counts that each kind allows

mandatory_two : allows Mandatory 0 None 3 2 ≡ false
mandatory_two = refl

mandatory_three : allows Mandatory 0 None 3 3 ≡ true
mandatory_three = refl

optional_none : allows Optional 0 None 3 0 ≡ true
optional_none = refl

or_none : allows Or 0 None 3 0 ≡ false
or_none = refl

or_three : allows Or 0 None 3 3 ≡ true
or_three = refl

alternative_none : allows Alternative 0 None 3 0 ≡ false
alternative_none = refl

alternative_one : allows Alternative 0 None 3 1 ≡ true
alternative_one = refl

alternative_two : allows Alternative 0 None 3 2 ≡ false
alternative_two = refl

range_below : allows Range 1 (Some 2) 3 0 ≡ false
range_below = refl

range_at_most : allows Range 1 (Some 2) 3 2 ≡ true
range_at_most = refl

range_above : allows Range 1 (Some 2) 3 3 ≡ false
range_above = refl

range_open : allows Range 1 None 3 3 ≡ true
range_open = refl

-- exactly two
range_exact : allows Range 2 (Some 2) 3 3 ≡ false
range_exact = refl

range_of_none : allows Range 0 (Some 0) 3 1 ≡ false
range_of_none = refl

-- more than there are children
range_too_low : allows Range 4 None 3 3 ≡ false
range_too_low = refl

-- ---- products: R has a mandatory child A and an optional child B, which has the alternatives C and D

abbrev group : GroupKind → List ℕ → Group
group kind children = record { kind = kind; low = 0; high = None; children = children }

abbrev feature : List ℕ → Option ℕ → List Group → Feature
feature name parent groups = record { name = name; parent = parent; groups = groups }

abbrev tree : List Feature
tree =
    feature (codes "R") None (group Mandatory (1 ∷ []) ∷ group Optional (2 ∷ []) ∷ [])
    ∷ feature (codes "A") (Some 0) []
    ∷ feature (codes "B") (Some 0) (group Alternative (3 ∷ 4 ∷ []) ∷ [])
    ∷ feature (codes "C") (Some 2) []
    ∷ feature (codes "D") (Some 2) []
    ∷ []

abbrev plain : FeatureModel
plain = record { features = tree; constraints = [] }

-- D needs no B
abbrev constrained : FeatureModel
constrained = record { features = tree; constraints = Not (Name 4) ∷ [] }

-- the alternatives of B ask nothing, since B is not in the set
product_small : is_product plain (yes ∷ yes ∷ no ∷ no ∷ no ∷ []) ≡ true
product_small = refl

product_large : is_product plain (yes ∷ yes ∷ yes ∷ no ∷ yes ∷ []) ≡ true
product_large = refl

product_empty : is_product plain (no ∷ no ∷ no ∷ no ∷ no ∷ []) ≡ false
product_empty = refl

product_without_mandatory : is_product plain (yes ∷ no ∷ no ∷ no ∷ no ∷ []) ≡ false
product_without_mandatory = refl

product_without_parent : is_product plain (yes ∷ yes ∷ no ∷ yes ∷ no ∷ []) ≡ false
product_without_parent = refl

product_with_both : is_product plain (yes ∷ yes ∷ yes ∷ yes ∷ yes ∷ []) ≡ false
product_with_both = refl

product_with_neither : is_product plain (yes ∷ yes ∷ yes ∷ no ∷ no ∷ []) ≡ false
product_with_neither = refl

product_too_short : is_product plain (yes ∷ yes ∷ []) ≡ false
product_too_short = refl

product_against_constraint : is_product constrained (yes ∷ yes ∷ yes ∷ no ∷ yes ∷ []) ≡ false
product_against_constraint = simp folds refl

product_with_constraint : is_product constrained (yes ∷ yes ∷ yes ∷ yes ∷ no ∷ []) ≡ true
product_with_constraint = simp folds refl

-- ---- consistency

background : is_consistent plain [] ≡ true
background = refl

one_requirement : is_consistent plain (Name 2 ∷ []) ≡ true
one_requirement = simp folds refl

contradiction : is_consistent plain (Name 2 ∷ Not (Name 2) ∷ []) ≡ false
contradiction = simp folds refl

against_the_tree : is_consistent plain (Not (Name 1) ∷ []) ≡ false
against_the_tree = simp folds refl

against_the_constraint : is_consistent constrained (Name 4 ∷ []) ≡ false
against_the_constraint = simp folds refl

-- ---- growing: the example's tree, in the order of a file

abbrev with_r : List Feature
with_r = with_root (codes "R")

abbrev with_a : List Feature
with_a = with_group with_r 0 Mandatory 0 None (codes "A")

abbrev with_b : List Feature
with_b = with_group with_a 0 Optional 0 None (codes "B")

abbrev with_c : List Feature
with_c = with_group with_b 2 Alternative 0 None (codes "C")

grown : with_child with_c 2 (codes "D") ≡ tree
grown = refl
