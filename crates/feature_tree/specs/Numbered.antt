-- A formula with other names: what a reader does when it knows which feature each name stands for.
use Rattle.std.specs.Prelude.{◌≡◌, ℕ, Bool, List, length, map, slice_get, unwrap_or}
use Rattle.feature_tree.specs.declared.formula.Formula.{Formula}
use Rattle.feature_tree.specs.declared.formula.Formula.TheVariants.{Name, Not, All, Any, Implies, Same}
use Rattle.feature_tree.specs.declared.formula.Formula.TheOpen as node
use Rattle.feature_tree.specs.declared.formula.Formula.TheOpen.{Formula-F}
use Rattle.feature_tree.specs.declared.formula.Formula.TheFolds.{fold-Formula}
use Rattle.feature_tree.specs.Truth.{is_in, truth}
use Rattle.feature_tree.specs.Names.{names, NamesBelow}

-- the number at the name's place in the list; a name beyond the list keeps its own
abbrev pub number_at : List ℕ → ℕ → ℕ
number_at of name = unwrap_or (slice_get of name) name

-- one node, whose parts have their numbers already
abbrev pub numbered_node : List ℕ → Formula-F Formula → Formula
numbered_node of (node.Name name) = Name (number_at of name)
numbered_node of (node.Not part) = Not part
numbered_node of (node.All parts) = All parts
numbered_node of (node.Any parts) = Any parts
numbered_node of (node.Implies left right) = Implies left right
numbered_node of (node.Same left right) = Same left right

-- the formula with each name replaced by its number, and nothing else changed
abbrev pub numbered : List ℕ → Formula → Formula
numbered of = fold-Formula Formula (numbered_node of)

-- Its names are the numbers of the names, in their order.
abbrev pub NumberedNames : Type 0
NumberedNames = (of : List ℕ) (formula : Formula) → names (numbered of formula) ≡ map (number_at of) (names formula)

-- It is true in a set exactly where the formula is, each name taken as true where its number is in the set.
abbrev pub NumberedTruth : Type 0
NumberedTruth = (set : List Bool) (of : List ℕ) (formula : Formula) → NamesBelow (length of) formula → truth set (numbered of formula) ≡ truth (map (is_in set) of) formula
