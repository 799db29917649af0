-- What holds of each formula that was read, whatever the tokens: of its nodes, and of its names.
use Rattle.std.specs.Prelude.{◌≡◌, All, Some, slice_get, Bool, true, ◌&&◌, IsTrue, nat_le, List, length}
use Rattle.std.specs.List.{list_all}
use Rattle.feature_tree.specs.declared.formula.Formula.{Formula}
use Rattle.feature_tree.specs.declared.formula.Formula.TheOpen as node
use Rattle.feature_tree.specs.declared.formula.Formula.TheOpen.{Formula-F}
use Rattle.feature_tree.specs.declared.formula.Formula.TheFolds.{fold-Formula}
use Rattle.feature_tree.specs.declared.reader.parsed.Parsed.{Parsed}
use Rattle.feature_tree.specs.declared.reader.role.Role.{Role}
use Rattle.feature_tree.specs.declared.reader.role.Role.TheVariants.{Name}
use Rattle.feature_tree.specs.Grammar.{IsFormula}
use Rattle.feature_tree.specs.Names.{names}

-- whether it holds of a node, whose parts are given by whether it holds of them
abbrev pub full_node : Formula-F Bool → Bool
full_node (node.Name name) = true
full_node (node.Not part) = part
full_node (node.All parts) = nat_le 2 (length parts) && list_all (λ part. part) parts
full_node (node.Any parts) = nat_le 2 (length parts) && list_all (λ part. part) parts
full_node (node.Implies left right) = left && right
full_node (node.Same left right) = left && right

-- each All and each Any in the formula has two or more parts
abbrev pub IsFull : Formula → Type 0
IsFull formula = IsTrue (fold-Formula Bool full_node formula)

abbrev pub ReadFormulasAreFull : Type 0
ReadFormulasAreFull = (tokens : List Role) (parsed : Parsed) → IsFormula tokens parsed → IsFull parsed.formula

-- each name in a formula that was read is the number of a token that is a name
abbrev pub ReadNamesAreNames : Type 0
ReadNamesAreNames =
    (tokens : List Role) (parsed : Parsed) → IsFormula tokens parsed → All (λ token. slice_get tokens token ≡ Some Name) (names parsed.formula)
