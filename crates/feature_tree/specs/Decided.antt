-- Products and consistency as tests that compute, by trying every set of features. They are for examples, and for
-- definitions that need an answer; the facts of `Product` and `Consistent` say the same in the field's words.
use Rattle.std.specs.Prelude.{◌↔◌, ℕ, zero, suc, Bool, true, false, not, ◌&&◌, ◌||◌, ◌==◌, IsTrue, List, [], ◌∷◌, ◌++◌, length, map}
use Rattle.std.specs.List.{list_all, list_any, enumerate_from}
use Rattle.std.specs.Option.{option_map_or}
use Rattle.feature_tree.specs.declared.group.Group.{Group}
use Rattle.feature_tree.specs.declared.feature.Feature.{Feature}
use Rattle.feature_tree.specs.declared.formula.Formula.{Formula}
use Rattle.feature_tree.specs.FeatureModel.{FeatureModel}
use Rattle.feature_tree.specs.Truth.{is_in, truth}
use Rattle.feature_tree.specs.Product.{count_in, allows, IsProduct}
use Rattle.feature_tree.specs.Consistent.{IsConsistent}

abbrev pub is_met : List Bool → Group → Bool
is_met set group = allows group.kind group.low group.high (length group.children) (count_in set group.children)

-- what a member asks: its parent, and its groups met
abbrev pub is_settled : List Bool → Feature → Bool
is_settled set feature = option_map_or (λ parent. is_in set parent) feature.parent true && list_all (is_met set) feature.groups

abbrev pub is_product : FeatureModel → List Bool → Bool
is_product model set =
    (length set == length model.features)
    && is_in set 0
    && list_all (λ numbered. not (is_in set numbered.0) || is_settled set numbered.1) (enumerate_from 0 model.features)
    && list_all (truth set) model.constraints

-- all sets of features, of as many features as the count says
abbrev pub sets : ℕ → List (List Bool)
sets zero = [] ∷ []
sets (suc count) = map (λ set. true ∷ set) (sets count) ++ map (λ set. false ∷ set) (sets count)

abbrev pub is_consistent : FeatureModel → List Formula → Bool
is_consistent model formulas = list_any (λ set. is_product model set && list_all (truth set) formulas) (sets (length model.features))

-- The tests say what the definitions say.
abbrev pub ProductIsDecided : Type 0
ProductIsDecided = (model : FeatureModel) (set : List Bool) → IsTrue (is_product model set) ↔ IsProduct model set

abbrev pub ConsistentIsDecided : Type 0
ConsistentIsDecided = (model : FeatureModel) (formulas : List Formula) → IsTrue (is_consistent model formulas) ↔ IsConsistent model formulas
