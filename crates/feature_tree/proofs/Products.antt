-- A product by its parts.
use Rattle.std.proofs.Common.{◌≡◌, refl, ℕ, zero, suc, ◌<◌, Bool, true, false, ◌&&◌, IsTrue, List, [], ◌∷◌, All, Option, Some, None, IfSome, length, get_or, arith}
use Rattle.std.specs.List.{list_all, slice_get}
use Rattle.std.specs.Option.{option_map_or}
use Rattle.std.proofs.lemmas.List.Elements.{All-weaker}
use Rattle.std.proofs.lemmas.Option.{slice_get-get_or, slice_get_within}
use Rattle.std.proofs.lemmas.List.Sums.{AllPass-from_list_all, list_all-from_AllPass}
use Rattle.feature_tree.specs.declared.feature.Feature.{Feature}
use Rattle.feature_tree.specs.declared.formula.Formula.{Formula}
use Rattle.feature_tree.specs.FeatureModel.{FeatureModel}
use Rattle.feature_tree.specs.Truth.{is_in, truth}
use Rattle.feature_tree.specs.Product.{EachMember, IsProduct}
use Rattle.feature_tree.specs.Decided.{is_met, is_settled}
use Rattle.feature_tree.specs.WellFormed.{parent_of, HasParent, IsGroupOf, IsTree}
use Rattle.feature_tree.specs.inside.Within.{ChildrenBelow, IsWithin}

-- what holds of each item by its place holds of all
pub All-from_slice_get : {X : Type 0} (P : X → Type 0) (xs : List X) → ((i : ℕ) (x : X) → slice_get xs i ≡ Some x → P x) → All P xs
All-from_slice_get P xs each k d within = each k (get_or xs k d) (slice_get-get_or xs k d within)

-- ---- numbers are within the features

pub parent_of-within : (features : List Feature) (i parent : ℕ) → parent_of features i ≡ Some parent → i < length features
parent_of-within [] i parent is = cc
parent_of-within (feature ∷ features) zero parent is = omega arith
parent_of-within (feature ∷ features) (suc i) parent is = omega (arith, parent_of-within features i parent is)

parent_below : (i n : ℕ) (parent : Option ℕ) → HasParent i parent → i < n → (p : ℕ) → parent ≡ Some p → p < n
parent_below i n None has below p is = cc
parent_below i n (Some q) has below p is = let same : q ≡ p = cc in omega arith

pub features_are_within : (features : List Feature) → IsTree features → All (IsWithin (length features)) features
features_are_within features tree =
    All-from_slice_get (IsWithin (length features)) features (λ i feature is. record {
      parent = parent_below i (length features) feature.parent (tree.parents i feature is) (slice_get_within features i feature is);
      children = All-weaker (IsGroupOf features i) (ChildrenBelow (length features))
          (λ group own. All-weaker (λ child. parent_of features child ≡ Some i) (λ child. child < length features) (λ child p. parent_of-within features child i p) group.children own.children)
          feature.groups (tree.groups i feature is);
    })

-- ---- a member, settled

pub both : (a b : Bool) → IsTrue (a && b) → IsTrue a × IsTrue b
both true true t = (refl, refl)
both true false t = (refl, t)
both false b t = (t, cc)

pub of_both : (a b : Bool) → IsTrue a → IsTrue b → IsTrue (a && b)
of_both true true p q = refl
of_both true false p q = q
of_both false b p q = p

parent_in : (set : List Bool) (parent : Option ℕ) → IsTrue (option_map_or (λ p. is_in set p) parent true) → IfSome parent (λ p. IsTrue (is_in set p))
parent_in set None t = tt
parent_in set (Some p) t = t

of_parent_in : (set : List Bool) (parent : Option ℕ) → IfSome parent (λ p. IsTrue (is_in set p)) → IsTrue (option_map_or (λ p. is_in set p) parent true)
of_parent_in set None t = refl
of_parent_in set (Some p) t = t

abbrev pub view_of : List Feature → List Formula → FeatureModel
view_of features constraints = record { features = features; constraints = constraints }

module _ (model : FeatureModel) (set : List Bool) where
  pub product : length set ≡ length model.features → IsTrue (is_in set 0) → EachMember model.features set (λ feature. IsTrue (is_settled set feature)) → IsTrue (list_all (truth set) model.constraints) → IsProduct model set
  product sized root settled constraints = record {
    sized = sized;
    root = root;
    parents = λ i feature is member. parent_in set feature.parent (both _ _ (settled i feature is member)).0;
    groups = λ i feature is member. AllPass-from_list_all (is_met set) feature.groups (both _ _ (settled i feature is member)).1;
    constraints = AllPass-from_list_all (truth set) model.constraints constraints;
  }

  pub settled_of_product : IsProduct model set → EachMember model.features set (λ feature. IsTrue (is_settled set feature))
  settled_of_product product i feature is member = of_both _ _
      (of_parent_in set feature.parent (product.parents i feature is member))
      (list_all-from_AllPass (is_met set) feature.groups (product.groups i feature is member))

  pub constraints_of_product : IsProduct model set → IsTrue (list_all (truth set) model.constraints)
  constraints_of_product product = list_all-from_AllPass (truth set) model.constraints product.constraints
