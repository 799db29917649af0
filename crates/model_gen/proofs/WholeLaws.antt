-- The set of all features is a product of the generated model.
use Rattle.std.proofs.Common.{◌≡◌, ◌∙◌, refl, sym, ap, ℕ, zero, suc, ◌+◌, ◌-◌, ◌*◌, ◌<◌, ◌≤◌, min, Bool, true, false, cond, eqb, List, [], ◌∷◌, length, map, replicate, not, Option, Some, None, IsTrue, arith, add-one}
use Rattle.std.specs.Prelude.{All, Contains, slice_get, IfSome}
use Rattle.std.specs.List.{range_with_len}
use Rattle.std.proofs.lemmas.Bool.{eq-eqb, ne_eqb, le-leb}
use Rattle.std.proofs.Math.Bool.{or-true}
use Rattle.std.proofs.lemmas.List.{length-map, length-replicate}
use Rattle.std.proofs.Math.Nat.{mod-lt}
use Rattle.std.proofs.lemmas.List.Elements.{All-nil, All-cons}
use Rattle.std.proofs.lemmas.List.Sums.{sum_by-cons}
use Rattle.feature_tree.specs.declared.feature.Feature.{Feature}
use Rattle.feature_tree.specs.declared.group.GroupKind.{GroupKind}
use Rattle.feature_tree.specs.declared.group.GroupKind.TheVariants.{Mandatory, Optional, Or, Alternative, Range}
use Rattle.feature_tree.specs.declared.formula.Formula.TheVariants.{Name, Implies}
use Rattle.feature_tree.specs.Folds.{folds}
use Rattle.feature_tree.specs.Truth.{is_in, truth, Holds}
use Rattle.feature_tree.specs.Product.{IsProduct, IsMet, allows, count_in}
use Rattle.model_gen.specs.Lines.{parent_of, children, parent_count, kind_by, kinds, constraint, constraint_count}
use Rattle.model_gen.specs.Draws.{drawn}
use Rattle.model_gen.specs.Whole.{appearing, number_of, model_of, feature_of, group_of, groups_by, low_of, high_of, formula_of, all_features}
use Rattle.model_gen.proofs.Appearing.{appearing-below, number-below}
use Rattle.model_gen.proofs.TreeLaws.{length-children}

in_all : (n i : ℕ) → i < n → is_in (replicate n true) i ≡ true
in_all zero i l = absurd (omega arith)
in_all (suc n) zero l = refl
in_all (suc n) (suc i) l = in_all n i (omega arith)

pub is_in-all : (size feature : ℕ) → feature ≤ size → is_in (all_features size) (number_of size feature) ≡ true
is_in-all size feature l = in_all (length (appearing size)) (number_of size feature) (number-below size feature l)

some-one : {X : Type 0} (a b : X) → Some a ≡ Some b → a ≡ b
some-one a b e = cc

-- a place in a list that a function of the number makes
slice_get-made : {X : Type 0} (f : ℕ → X) (a m i : ℕ) (x : X) → slice_get (map f (range_with_len a m)) i ≡ Some x → (i < m) × (x ≡ f (a + i))
slice_get-made f a zero i x e = absurd (cc)
slice_get-made f a (suc m) zero x e = let at : a + 0 ≡ a = omega arith in (omega arith, (let same : f a ≡ x = some-one (f a) x e in sym same ∙ ap f (sym at)))
slice_get-made f a (suc m) (suc i) x e =
    let rest = slice_get-made f (a + 1) m i x e in
    let at : (a + 1) + i ≡ a + suc i = omega arith in
    (omega (arith, rest.0), rest.1 ∙ ap f at)

-- a place in a list of what a function makes of the features in order of appearance
slice_get-mapped : {X : Type 0} (f : ℕ → X) (xs : List ℕ) (i : ℕ) (x : X) → slice_get (map f xs) i ≡ Some x → (feature : ℕ) × Contains xs feature × (x ≡ f feature)
slice_get-mapped f [] i x e = absurd (cc)
slice_get-mapped f (first ∷ xs) zero x e = (first, (0, omega arith, refl), sym (some-one (f first) x e))
slice_get-mapped f (first ∷ xs) (suc i) x e =
    let rest = slice_get-mapped f xs i x e in
    (rest.0, (suc rest.1.0, omega (arith, rest.1.1), rest.1.2), rest.2)

pub feature-at : (seed size i : ℕ) (feature : Feature) → slice_get (model_of seed size).features i ≡ Some feature → (number : ℕ) × (number ≤ size) × (feature ≡ feature_of seed size number)
feature-at seed size i feature e =
    let made = slice_get-mapped (feature_of seed size) (appearing size) i feature e in
    (made.0, appearing-below size made.0 made.1, made.2)

-- ---- groups

one-counted : (b : Bool) (n : ℕ) → b ≡ true → cond b 1 0 + n ≡ n + 1
one-counted true n e = omega arith
one-counted false n e = absurd (cc)

count-all : (size a m : ℕ) → a + m ≤ size + 1 → count_in (all_features size) (map (number_of size) (range_with_len a m)) ≡ m
count-all size a zero l = refl
count-all size a (suc m) l =
    let others : List ℕ = map (number_of size) (range_with_len (a + 1) m) in
    sum_by-cons (λ i. cond (is_in (all_features size) i) 1 0) (number_of size a) others
    ∙ one-counted (is_in (all_features size) (number_of size a)) (count_in (all_features size) others) (is_in-all size a (omega arith))
    ∙ ap (λ k. k + 1) (count-all size (a + 1) m (omega arith)) ∙ add-one m

allows-all : (kind : GroupKind) (count : ℕ) → 0 < count → (kind ≡ Alternative → ⊥) → IsTrue (allows kind (low_of kind) (high_of kind count) count count)
allows-all Mandatory count some e = eq-eqb count count refl
allows-all Optional count some e = refl
allows-all Or count some e = le-leb 1 count (omega arith)
allows-all Alternative count some e = absurd (e refl)
allows-all Range count some e = rw (le-leb 1 count (omega arith), le-leb count count (omega arith)) refl

kind_by-other : (n : ℕ) → kind_by n ≡ Alternative → ⊥
kind_by-other zero e = absurd (cc)
kind_by-other (suc zero) e = absurd (cc)
kind_by-other (suc (suc zero)) e = absurd (cc)
kind_by-other (suc (suc (suc n))) e = absurd (cc)

pub group-met : (seed size i : ℕ) (kind : GroupKind) → slice_get (kinds seed size) i ≡ Some kind → IsMet (all_features size) (group_of kind (map (number_of size) (children size i)))
group-met seed size i kind e =
    let made = slice_get-made (λ parent. kind_by (drawn seed parent 4)) 0 (parent_count size) i kind e in
    let before : i < parent_count size = made.0 in
    let held : length (map (number_of size) (children size i)) ≡ min 4 (size - 4 * i) = length-map (children size i) (number_of size) ∙ length-children size i in
    let some : 0 < length (map (number_of size) (children size i)) = rw held (omega arith) in
    let room : (4 * i + 1) + min 4 (size - 4 * i) ≤ size + 1 = omega arith in
    let count : count_in (all_features size) (map (number_of size) (children size i)) ≡ length (map (number_of size) (children size i)) =
    count-all size (4 * i + 1) (min 4 (size - 4 * i)) room ∙ sym held in
    let other : kind ≡ Alternative → ⊥ = λ a. kind_by-other (drawn seed (0 + i) 4) (sym made.1 ∙ a) in
    rw count (allows-all kind (length (map (number_of size) (children size i))) some other)

pub groups-met : (seed size i : ℕ) (kind : Option GroupKind) → slice_get (kinds seed size) i ≡ kind → All (IsMet (all_features size)) (groups_by kind (map (number_of size) (children size i)))
groups-met seed size i None e = All-nil (IsMet (all_features size))
groups-met seed size i (Some kind) e = All-cons (IsMet (all_features size)) _ [] (group-met seed size i kind e) (All-nil (IsMet (all_features size)))

parent-in : (seed size i : ℕ) → i ≤ size → IfSome ((feature_of seed size i).parent) (λ parent. IsTrue (is_in (all_features size) parent))
parent-in seed size zero l = tt
parent-in seed size (suc i) l =
    let other : eqb (suc i) 0 ≡ false = ne_eqb (suc i) 0 (λ e. omega arith) in
    rw other (is_in-all size (parent_of (suc i)) (omega arith))

-- ---- constraints

implication-true : (set : List Bool) (a b : ℕ) → is_in set b ≡ true → truth set (Implies (Name a) (Name b)) ≡ true
implication-true set a b e = simp folds (rw e (or-true (not (is_in set a))))

constraints-hold : (seed size : ℕ) (a m : ℕ) → All (Holds (all_features size)) (map (formula_of size) (map (constraint seed size) (range_with_len a m)))
constraints-hold seed size a zero = All-nil (Holds (all_features size))
constraints-hold seed size a (suc m) =
    let needed : ℕ = (constraint seed size a).needed in
    let below : needed < size + 1 = mod-lt _ (omega arith) in
    All-cons (Holds (all_features size)) _ _
    (implication-true (all_features size) (number_of size (constraint seed size a).feature) (number_of size needed) (is_in-all size needed (omega arith)))
    (constraints-hold seed size (a + 1) m)

pub whole-product : (seed size : ℕ) → 1 ≤ size → IsProduct (model_of seed size) (all_features size)
whole-product seed size some = record {
  sized = length-replicate (length (appearing size)) true ∙ sym (length-map (appearing size) (feature_of seed size));
  root = root-in;
  parents = λ i feature e m. let at = feature-at seed size i feature e in rw at.2 (parent-in seed size at.0 at.1);
  groups = λ i feature e m. let at = feature-at seed size i feature e in rw at.2 (groups-met seed size at.0 (slice_get (kinds seed size) at.0) refl);
  constraints = constraints-hold seed size 0 (constraint_count size);
}
  where
    some-appear : 0 < length (appearing size)
    some-appear = let below : number_of size 0 < length (appearing size) = number-below size 0 (omega arith) in omega arith

    root-in : IsTrue (is_in (all_features size) 0)
    root-in = in_all (length (appearing size)) 0 some-appear
