-- A formula with other names, kind by kind, and its names and its truth.
use Rattle.std.proofs.Common.{◌≡◌, ◌∙◌, refl, ap, sym, subst, ℕ, ◌<◌, Bool, false, not, ◌&&◌, ◌||◌, List, [], ◌∷◌, ◌++◌, length, slice_index_or, unwrap_or, option_map, All, map}
use Rattle.std.specs.List.{list_all, list_any, flat_map}
use Rattle.std.proofs.lemmas.List.{map-append}
use Rattle.std.proofs.lemmas.List.Elements.{All-nil, All-cons, All-head, All-tail}
use Rattle.std.proofs.lemmas.List.Folds.{list_all-map}
use Rattle.std.proofs.lemmas.Option.{slice_get-map, slice_get-get_or}
use Rattle.lists.proofs.Appends.{list_any-map}
use Rattle.feature_tree.specs.declared.formula.Formula.{Formula}
use Rattle.feature_tree.specs.declared.formula.Formula.TheVariants.{Name, Not, All as AllOf, Any as AnyOf, Implies, Same, rolls-Name, rolls-Not, rolls-All, rolls-Any, rolls-Implies, rolls-Same}
use Rattle.feature_tree.specs.declared.formula.Formula.TheOpen as node
use Rattle.feature_tree.specs.declared.formula.Formula.TheOpen.{Formula-F}
use Rattle.feature_tree.specs.declared.formula.Formula.TheViews.{roll-Formula}
use Rattle.feature_tree.specs.declared.formula.Formula.TheFolds.{ind-Formula, map-Formula}
use Rattle.feature_tree.specs.Folds.{fold-Name, fold-Not, fold-All, fold-Any, fold-Implies, fold-Same}
use Rattle.feature_tree.specs.Truth.{is_in, agree, truth}
use Rattle.feature_tree.specs.Names.{names_of_node, names, NamesBelow}
use Rattle.feature_tree.specs.Numbered.{number_at, numbered_node, numbered}
use Rattle.feature_tree.proofs.Formulas.{truth-Name, truth-Not, truth-All, truth-Any, truth-Implies, truth-Same, All-names-Name, All-names-Not, All-names-All, All-names-Any, All-names-Implies, All-names-Same}

-- ---- the kinds of formulas

module _ (of : List ℕ) where
  pub numbered-Name : (name : ℕ) → numbered of (Name name) ≡ Name (number_at of name)
  numbered-Name name = fold-Name Formula (numbered_node of) name

  pub numbered-Not : (part : Formula) → numbered of (Not part) ≡ Not (numbered of part)
  numbered-Not part = fold-Not Formula (numbered_node of) part

  pub numbered-All : (parts : List Formula) → numbered of (AllOf parts) ≡ AllOf (map (numbered of) parts)
  numbered-All parts = fold-All Formula (numbered_node of) parts

  pub numbered-Any : (parts : List Formula) → numbered of (AnyOf parts) ≡ AnyOf (map (numbered of) parts)
  numbered-Any parts = fold-Any Formula (numbered_node of) parts

  pub numbered-Implies : (left right : Formula) → numbered of (Implies left right) ≡ Implies (numbered of left) (numbered of right)
  numbered-Implies left right = fold-Implies Formula (numbered_node of) left right

  pub numbered-Same : (left right : Formula) → numbered of (Same left right) ≡ Same (numbered of left) (numbered of right)
  numbered-Same left right = fold-Same Formula (numbered_node of) left right

-- ---- names

names-Name : (name : ℕ) → names (Name name) ≡ name ∷ []
names-Name name = fold-Name (List ℕ) names_of_node name

names-Not : (part : Formula) → names (Not part) ≡ names part
names-Not part = fold-Not (List ℕ) names_of_node part

names-All : (parts : List Formula) → names (AllOf parts) ≡ flat_map (λ part. part) (map names parts)
names-All parts = fold-All (List ℕ) names_of_node parts

names-Any : (parts : List Formula) → names (AnyOf parts) ≡ flat_map (λ part. part) (map names parts)
names-Any parts = fold-Any (List ℕ) names_of_node parts

names-Implies : (left right : Formula) → names (Implies left right) ≡ names left ++ names right
names-Implies left right = fold-Implies (List ℕ) names_of_node left right

names-Same : (left right : Formula) → names (Same left right) ≡ names left ++ names right
names-Same left right = fold-Same (List ℕ) names_of_node left right

module _ (of : List ℕ) where
  abbrev Named : Formula → Type 0
  Named formula = names (numbered of formula) ≡ map (number_at of) (names formula)

  names_of_parts : (parts : List ((formula : Formula) × Named formula))
      → flat_map (λ part. part) (map names (map (numbered of) (map (λ part. part.0) parts))) ≡ map (number_at of) (flat_map (λ part. part) (map names (map (λ part. part.0) parts)))
  names_of_parts [] = refl
  names_of_parts (part ∷ parts) =
      ap (λ here. here ++ flat_map (λ p. p) (map names (map (numbered of) (map (λ p. p.0) parts)))) part.1
      ∙ ap (λ rest. map (number_at of) (names part.0) ++ rest) (names_of_parts parts)
      ∙ sym (map-append (number_at of) (names part.0) (flat_map (λ p. p) (map names (map (λ p. p.0) parts))))

  names_of_two : (left right : Formula) → Named left → Named right → names (numbered of left) ++ names (numbered of right) ≡ map (number_at of) (names left ++ names right)
  names_of_two left right a b =
      ap (λ here. here ++ names (numbered of right)) a
      ∙ ap (λ rest. map (number_at of) (names left) ++ rest) b
      ∙ sym (map-append (number_at of) (names left) (names right))

  named_at_node : (y : Formula-F ((formula : Formula) × Named formula)) → Named (roll-Formula (map-Formula ((formula : Formula) × Named formula) Formula (λ e. e.0) y))
  named_at_node (node.Name name) =
      subst Named (sym (rolls-Name name)) (ap names (numbered-Name of name) ∙ names-Name (number_at of name) ∙ ap (map (number_at of)) (sym (names-Name name)))
  named_at_node (node.Not part) =
      subst Named (sym (rolls-Not part.0)) (ap names (numbered-Not of part.0) ∙ names-Not (numbered of part.0) ∙ part.1 ∙ ap (map (number_at of)) (sym (names-Not part.0)))
  named_at_node (node.All parts) =
      let formulas : List Formula = map (λ part. part.0) parts in
      subst Named (sym (rolls-All formulas)) (ap names (numbered-All of formulas) ∙ names-All (map (numbered of) formulas) ∙ names_of_parts parts ∙ ap (map (number_at of)) (sym (names-All formulas)))
  named_at_node (node.Any parts) =
      let formulas : List Formula = map (λ part. part.0) parts in
      subst Named (sym (rolls-Any formulas)) (ap names (numbered-Any of formulas) ∙ names-Any (map (numbered of) formulas) ∙ names_of_parts parts ∙ ap (map (number_at of)) (sym (names-Any formulas)))
  named_at_node (node.Implies left right) =
      subst Named (sym (rolls-Implies left.0 right.0))
      (ap names (numbered-Implies of left.0 right.0) ∙ names-Implies (numbered of left.0) (numbered of right.0) ∙ names_of_two left.0 right.0 left.1 right.1 ∙ ap (map (number_at of)) (sym (names-Implies left.0 right.0)))
  named_at_node (node.Same left right) =
      subst Named (sym (rolls-Same left.0 right.0))
      (ap names (numbered-Same of left.0 right.0) ∙ names-Same (numbered of left.0) (numbered of right.0) ∙ names_of_two left.0 right.0 left.1 right.1 ∙ ap (map (number_at of)) (sym (names-Same left.0 right.0)))

  pub numbered-names : (formula : Formula) → names (numbered of formula) ≡ map (number_at of) (names formula)
  numbered-names = ind-Formula Named (λ x y is. subst (λ z. Named (roll-Formula z)) is (named_at_node y))

-- ---- truth

list_all-same : {X : Type 0} (p q : X → Bool) (xs : List X) → All (λ x. p x ≡ q x) xs → list_all p xs ≡ list_all q xs
list_all-same p q [] all = refl
list_all-same p q (x ∷ xs) all =
    ap (λ here. here && list_all p xs) (All-head (λ x. p x ≡ q x) x xs all) ∙ ap (λ rest. q x && rest) (list_all-same p q xs (All-tail (λ x. p x ≡ q x) x xs all))

list_any-same : {X : Type 0} (p q : X → Bool) (xs : List X) → All (λ x. p x ≡ q x) xs → list_any p xs ≡ list_any q xs
list_any-same p q [] all = refl
list_any-same p q (x ∷ xs) all =
    ap (λ here. here || list_any p xs) (All-head (λ x. p x ≡ q x) x xs all) ∙ ap (λ rest. q x || rest) (list_any-same p q xs (All-tail (λ x. p x ≡ q x) x xs all))

module _ (set other : List Bool) (of : List ℕ) where
  abbrev Agree : ℕ → Type 0
  Agree name = is_in set (number_at of name) ≡ is_in other name

  abbrev Alike : Formula → Type 0
  Alike formula = truth set (numbered of formula) ≡ truth other formula

  abbrev SameTruth : Formula → Type 0
  SameTruth formula = All Agree (names formula) → Alike formula

  each_alike : (parts : List ((formula : Formula) × SameTruth formula)) → All (λ part. All Agree (names part)) (map (λ part. part.0) parts) → All Alike (map (λ part. part.0) parts)
  each_alike [] all = All-nil Alike
  each_alike (part ∷ parts) all =
      All-cons Alike part.0 (map (λ p. p.0) parts)
      (part.1 (All-head (λ f. All Agree (names f)) part.0 (map (λ p. p.0) parts) all))
      (each_alike parts (All-tail (λ f. All Agree (names f)) part.0 (map (λ p. p.0) parts) all))

  same_at_node : (y : Formula-F ((formula : Formula) × SameTruth formula))
      → SameTruth (roll-Formula (map-Formula ((formula : Formula) × SameTruth formula) Formula (λ e. e.0) y))
  same_at_node (node.Name name) =
      subst SameTruth (sym (rolls-Name name)) (λ all.
      ap (truth set) (numbered-Name of name) ∙ truth-Name set (number_at of name) ∙ All-names-Name Agree name all ∙ sym (truth-Name other name))
  same_at_node (node.Not part) =
      subst SameTruth (sym (rolls-Not part.0)) (λ all.
      ap (truth set) (numbered-Not of part.0) ∙ truth-Not set (numbered of part.0) ∙ ap not (part.1 (All-names-Not Agree part.0 all)) ∙ sym (truth-Not other part.0))
  same_at_node (node.All parts) =
      let formulas : List Formula = map (λ part. part.0) parts in
      subst SameTruth (sym (rolls-All formulas)) (λ all.
      ap (truth set) (numbered-All of formulas)
      ∙ truth-All set (map (numbered of) formulas)
      ∙ list_all-map (truth set) (numbered of) formulas
      ∙ list_all-same (λ f. truth set (numbered of f)) (truth other) formulas (each_alike parts (All-names-All Agree formulas all))
      ∙ sym (truth-All other formulas))
  same_at_node (node.Any parts) =
      let formulas : List Formula = map (λ part. part.0) parts in
      subst SameTruth (sym (rolls-Any formulas)) (λ all.
      ap (truth set) (numbered-Any of formulas)
      ∙ truth-Any set (map (numbered of) formulas)
      ∙ list_any-map (numbered of) (truth set) formulas
      ∙ list_any-same (λ f. truth set (numbered of f)) (truth other) formulas (each_alike parts (All-names-Any Agree formulas all))
      ∙ sym (truth-Any other formulas))
  same_at_node (node.Implies left right) =
      subst SameTruth (sym (rolls-Implies left.0 right.0)) (λ all.
      let sides = All-names-Implies Agree left.0 right.0 all in
      ap (truth set) (numbered-Implies of left.0 right.0)
      ∙ truth-Implies set (numbered of left.0) (numbered of right.0)
      ∙ ap (λ a. not a || truth set (numbered of right.0)) (left.1 sides.0)
      ∙ ap (λ b. not (truth other left.0) || b) (right.1 sides.1)
      ∙ sym (truth-Implies other left.0 right.0))
  same_at_node (node.Same left right) =
      subst SameTruth (sym (rolls-Same left.0 right.0)) (λ all.
      let sides = All-names-Same Agree left.0 right.0 all in
      ap (truth set) (numbered-Same of left.0 right.0)
      ∙ truth-Same set (numbered of left.0) (numbered of right.0)
      ∙ ap (λ a. agree a (truth set (numbered of right.0))) (left.1 sides.0)
      ∙ ap (λ b. agree (truth other left.0) b) (right.1 sides.1)
      ∙ sym (truth-Same other left.0 right.0))

  numbered-same : (formula : Formula) → SameTruth formula
  numbered-same = ind-Formula SameTruth (λ x y is. subst (λ z. SameTruth (roll-Formula z)) is (same_at_node y))

-- a name within the list has the value of its number
value_at : (set : List Bool) (of : List ℕ) (name : ℕ) → name < length of → is_in set (number_at of name) ≡ is_in (map (is_in set) of) name
value_at set of name below =
    let at = slice_get-get_or of name name below in
    ap (λ number. is_in set (unwrap_or number name)) at
    ∙ sym (ap (λ value. unwrap_or value false) (slice_get-map (is_in set) of name ∙ ap (option_map (is_in set)) at))

values_at : (set : List Bool) (of names : List ℕ) → All (λ name. name < length of) names → All (λ name. is_in set (number_at of name) ≡ is_in (map (is_in set) of) name) names
values_at set of [] all = All-nil (λ name. is_in set (number_at of name) ≡ is_in (map (is_in set) of) name)
values_at set of (name ∷ names) all =
    All-cons (λ name. is_in set (number_at of name) ≡ is_in (map (is_in set) of) name) name names
    (value_at set of name (All-head (λ name. name < length of) name names all))
    (values_at set of names (All-tail (λ name. name < length of) name names all))

pub numbered-truth : (set : List Bool) (of : List ℕ) (formula : Formula) → NamesBelow (length of) formula → truth set (numbered of formula) ≡ truth (map (is_in set) of) formula
numbered-truth set of formula below = numbered-same set (map (is_in set) of) of formula (values_at set of (names formula) below)

-- a name within the list becomes what the list has at its place
pub numbered-within : (of : List ℕ) (name : ℕ) → name < length of → numbered of (Name name) ≡ Name (slice_index_or of name 0)
numbered-within of name below = numbered-Name of name ∙ ap (λ number. Name (unwrap_or number name)) (slice_get-get_or of name 0 below)
