-- The equations of truth and names, kind by kind.
use Rattle.std.proofs.Common.{◌≡◌, ◌∙◌, refl, ap, sym, subst, ℕ, ◌<◌, Bool, not, ◌&&◌, ◌||◌, List, [], ◌∷◌, ◌++◌, All, map}
use Rattle.std.specs.List.{list_all, list_any}
use Rattle.std.proofs.lemmas.List.Elements.{All-head, All-tail, All-same}
use Rattle.std.proofs.lemmas.List.Folds.{list_all-map}
use Rattle.lists.proofs.Appends.{All-append_left, All-append_right, All-flat_map, list_any-map}
use Rattle.feature_tree.specs.declared.formula.Formula.{Formula}
use Rattle.feature_tree.specs.declared.formula.Formula.TheVariants.{Name, Not, All as AllOf, Any as AnyOf, Implies, Same, rolls-Name, rolls-Not, rolls-All, rolls-Any, rolls-Implies, rolls-Same}
use Rattle.feature_tree.specs.declared.formula.Formula.TheOpen as node
use Rattle.feature_tree.specs.declared.formula.Formula.TheOpen.{Formula-F}
use Rattle.feature_tree.specs.declared.formula.Formula.TheViews.{roll-Formula}
use Rattle.feature_tree.specs.declared.formula.Formula.TheFolds.{ind-Formula, map-Formula}
use Rattle.feature_tree.specs.Folds.{fold-Name, fold-Not, fold-All, fold-Any, fold-Implies, fold-Same}
use Rattle.feature_tree.specs.Truth.{is_in, agree, truth_of_node, truth}
use Rattle.feature_tree.specs.Names.{names_of_node, names, NamesBelow}

-- ---- truth

module _ (set : List Bool) where
  pub truth-Name : (feature : ℕ) → truth set (Name feature) ≡ is_in set feature
  truth-Name feature = fold-Name Bool (truth_of_node set) feature

  pub truth-Not : (part : Formula) → truth set (Not part) ≡ not (truth set part)
  truth-Not part = fold-Not Bool (truth_of_node set) part

  pub truth-All : (parts : List Formula) → truth set (AllOf parts) ≡ list_all (truth set) parts
  truth-All parts = fold-All Bool (truth_of_node set) parts ∙ list_all-map (λ part. part) (truth set) parts

  pub truth-Any : (parts : List Formula) → truth set (AnyOf parts) ≡ list_any (truth set) parts
  truth-Any parts = fold-Any Bool (truth_of_node set) parts ∙ list_any-map (truth set) (λ part. part) parts

  pub truth-Implies : (left right : Formula) → truth set (Implies left right) ≡ (not (truth set left) || truth set right)
  truth-Implies left right = fold-Implies Bool (truth_of_node set) left right

  pub truth-Same : (left right : Formula) → truth set (Same left right) ≡ agree (truth set left) (truth set right)
  truth-Same left right = fold-Same Bool (truth_of_node set) left right

-- ---- names: what holds of each name of a formula holds of each name of its parts

module _ (P : ℕ → Type 0) where
  pub All-names-Name : (feature : ℕ) → All P (names (Name feature)) → P feature
  All-names-Name feature all = All-head P feature [] (All-same P _ _ (sym (fold-Name _ names_of_node feature)) all)

  pub All-names-Not : (part : Formula) → All P (names (Not part)) → All P (names part)
  All-names-Not part all = All-same P _ _ (sym (fold-Not _ names_of_node part)) all

  pub All-names-All : (parts : List Formula) → All P (names (AllOf parts)) → All (λ part. All P (names part)) parts
  All-names-All parts all = All-flat_map P names parts (All-same P _ _ (sym (fold-All _ names_of_node parts)) all)

  pub All-names-Any : (parts : List Formula) → All P (names (AnyOf parts)) → All (λ part. All P (names part)) parts
  All-names-Any parts all = All-flat_map P names parts (All-same P _ _ (sym (fold-Any _ names_of_node parts)) all)

  each_side : (left right : Formula) → All P (names left ++ names right) → All P (names left) × All P (names right)
  each_side left right both = (All-append_left P (names left) (names right) both, All-append_right P (names left) (names right) both)

  pub All-names-Implies : (left right : Formula) → All P (names (Implies left right)) → All P (names left) × All P (names right)
  All-names-Implies left right all = each_side left right (All-same P _ _ (sym (fold-Implies _ names_of_node left right)) all)

  pub All-names-Same : (left right : Formula) → All P (names (Same left right)) → All P (names left) × All P (names right)
  All-names-Same left right all = each_side left right (All-same P _ _ (sym (fold-Same _ names_of_node left right)) all)

module _ (count : ℕ) where
  abbrev Below : ℕ → Type 0
  Below name = name < count

  pub NamesBelow-Name : (feature : ℕ) → NamesBelow count (Name feature) → feature < count
  NamesBelow-Name = All-names-Name Below

  pub NamesBelow-Not : (part : Formula) → NamesBelow count (Not part) → NamesBelow count part
  NamesBelow-Not = All-names-Not Below

  pub NamesBelow-All : (parts : List Formula) → NamesBelow count (AllOf parts) → All (NamesBelow count) parts
  NamesBelow-All = All-names-All Below

  pub NamesBelow-Any : (parts : List Formula) → NamesBelow count (AnyOf parts) → All (NamesBelow count) parts
  NamesBelow-Any = All-names-Any Below

  pub NamesBelow-Implies : (left right : Formula) → NamesBelow count (Implies left right) → NamesBelow count left × NamesBelow count right
  NamesBelow-Implies = All-names-Implies Below

  pub NamesBelow-Same : (left right : Formula) → NamesBelow count (Same left right) → NamesBelow count left × NamesBelow count right
  NamesBelow-Same = All-names-Same Below

-- ---- truth rests on the names alone

module _ (set other : List Bool) where
  abbrev Agree : ℕ → Type 0
  Agree name = is_in set name ≡ is_in other name

  abbrev SameTruth : Formula → Type 0
  SameTruth formula = All (λ name. is_in set name ≡ is_in other name) (names formula) → truth set formula ≡ truth other formula

  list_all-same : (parts : List ((formula : Formula) × SameTruth formula)) → All (λ part. All Agree (names part)) (map (λ part. part.0) parts)
      → list_all (truth set) (map (λ part. part.0) parts) ≡ list_all (truth other) (map (λ part. part.0) parts)
  list_all-same [] all = refl
  list_all-same (part ∷ parts) all =
      let here : truth set part.0 ≡ truth other part.0 = part.1 (All-head (λ f. All Agree (names f)) part.0 (map (λ p. p.0) parts) all) in
      let rest = list_all-same parts (All-tail (λ f. All Agree (names f)) part.0 (map (λ p. p.0) parts) all) in
      ap (λ a. a && list_all (truth set) (map (λ p. p.0) parts)) here ∙ ap (λ b. truth other part.0 && b) rest

  list_any-same : (parts : List ((formula : Formula) × SameTruth formula)) → All (λ part. All Agree (names part)) (map (λ part. part.0) parts)
      → list_any (truth set) (map (λ part. part.0) parts) ≡ list_any (truth other) (map (λ part. part.0) parts)
  list_any-same [] all = refl
  list_any-same (part ∷ parts) all =
      let here : truth set part.0 ≡ truth other part.0 = part.1 (All-head (λ f. All Agree (names f)) part.0 (map (λ p. p.0) parts) all) in
      let rest = list_any-same parts (All-tail (λ f. All Agree (names f)) part.0 (map (λ p. p.0) parts) all) in
      ap (λ a. a || list_any (truth set) (map (λ p. p.0) parts)) here ∙ ap (λ b. truth other part.0 || b) rest

  same_at_node : (y : Formula-F ((formula : Formula) × SameTruth formula))
      → SameTruth (roll-Formula (map-Formula ((formula : Formula) × SameTruth formula) Formula (λ e. e.0) y))
  same_at_node (node.Name feature) =
      subst SameTruth (sym (rolls-Name feature)) (λ all. truth-Name set feature ∙ All-names-Name Agree feature all ∙ sym (truth-Name other feature))
  same_at_node (node.Not part) =
      subst SameTruth (sym (rolls-Not part.0)) (λ all. truth-Not set part.0 ∙ ap not (part.1 (All-names-Not Agree part.0 all)) ∙ sym (truth-Not other part.0))
  same_at_node (node.All parts) =
      let formulas : List Formula = map (λ part. part.0) parts in
      subst SameTruth (sym (rolls-All formulas)) (λ all. truth-All set formulas ∙ list_all-same parts (All-names-All Agree formulas all) ∙ sym (truth-All other formulas))
  same_at_node (node.Any parts) =
      let formulas : List Formula = map (λ part. part.0) parts in
      subst SameTruth (sym (rolls-Any formulas)) (λ all. truth-Any set formulas ∙ list_any-same parts (All-names-Any Agree formulas all) ∙ sym (truth-Any other formulas))
  same_at_node (node.Implies left right) =
      subst SameTruth (sym (rolls-Implies left.0 right.0)) (λ all.
      let sides = All-names-Implies Agree left.0 right.0 all in
      truth-Implies set left.0 right.0
      ∙ ap (λ a. not a || truth set right.0) (left.1 sides.0)
      ∙ ap (λ b. not (truth other left.0) || b) (right.1 sides.1)
      ∙ sym (truth-Implies other left.0 right.0))
  same_at_node (node.Same left right) =
      subst SameTruth (sym (rolls-Same left.0 right.0)) (λ all.
      let sides = All-names-Same Agree left.0 right.0 all in
      truth-Same set left.0 right.0
      ∙ ap (λ a. agree a (truth set right.0)) (left.1 sides.0)
      ∙ ap (λ b. agree (truth other left.0) b) (right.1 sides.1)
      ∙ sym (truth-Same other left.0 right.0))

  pub truth_of_names : (formula : Formula) → SameTruth formula
  truth_of_names = ind-Formula SameTruth (λ x y is. subst (λ z. SameTruth (roll-Formula z)) is (same_at_node y))
