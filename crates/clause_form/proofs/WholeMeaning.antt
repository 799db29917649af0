-- What all parts together mean: the products that make every must true.
use Rattle.std.proofs.Common.{◌≡◌, ◌∙◌, refl, ap, sym, ℕ, ◌+◌, ◌<◌, Bool, true, false, not, ◌&&◌, ◌||◌, List, [], ◌∷◌, ◌++◌, map, length, All, Option, Some, None}
use Rattle.std.specs.List.{list_all, enumerate_from}
use Rattle.std.specs.Option.{option_map_or}
use Rattle.std.proofs.lemmas.Option.{unwrap_or-slice_get}
use Rattle.std.proofs.lemmas.List.Elements.{All-head, All-tail, All-weaker}
use Rattle.std.proofs.lemmas.List.Folds.{list_all-append}
use Rattle.clauses.specs.Clause.{is_true_in, is_satisfied, are_satisfied, negative_of, positive_of}
use Rattle.config_reader.specs.Configuration.{Configuration}
use Rattle.config_reader.specs.Consistent.{formulas_of}
use Rattle.feature_tree.specs.declared.group.Group.{Group}
use Rattle.feature_tree.specs.declared.feature.Feature.{Feature}
use Rattle.feature_tree.specs.declared.formula.Formula.{Formula}
use Rattle.feature_tree.specs.FeatureModel.{FeatureModel}
use Rattle.feature_tree.specs.Names.{NamesBelow}
use Rattle.feature_tree.specs.Truth.{is_in, truth}
use Rattle.feature_tree.specs.Decided.{is_met, is_settled}
use Rattle.clause_form.specs.Laws.{IsStatedOf}
use Rattle.clause_form.specs.Parts.{bare}
use Rattle.clause_form.specs.Gates.{gates, gates_of}
use Rattle.clause_form.specs.Groups.{group_part}
use Rattle.clause_form.specs.ClauseForm.{parent_clauses, tree_clauses, group_parts, asserted, asserted_parts, parts_of}
use Rattle.clause_form.proofs.FormulaMeaning.{MembersMean, no-members-mean, more-members-mean, formula-means, asserted-means}
use Rattle.clause_form.proofs.GroupsBelow.{EachIn, tree-below}
use Rattle.clause_form.proofs.GroupsMeaning.{group-means}
use Rattle.clause_form.proofs.Meaning.{joined, Means, means-bare, means-same, means-none, means-more, means-each, means-append}
use Rattle.clause_form.proofs.ProblemLaws.{features-in, formulas-named}
use Rattle.clause_form.proofs.Walks.{groups_from, parents_from}

-- ---- the tree, as tests on sets

module _ (values : List Bool) where
  -- a feature that is there has its parent
  abbrev pub has_parent : ℕ × Feature → Bool
  has_parent one = not (is_in values one.0) || option_map_or (λ parent. is_in values parent) one.1.parent true

  -- and its groups are met
  abbrev pub has_groups : ℕ × Feature → Bool
  has_groups one = list_all (λ group. not (is_in values one.0) || is_met values group) one.1.groups

  abbrev pub is_right : ℕ × Feature → Bool
  is_right one = not (is_in values one.0) || is_settled values one.1

  and_true : (t : Bool) → (t && true) ≡ t
  and_true true = refl
  and_true false = refl

  or_true : (t : Bool) → (t || true) ≡ true
  or_true true = refl
  or_true false = refl

  or_false : (t : Bool) → (t || false) ≡ t
  or_false true = refl
  or_false false = refl

  parent-truth : (number : ℕ) (parent : Option ℕ)
      → are_satisfied values (option_map_or (λ one. (negative_of number ∷ positive_of one ∷ []) ∷ []) parent []) ≡ (not (is_in values number) || option_map_or (λ one. is_in values one) parent true)
  parent-truth number None = sym (or_true (not (is_in values number)))
  parent-truth number (Some one) =
      and_true (is_true_in values (negative_of number) || (is_true_in values (positive_of one) || false))
      ∙ ap (λ b. is_true_in values (negative_of number) || b) (or_false (is_true_in values (positive_of one)) ∙ sym (unwrap_or-slice_get values one false))
      ∙ ap (λ b. not b || is_in values one) (sym (unwrap_or-slice_get values number false))

  pub parents-truth : (number : ℕ) (features : List Feature) → are_satisfied values (parents_from number features) ≡ list_all has_parent (enumerate_from number features)
  parents-truth number [] = refl
  parents-truth number (feature ∷ features) =
      list_all-append (is_satisfied values) (parent_clauses number feature) (parents_from (number + 1) features)
      ∙ ap (λ b. b && are_satisfied values (parents_from (number + 1) features)) (parent-truth number feature.parent)
      ∙ ap (λ b. has_parent (number, feature) && b) (parents-truth (number + 1) features)

  spread : (t : Bool) (groups : List Group) → list_all (λ group. not t || is_met values group) groups ≡ (not t || list_all (is_met values) groups)
  spread true groups = refl
  spread false [] = refl
  spread false (group ∷ groups) = spread false groups

  join_one : (t a b : Bool) → ((t || a) && (t || b)) ≡ (t || (a && b))
  join_one true a b = refl
  join_one false a b = refl

  swap : (a b c d : Bool) → ((a && b) && (c && d)) ≡ ((a && c) && (b && d))
  swap true true c d = refl
  swap true false true d = refl
  swap true false false d = refl
  swap false b c d = refl

  -- both together are what a product asks of its members
  pub right-together : (features : List (ℕ × Feature)) → (list_all has_parent features && list_all has_groups features) ≡ list_all is_right features
  right-together [] = refl
  right-together (one ∷ features) =
      swap (has_parent one) (list_all has_parent features) (has_groups one) (list_all has_groups features)
      ∙ ap (λ b. b && (list_all has_parent features && list_all has_groups features))
      (ap (λ b. has_parent one && b) (spread (is_in values one.0) one.1.groups)
      ∙ join_one (not (is_in values one.0)) (option_map_or (λ parent. is_in values parent) one.1.parent true) (list_all (is_met values) one.1.groups))
      ∙ ap (λ b. is_right one && b) (right-together features)

-- ---- the parts

module _ (n : ℕ) where
  groups-mean : (number : ℕ) (features : List Feature) → EachIn n number features → Means n (joined (groups_from number features)) (λ values. list_all (has_groups values) (enumerate_from number features))
  groups-mean number [] each = means-none n
  groups-mean number (feature ∷ features) each =
      means-append n (map (group_part number) feature.groups) (groups_from (number + 1) features)
      (λ values. has_groups values (number, feature)) (λ values. list_all (has_groups values) (enumerate_from (number + 1) features))
      (means-each n (group_part number) (λ group values. not (is_in values number) || is_met values group) feature.groups
      (All-weaker (λ group. All (λ child. child < n) group.children) (λ group. Means n (group_part number group) (λ values. not (is_in values number) || is_met values group))
      (λ group below. group-means n number each.0 group below) feature.groups each.1.groups))
      (groups-mean (number + 1) features each.2)

  all-asserted-mean : (formulas : List Formula) → All (NamesBelow n) formulas → Means n (joined (map asserted formulas)) (λ values. list_all (λ formula. truth values formula) formulas)
  all-asserted-mean formulas named =
      means-each n asserted (λ formula values. truth values formula) formulas
      (All-weaker (NamesBelow n) (λ formula. Means n (asserted formula) (λ values. truth values formula)) (λ formula one. asserted-means n formula one) formulas named)

  -- the gates of the requirements, and their literals
  pub requirements-mean : (formulas : List Formula) → All (NamesBelow n) formulas → MembersMean n (map gates_of formulas) (λ values. map (truth values) formulas)
  requirements-mean [] named = no-members-mean n
  requirements-mean (formula ∷ formulas) named =
      more-members-mean n (gates_of formula) (map gates_of formulas) (λ values. truth values formula) (λ values. map (truth values) formulas)
      (formula-means n formula (All-head (NamesBelow n) formula formulas named))
      (requirements-mean formulas (All-tail (NamesBelow n) formula formulas named))

-- ---- the whole

module _ (model : FeatureModel) (config : Configuration) where
  -- the set is a product, if it has a value for each feature, and makes every must true
  abbrev pub is_allowed : List Bool → Bool
  is_allowed values =
      (is_in values 0 && list_all (is_right values) (enumerate_from 0 model.features) && list_all (truth values) model.constraints) && list_all (truth values) (formulas_of config.musts)

  abbrev condition : List Bool → Bool
  condition values =
      are_satisfied values (tree_clauses model.features)
      && (((list_all (has_groups values) (enumerate_from 0 model.features) && list_all (λ formula. truth values formula) model.constraints) && list_all (λ formula. truth values formula) (formulas_of config.musts)) && true)

  same : (values : List Bool) → condition values ≡ is_allowed values
  same values =
      let parents = list_all (has_parent values) (enumerate_from 0 model.features) in
      let groups = list_all (has_groups values) (enumerate_from 0 model.features) in
      ap (λ b. (((is_true_in values (positive_of 0) || false) && b)) && (((groups && list_all (truth values) model.constraints) && list_all (truth values) (formulas_of config.musts)) && true)) (parents-truth values 0 model.features)
      ∙ ap (λ b. ((b || false) && parents) && (((groups && list_all (truth values) model.constraints) && list_all (truth values) (formulas_of config.musts)) && true)) (sym (unwrap_or-slice_get values 0 false))
      ∙ arrange (is_in values 0) parents groups (list_all (truth values) model.constraints) (list_all (truth values) (formulas_of config.musts))
      ∙ ap (λ b. ((is_in values 0 && b) && list_all (truth values) model.constraints) && list_all (truth values) (formulas_of config.musts)) (right-together values (enumerate_from 0 model.features)) where
        arrange : (root parents groups constraints musts : Bool)
            → (((root || false) && parents) && (((groups && constraints) && musts) && true)) ≡ (((root && (parents && groups)) && constraints) && musts)
        arrange false parents groups constraints musts = refl
        arrange true false groups constraints musts = refl
        arrange true true false constraints musts = refl
        arrange true true true false musts = refl
        arrange true true true true true = refl
        arrange true true true true false = refl

  pub whole-means : IsStatedOf model config → Means (length model.features) (joined (bare (tree_clauses model.features) ∷ parts_of model config)) is_allowed
  whole-means stated =
      let n = length model.features in
      let each = features-in model config stated in
      let G : List Bool → Bool = λ values. list_all (has_groups values) (enumerate_from 0 model.features) in
      let C : List Bool → Bool = λ values. list_all (λ formula. truth values formula) model.constraints in
      let M : List Bool → Bool = λ values. list_all (λ formula. truth values formula) (formulas_of config.musts) in
      let groups = groups-mean n 0 model.features each in
      let constraints = all-asserted-mean n model.constraints stated.formed.named in
      let musts = all-asserted-mean n (formulas_of config.musts) (formulas-named n config.musts stated.musts) in
      let requirements = requirements-mean n (formulas_of config.requirements) (formulas-named n config.requirements stated.requirements) in
      let two = means-append n (group_parts model.features) (map asserted model.constraints) G C groups constraints in
      let three = means-append n (group_parts model.features ++ map asserted model.constraints) (map asserted (formulas_of config.musts)) (λ values. G values && C values) M two musts in
      let four = means-append n (asserted_parts model config) (map gates (map gates_of (formulas_of config.requirements))) (λ values. (G values && C values) && M values) (λ values. true) three requirements.parts in
      means-same n (joined (bare (tree_clauses model.features) ∷ parts_of model config)) condition is_allowed same
      (means-more n (bare (tree_clauses model.features)) (parts_of model config) (λ values. are_satisfied values (tree_clauses model.features)) (λ values. ((G values && C values) && M values) && true)
      (means-bare n (tree_clauses model.features) (tree-below n model.features stated.formed.tree.some each)) four)
