-- What a fold over formulas gives at each kind of node: the step on the node, with each part's result in its place.
-- With these equations a fold computes: `simp folds refl`.
use Rattle.std.specs.Prelude.{◌≡◌, ℕ, List, map}
use Rattle.std.proofs.Common.{ap, ◌∙◌, sym}
use Rattle.feature_tree.specs.declared.formula.Formula.{Formula}
use Rattle.feature_tree.specs.declared.formula.Formula.TheOpen as node
use Rattle.feature_tree.specs.declared.formula.Formula.TheOpen.{Formula-F}
use Rattle.feature_tree.specs.declared.formula.Formula.TheVariants.{Name, Not, All, Any, Implies, Same, rolls-Name, rolls-Not, rolls-All, rolls-Any, rolls-Implies, rolls-Same}
use Rattle.feature_tree.specs.declared.formula.Formula.TheFolds.{fold-Formula, fold-roll-Formula}

module _ (A : Type 0) (step : Formula-F A → A) where
  pub fold-Name : (name : ℕ) → fold-Formula A step (Name name) ≡ step (node.Name name)
  fold-Name name = ap (fold-Formula A step) (sym (rolls-Name name)) ∙ fold-roll-Formula A step (node.Name name)

  pub fold-Not : (part : Formula) → fold-Formula A step (Not part) ≡ step (node.Not (fold-Formula A step part))
  fold-Not part = ap (fold-Formula A step) (sym (rolls-Not part)) ∙ fold-roll-Formula A step (node.Not part)

  pub fold-All : (parts : List Formula) → fold-Formula A step (All parts) ≡ step (node.All (map (fold-Formula A step) parts))
  fold-All parts = ap (fold-Formula A step) (sym (rolls-All parts)) ∙ fold-roll-Formula A step (node.All parts)

  pub fold-Any : (parts : List Formula) → fold-Formula A step (Any parts) ≡ step (node.Any (map (fold-Formula A step) parts))
  fold-Any parts = ap (fold-Formula A step) (sym (rolls-Any parts)) ∙ fold-roll-Formula A step (node.Any parts)

  pub fold-Implies : (left right : Formula) → fold-Formula A step (Implies left right) ≡ step (node.Implies (fold-Formula A step left) (fold-Formula A step right))
  fold-Implies left right = ap (fold-Formula A step) (sym (rolls-Implies left right)) ∙ fold-roll-Formula A step (node.Implies left right)

  pub fold-Same : (left right : Formula) → fold-Formula A step (Same left right) ≡ step (node.Same (fold-Formula A step left) (fold-Formula A step right))
  fold-Same left right = ap (fold-Formula A step) (sym (rolls-Same left right)) ∙ fold-roll-Formula A step (node.Same left right)

pub ruleset folds = (fold-Name, fold-Not, fold-All, fold-Any, fold-Implies, fold-Same)
