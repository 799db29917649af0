-- What contracts see of a feature model: its features, each numbered by its place in the list, and its constraints.
use Rattle.std.specs.Prelude.{List}
use Rattle.feature_tree.specs.declared.feature.Feature.{Feature}
use Rattle.feature_tree.specs.declared.formula.Formula.{Formula}

pub record FeatureModel : Type 0 where
  pub features : List Feature
  pub constraints : List Formula
