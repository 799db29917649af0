use Rattle.std.proofs.Common.{sym, subst, length, All}
use Rattle.feature_tree.specs.Names.{NamesBelow}
use Rattle.feature_tree.proofs.tree.Tree.into_model.Goals as goal

pub invariant_of-result : goal.invariant_of-result
invariant_of-result c = record {
  tree = c.self.invariant;
  named = subst (λ features. All (NamesBelow (length features)) c.args.constraints) (sym c.self.view_is) c.requires;
}
