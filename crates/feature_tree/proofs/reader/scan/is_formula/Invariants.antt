use Rattle.std.proofs.Common.{◌≡◌, ◌≤◌, true, drop}
use Rattle.feature_tree.specs.Roles.{roles_of}
use Rattle.feature_tree.proofs.Scanning.{scan}
use Rattle.feature_tree.proofs.reader.scan.is_formula.Given as goal

abbrev pub invariant-loop-token : goal.invariant-loop-token
invariant-loop-token l = record {
  counted : l.stage.depth ≤ l.token-index;
  rest : scan l.stage.wants_operand l.stage.depth (roles_of (drop l.token-index l.tokens)) ≡ scan true 0 (roles_of l.tokens);
}
