use Rattle.std.proofs.Common.{◌≡◌, drop}
use Rattle.feature_tree.specs.Roles.{roles_of, has_unsupported}
use Rattle.feature_tree.proofs.Scanning.{unsupported_after}
use Rattle.feature_tree.proofs.reader.scan.has_unsupported.Given as goal

abbrev pub invariant-loop-token : goal.invariant-loop-token
invariant-loop-token l = unsupported_after l.follows_name (roles_of (drop l.token-index l.tokens)) ≡ has_unsupported (roles_of l.tokens)
