use Rattle.feature_tree.specs.Roles.{roles_of}
use Rattle.feature_tree.proofs.Scanning.{unsupported_after-start}
use Rattle.feature_tree.proofs.reader.scan.has_unsupported.Goals as goal

pub loop-token-init : goal.loop-token-init
loop-token-init c = unsupported_after-start (roles_of c.args.tokens.now)
