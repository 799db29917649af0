use Rattle.std.specs.Prelude.{Contains}
use Rattle.clauses.proofs.LeastLaws.{closure-closed, closure-least, closure-among, clash-iff, clash-among}
use Rattle.clauses.proofs.laws.closure_is_least.Goals as goal

pub returns-clause-closed : goal.returns-clause-closed
returns-clause-closed g c = closure-closed

pub returns-clause-least : goal.returns-clause-least
returns-clause-least g c = λ clauses set. closure-least clauses (Contains set)

pub returns-clause-within : goal.returns-clause-within
returns-clause-within g c = λ about clauses. closure-least clauses (g.P.LiteralProperty.holds about)

pub returns-clause-order : goal.returns-clause-order
returns-clause-order g c = closure-among

pub returns-clause-clash : goal.returns-clause-clash
returns-clause-clash g c = clash-iff

pub returns-clause-clash_order : goal.returns-clause-clash_order
returns-clause-clash_order g c = clash-among
