use Rattle.std.proofs.Common.{◌≡◌, ◌<◌, ap, true, false, arith}
use Rattle.std.proofs.lemmas.Bool.{not-true, not-false}
use Rattle.std.proofs.lemmas.Bool.Decides.{nat_tests}
use Rattle.std.proofs.lemmas.List.{drop_all}
use Rattle.std.proofs.lemmas.Grind.{common_steps}
use Rattle.feature_tree.specs.Roles.{roles_of}
use Rattle.feature_tree.proofs.Scanning.{scan, scan-next, at_end-yes, at_end-wants, at_end-open, no_formula}
use Rattle.feature_tree.proofs.reader.scan.is_formula.Goals as goal

pub returns-in-None-clause-no : goal.returns-in-None-clause-no
returns-in-None-clause-no c = λ _ has.
    let fails : scan true 0 (roles_of c.args.tokens.now) ≡ false = grind (arith, common_steps, scan-next) in
    no_formula (roles_of c.args.tokens.now) fails has

pub returns-then-not-stage-clause-yes : goal.returns-then-not-stage-clause-yes
returns-then-not-stage-clause-yes c = λ is_zero.
    let ends = ap roles_of (drop_all c.loop-token.token-index c.args.tokens.now c.loop-token-test.false) in
    let none : c.loop-token.stage.depth ≡ 0 = grind (arith, nat_tests) in
    at_end-yes _ _ c.loop-token.stage.wants_operand c.loop-token.stage.depth c.loop-token.invariant.rest ends (not-true _ c.if-not-stage.true) none

pub returns-then-not-stage-clause-no : goal.returns-then-not-stage-clause-no
returns-then-not-stage-clause-no c = λ is_not has.
    let ends = ap roles_of (drop_all c.loop-token.token-index c.args.tokens.now c.loop-token-test.false) in
    let some : 0 < c.loop-token.stage.depth = grind (arith, nat_tests) in
    no_formula (roles_of c.args.tokens.now) (at_end-open (roles_of c.args.tokens.now) _ c.loop-token.stage.wants_operand c.loop-token.stage.depth c.loop-token.invariant.rest ends some) has

pub returns-else-not-stage-clause-no : goal.returns-else-not-stage-clause-no
returns-else-not-stage-clause-no c = λ _ has.
    let ends = ap roles_of (drop_all c.loop-token.token-index c.args.tokens.now c.loop-token-test.false) in
    no_formula (roles_of c.args.tokens.now) (at_end-wants (roles_of c.args.tokens.now) _ c.loop-token.stage.wants_operand c.loop-token.stage.depth c.loop-token.invariant.rest ends (not-false _ c.if-not-stage.false)) has
