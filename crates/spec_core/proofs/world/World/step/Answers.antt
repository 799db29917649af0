use Rattle.spec_core.proofs.Making.{step-after, step-enabled, step-err, step-fit, step-passed_over}
use Rattle.spec_core.proofs.world.World.step.Goals as goal

pub make-requires : goal.make-requires
make-requires c = c.self.invariant

pub invariant_of-self : goal.invariant_of-self
invariant_of-self c =
    let old = c.self.inside in
    let new = c.make.new in
    step-fit c.args.event.now old.run new.run old.board new.board old.searcher new.searcher c.make.ensures.problem c.args.self.now c.self.view_is c.make.result c.make.ensures.made c.make.ensures.err_run c.make.ensures.err_board c.self.invariant

pub returns-clause-enabled : goal.returns-clause-enabled
returns-clause-enabled c =
    let old = c.self.inside in
    let new = c.make.new in
    step-enabled c.args.event.now old.run new.run old.board new.board old.searcher new.searcher c.make.ensures.problem c.args.self.now c.self.view_is c.make.result c.make.ensures.made

pub returns-clause-after : goal.returns-clause-after
returns-clause-after c =
    let old = c.self.inside in
    let new = c.make.new in
    step-after c.args.event.now old.run new.run old.board new.board old.searcher new.searcher c.make.ensures.problem c.args.self.now c.self.view_is c.make.result c.make.ensures.made

pub returns-clause-passed_over : goal.returns-clause-passed_over
returns-clause-passed_over c =
    let old = c.self.inside in
    let new = c.make.new in
    step-passed_over c.args.event.now old.run new.run old.board new.board old.searcher new.searcher c.make.ensures.problem c.args.self.now c.self.view_is c.make.result c.make.ensures.made

pub returns-clause-err : goal.returns-clause-err
returns-clause-err c =
    let old = c.self.inside in
    let new = c.make.new in
    step-err c.args.event.now old.run new.run old.board new.board old.searcher new.searcher c.make.ensures.problem c.args.self.now c.self.view_is c.make.result c.make.ensures.err_run c.make.ensures.err_board
