use Rattle.clauses.proofs.tests.kept_are_preferred.Goals as goal

pub returns : goal.returns
returns c = λ items kept other is met.
    c.kept_set_is_maximal.ensures.preferred c.args.problem.now items kept (c.fewer_requirements_are_met.ensures.passes c.args.problem.now) is other met
