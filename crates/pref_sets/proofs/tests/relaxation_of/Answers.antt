use Rattle.lists.proofs.Members.{none as contains_none}
use Rattle.pref_sets.proofs.tests.relaxation_of.Goals as goal

pub returns-clause-lacks : goal.returns-clause-lacks
returns-clause-lacks c = λ items kept k. c.kept_set_is_maximal.ensures.holds c.args.apart.now items kept (λ both. contains_none c.args.apart.now.first both.0) k

pub returns-clause-maximal : goal.returns-clause-maximal
returns-clause-maximal c = λ items kept other k apart within.
    c.kept_set_is_maximal.ensures.maximal c.args.apart.now items kept
    (λ a b fewer lacks both. lacks (fewer c.args.apart.now.first both.0, fewer c.args.apart.now.second both.1))
    k other apart within
