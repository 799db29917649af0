use Rattle.std.proofs.Common.{◌++◌}
use Rattle.clauses.specs.Problem.{clauses_with}
use Rattle.clauses.specs.Search.{under}
use Rattle.clauses.proofs.LeastLaws.{clash-among}
use Rattle.propagation.specs.Propagation.{all_of, propagated, as_searched}
use Rattle.propagation.proofs.ValueLaws.{clash-same, value-same}
use Rattle.propagation.proofs.GrowthLaws.{more_assumed, searched-there, searched-back}
use Rattle.propagation.proofs.laws.propagated_as_searched.Goals as goal

pub returns-clause-clash : goal.returns-clause-clash
returns-clause-clash c = λ problem key first now.
    clash-same (propagated (as_searched problem key first now)) (under first (clauses_with problem key) now) (searched-there problem key first now) (searched-back problem key first now)

pub returns-clause-values : goal.returns-clause-values
returns-clause-values c = λ problem key first now.
    value-same (propagated (as_searched problem key first now)) (under first (clauses_with problem key) now) (searched-there problem key first now) (searched-back problem key first now)

pub returns-clause-more : goal.returns-clause-more
returns-clause-more c = λ at more.
    clash-among (propagated at) (all_of at.problem.clauses at.learned (at.assumed ++ more)) (more_assumed at.problem.clauses at.learned at.assumed more)
