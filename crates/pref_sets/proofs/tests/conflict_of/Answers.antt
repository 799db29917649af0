use Rattle.std.proofs.Common.{ℕ}
use Rattle.pref_sets.specs.Properties.{PassesToMore}
use Rattle.std.specs.Prelude.{Contains}
use Rattle.pref_sets.proofs.tests.conflict_of.Goals as goal

-- to have both passes to more members
passes : (first second : ℕ) → PassesToMore (λ set. Contains set first × Contains set second)
passes first second a b within both = (within first both.0, within second both.1)

pub returns-clause-has_both : goal.returns-clause-has_both
returns-clause-has_both c = λ items left distinct both trimmed.
    c.trimmed_set_is_minimal.ensures.holds c.args.together.now items left (passes c.args.together.now.first c.args.together.now.second) distinct both trimmed

pub returns-clause-minimal : goal.returns-clause-minimal
returns-clause-minimal c = λ items left other distinct trimmed within both.
    c.trimmed_set_is_minimal.ensures.minimal c.args.together.now items left (passes c.args.together.now.first c.args.together.now.second) distinct trimmed other within both
