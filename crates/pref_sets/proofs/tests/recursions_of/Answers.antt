use Rattle.std.proofs.Common.{ℕ, [], ◌∷◌}
use Rattle.std.specs.Prelude.{Contains}
use Rattle.pref_sets.specs.Properties.{PassesToFewer}
use Rattle.lists.proofs.Members.{none as contains_none, first as contains_first, later as contains_later}
use Rattle.pref_sets.proofs.tests.recursions_of.Goals as goal

-- to lack one of two passes to fewer members
passes : (first second : ℕ) → PassesToFewer (λ set. ¬ (Contains set first × Contains set second))
passes first second a b within lacks both = lacks (within first both.0, within second both.1)

both_in : (first second : ℕ) → Contains (first ∷ second ∷ []) first × Contains (first ∷ second ∷ []) second
both_in first second = (contains_first first (second ∷ []), contains_later first (second ∷ []) second (contains_first second []))

pub returns-clause-lacks : goal.returns-clause-lacks
returns-clause-lacks c = λ kept table rises agrees e.
    let first : ℕ = c.args.apart.now.first in
    let second : ℕ = c.args.apart.now.second in
    c.fd_is_kept.ensures.holds c.args.apart.now (c.args.apart.now.first ∷ c.args.apart.now.second ∷ []) kept table (passes first second) rises (λ both. contains_none first both.0)
    (λ lacks. lacks (both_in first second)) agrees e

pub returns-clause-preferred : goal.returns-clause-preferred
returns-clause-preferred c = λ left other table rises agrees e both within.
    let first : ℕ = c.args.apart.now.first in
    let second : ℕ = c.args.apart.now.second in
    c.qx_is_trimmed.ensures.preferred c.args.apart.now (c.args.apart.now.first ∷ c.args.apart.now.second ∷ []) left table (passes first second) rises (λ none. contains_none first none.0) agrees e
    other (λ lacks. lacks both) within
