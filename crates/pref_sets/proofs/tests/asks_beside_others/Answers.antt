use Rattle.pref_sets.proofs.Plans.{answer_to-told}
use Rattle.std.proofs.Common.{[], ◌++◌, refl}
use Rattle.pref_sets.proofs.tests.asks_beside_others.Goals as goal

pub returns-clause-fd : goal.returns-clause-fd
returns-clause-fd c = λ positions asked told more e none.
    c.fd_over_more_answers.ensures.asks positions asked told (told ++ more) (λ set sat within known. answer_to-told told more set sat known) e none

pub returns-clause-qx : goal.returns-clause-qx
returns-clause-qx c = λ positions left told more e.
    c.qx_over_more_answers.ensures.finds positions left told (told ++ more) (λ set sat within known. answer_to-told told more set sat known) e

pub returns-clause-never : goal.returns-clause-never
returns-clause-never c = λ positions table rises. (
  (λ e. (c.fd_asks_new_sets.ensures.part positions [] table rises e).0 refl),
  (λ e. (c.qx_asks_new_sets.ensures.part positions positions table rises e).1 refl),
)
