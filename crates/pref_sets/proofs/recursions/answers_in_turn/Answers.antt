use Rattle.pref_sets.proofs.ToldInTurn.{IsToldInTurn-none, IsToldInTurn-push, told-asked}
use Rattle.pref_sets.proofs.recursions.answers_in_turn.Goals as goal

pub returns-clause-none : goal.returns-clause-none
returns-clause-none c = λ next start. IsToldInTurn-none next start

pub returns-clause-one_more : goal.returns-clause-one_more
returns-clause-one_more c = λ next start told answer h e. IsToldInTurn-push next start told answer h e

pub returns-clause-asked : goal.returns-clause-asked
returns-clause-asked c = λ next told set sat h e. told-asked next told set sat h e
