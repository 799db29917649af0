use Rattle.propagation.proofs.ValueLaws.{one_sign, value-true, value-false, value-none}
use Rattle.propagation.proofs.laws.values_are_of_the_closure.Goals as goal

pub returns-clause-one_sign : goal.returns-clause-one_sign
returns-clause-one_sign c = one_sign

pub returns-clause-positive : goal.returns-clause-positive
returns-clause-positive c = value-true

pub returns-clause-negative : goal.returns-clause-negative
returns-clause-negative c = value-false

pub returns-clause-none : goal.returns-clause-none
returns-clause-none c = value-none
