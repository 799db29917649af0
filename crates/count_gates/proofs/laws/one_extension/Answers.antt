use Rattle.count_gates.proofs.Extensions.{some-extension, only-extension}
use Rattle.count_gates.proofs.laws.one_extension.Goals as goal

pub returns-clause-some : goal.returns-clause-some
returns-clause-some c = λ upto children values below. some-extension upto children values below

pub returns-clause-only : goal.returns-clause-only
returns-clause-only c = λ upto children values new other below new_size other_size new_holds other_holds. only-extension upto children values new other below new_size other_size new_holds other_holds
