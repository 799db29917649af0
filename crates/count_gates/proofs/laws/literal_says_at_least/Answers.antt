use Rattle.count_gates.proofs.Counts.{literal-says}
use Rattle.count_gates.proofs.laws.literal_says_at_least.Goals as goal

pub returns : goal.returns
returns c = λ first upto j children literal values some at e. literal-says values first upto children e j some literal at
