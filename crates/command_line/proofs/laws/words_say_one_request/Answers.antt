use Rattle.command_line.proofs.ChosenLemmas.{the_law}
use Rattle.command_line.proofs.laws.words_say_one_request.Goals as goal

pub returns : goal.returns
returns c = the_law
