use Rattle.check_table.proofs.Looks.{looks_leave}
use Rattle.check_table.proofs.laws.looks_leave_the_rest.Goals as goal

pub returns : goal.returns
returns c before after answer looked = looks_leave before after answer looked
