use Rattle.std.proofs.Common.{◌∙◌}
use Rattle.serving.proofs.NewBoards.{fresh-is_new}
use Rattle.serving.proofs.laws.new_tables_stand.Goals as goal

pub returns : goal.returns
returns c problem before after words workers new zeros = c.new_table_is_a_fresh_board.ensures problem before.size words zeros ∙ fresh-is_new before after workers new
