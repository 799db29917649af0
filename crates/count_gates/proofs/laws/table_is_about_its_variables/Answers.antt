use Rattle.std.proofs.Common.{◌+◌, length, arith}
use Rattle.count_gates.specs.Table.{table_size}
use Rattle.count_gates.proofs.Within.{literals-within, table-within}
use Rattle.count_gates.proofs.laws.table_is_about_its_variables.Goals as goal

pub returns-clause-clauses : goal.returns-clause-clauses
returns-clause-clauses c = λ first upto children below. table-within first upto children below

pub returns-clause-literals : goal.returns-clause-literals
returns-clause-literals c = λ first upto children. literals-within (first + table_size (length children) upto) first upto (length children) (omega arith)
