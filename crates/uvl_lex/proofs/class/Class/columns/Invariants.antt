use Rattle.std.proofs.Common.{◌≡◌, ◌+◌, ◌-◌, ◌≤◌, length, drop}
use Rattle.std.specs.List.{prefix_len}
use Rattle.uvl_lex.specs.inside.Classes.{is_column}
use Rattle.uvl_lex.proofs.class.Class.columns.Given as goal

-- every byte that has been passed is such a character
abbrev pub invariant-loop-count : goal.invariant-loop-count
invariant-loop-count l = record {
  within : l.count ≤ length l.bytes;
  passed : l.count + prefix_len (is_column l.self) (drop l.count l.bytes) ≡ prefix_len (is_column l.self) l.bytes;
}

abbrev pub decreases-loop-count : goal.decreases-loop-count
decreases-loop-count l = length l.bytes - l.count
