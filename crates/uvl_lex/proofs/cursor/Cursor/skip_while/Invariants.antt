use Rattle.std.proofs.Common.{◌≡◌, ◌+◌, length}
use Rattle.std.specs.List.{prefix_len}
use Rattle.uvl_lex.specs.inside.Classes.{in_class}
use Rattle.uvl_lex.specs.inside.Cursors.{left, GoesOn}
use Rattle.uvl_lex.proofs.cursor.Cursor.skip_while.Given as goal

-- all characters that have been passed are in the class
abbrev pub invariant-loop-c : goal.invariant-loop-c
invariant-loop-c l = record {
  passed : l.count + prefix_len (in_class l.class) (left l.at) ≡ prefix_len (in_class l.class) (left l.fn.self);
  goes_on : GoesOn l.fn.self l.count l.at;
}

abbrev pub decreases-loop-c : goal.decreases-loop-c
decreases-loop-c l = length (left l.at)
