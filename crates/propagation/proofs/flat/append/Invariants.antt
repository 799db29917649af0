use Rattle.std.proofs.Common.{◌≡◌, ◌++◌, take}
use Rattle.std.specs.Prelude.{vec_capacity}
use Rattle.propagation.proofs.flat.append.Given as goal

abbrev pub invariant-loop-literal : goal.invariant-loop-literal
invariant-loop-literal l = record {
  items : l.row.items ≡ l.initial.row.items ++ take l.literal-index l.clause;
  room : vec_capacity l.row ≡ vec_capacity l.initial.row;
}
