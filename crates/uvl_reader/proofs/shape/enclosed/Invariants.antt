use Rattle.std.proofs.Common.{◌≡◌, ◌+◌, ◌<◌, ◌≤◌, ◌++◌, drop, take}
use Rattle.std.specs.Option.{option_map}
use Rattle.uvl_reader.specs.Shapes.{enclosed}
use Rattle.uvl_reader.proofs.shape.enclosed.Given as goal

abbrev pub invariant-loop-i : goal.invariant-loop-i
invariant-loop-i l = record {
  rest : enclosed 1 l.tokens ≡ option_map (λ inside. take l.i l.tokens ++ inside) (enclosed l.depth (drop l.i l.tokens));
  some : 0 < l.depth;
  few : l.depth ≤ l.i + 1;
}
