use Rattle.std.proofs.Common.{◌≡◌, ◌≤◌, ◌-◌, ◌++◌, drop, take, map}
use Rattle.uvl_reader.specs.Attributes.{items_of, cut_at_commas}
use Rattle.uvl_reader.proofs.attributes.items_of.Given as goal
use Rattle.uvl_reader.proofs.AttributeLaws.{behind}

abbrev pub invariant-loop-i : goal.invariant-loop-i
invariant-loop-i l = record {
  inside : l.from ≤ l.i;
  few : l.depth ≤ l.i;
  rest : items_of l.tokens ≡ map (λ item. item.now) l.items.items ++ behind (take (l.i - l.from) (drop l.from l.tokens)) (cut_at_commas l.depth (drop l.i l.tokens));
}
