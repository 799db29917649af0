use Rattle.std.proofs.Common.{◌≡◌, ◌≤◌, ◌||◌, length, take, reverse}
use Rattle.uvl_reader.specs.inside.Standing.{still_open, meets}
use Rattle.uvl_reader.proofs.stack.still_open.Given as goal

abbrev pub invariant-loop-count : goal.invariant-loop-count
invariant-loop-count l = record {
  few : l.count ≤ length l.lines;
  left : still_open l.indent (reverse l.lines) ≡ still_open l.indent (reverse (take l.count l.lines));
  met : meets l.indent (reverse l.lines) ≡ (l.met || meets l.indent (reverse (take l.count l.lines)));
}

abbrev pub decreases-loop-count : goal.decreases-loop-count
decreases-loop-count l = l.count
