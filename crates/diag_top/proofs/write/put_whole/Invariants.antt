-- what was put so far is the text up to what is left
use Rattle.std.proofs.Common.{◌≡◌, ◌-◌, ◌≤◌, length, take, drop}
use Rattle.diag_base.specs.Sink.{Gains}
use Rattle.diag_top.proofs.write.put_whole.Given as goal

abbrev pub invariant-pieces : goal.invariant-pieces
invariant-pieces g l =
    let done = length l.text - length l.rest in
    record {
      fits : length l.rest ≤ length l.text;
      left : l.rest ≡ drop done l.text;
      put : Gains (take done l.text) (g.K.Sink.written l.fn.sink) (g.K.Sink.written l.sink);
      grown : g.K.Sink.faults l.fn.sink ≤ g.K.Sink.faults l.sink;
    }

abbrev pub decreases-pieces : goal.decreases-pieces
decreases-pieces g l = length l.rest
