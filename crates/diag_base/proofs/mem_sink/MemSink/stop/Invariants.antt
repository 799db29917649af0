-- what is left of the list tells the same as all of it
use Rattle.std.proofs.Common.{◌≡◌, ◌==◌, drop}
use Rattle.std.specs.Map.{lookup}
use Rattle.diag_base.specs.MemSink.{stop_of}
use Rattle.diag_base.proofs.mem_sink.MemSink.stop.Given as goal

abbrev pub invariant-loop-call : goal.invariant-loop-call
invariant-loop-call l = lookup (λ call. l.self.puts == call) (drop l.call-index l.self.failing.items) ≡ stop_of l.self
