-- the world over the events so far
use Rattle.std.proofs.Common.{◌≡◌, take}
use Rattle.spec_core.proofs.Playing.{played}
use Rattle.spec_core.proofs.replaying.play.Given as goal

abbrev pub invariant-loop-event : goal.invariant-loop-event
invariant-loop-event l = l.world ≡ played l.initial.world (take l.event-index l.events)
