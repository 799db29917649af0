use Rattle.std.proofs.Common.{length}
use Rattle.pref_sets.proofs.trimming.+trim_behind.Given as goal

abbrev pub decreases-trim_behind : goal.decreases-trim_behind
decreases-trim_behind g l = length l.items.now
