use Rattle.std.proofs.Common.{◌≡◌, ◌<◌, ◌≤◌, ℕ, Some}
use Rattle.clauses.specs.Search.{Limit, attempt_of}
use Rattle.solver.proofs.solving.search_for.Given as goal

abbrev pub invariant-loop-number : goal.invariant-loop-number
invariant-loop-number g l = record {
  problem : l.search.trial.problem ≡ l.fn.search.trial.problem;
  before : (earlier : ℕ) → earlier < l.number → attempt_of l.fn.search.trial.problem l.fn.key earlier ≡ Some Limit;
  never_falls : g.S.Stop.raised l.fn.stop ≤ g.S.Stop.raised l.stop;
  stays : g.S.Stop.stays l.fn.stop l.stop;
}
