use Rattle.diag_workers.proofs.rounds.+with_workers.Given as goal

abbrev pub decreases-with_workers : goal.decreases-with_workers
decreases-with_workers g l = l.workers
