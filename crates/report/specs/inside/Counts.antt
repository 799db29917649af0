-- The counts as the definition sees them.
use Rattle.report.specs.declared.counts.Counts.{Counts}
use Rattle.report.specs.Report.{Counted}

abbrev pub counted : Counts → Counted
counted counts = record { checks = counts.checks; predicted = counts.predicted; wasted = counts.wasted }
