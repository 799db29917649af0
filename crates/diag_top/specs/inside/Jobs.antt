-- What the code keeps of the options, and what a job comes to, as the definitions see them.
use Rattle.std.specs.Prelude.{◌≡◌, ℕ, ◌<◌, ◌≤◌, length, Option}
use Rattle.command_line.specs.Words.{AreAllowed, Settings}
use Rattle.clause_form.specs.ClauseForm.{needed}
use Rattle.config_reader.specs.Configuration.{Configuration}
use Rattle.feature_tree.specs.FeatureModel.{FeatureModel}
use Rattle.script.specs.declared.run.Finished.{Finished}
use Rattle.diag_top.specs.declared.advice.Limits.{Limits}
use Rattle.diag_top.specs.declared.advice.Job.{Job}
use Rattle.diag_top.specs.declared.advice.Job.TheVariants.{Done, TooLarge}
use Rattle.diag_top.specs.declared.files.Task.{Task}
use Rattle.diag_top.specs.declared.files.Task.TheVariants.{Advise, Verify}
use Rattle.diag_top.specs.Answer.{Judged, advised, judged, verified, MOST_VARIABLES}
use Rattle.diag_top.specs.Work.{Work}

abbrev pub set : Limits → Settings
set limits = record { allowance = limits.allowance; rungs = limits.rungs; list = limits.list; ahead = limits.ahead; workers = limits.workers; certify = limits.certify }

abbrev pub job_of : Finished → Judged
job_of finished = record { outcome = finished.outcome; checks = length finished.used; predicted = length finished.posted; wasted = finished.wasted }

abbrev pub IsDone : FeatureModel → Configuration → Settings → Option ℕ → Job → Type 0
IsDone model config settings list (Done finished) = (needed model config ≤ MOST_VARIABLES) × (job_of finished ≡ judged model config settings list)
IsDone model config settings list (TooLarge count) = (MOST_VARIABLES < needed model config) × (count ≡ needed model config)

-- what is next once both files are read
abbrev pub next_of : Task → FeatureModel → Configuration → Work
next_of (Advise limits) = advised (set limits)
next_of (Verify name) = verified name.now

abbrev pub IsAllowedTask : Task → Type 0
IsAllowedTask (Advise limits) = AreAllowed (set limits)
IsAllowedTask (Verify name) = Unit {0}
