-- What an outcome that is written is about.
use Rattle.std.specs.Prelude.{◌≡◌, ℕ, IfSome}
use Rattle.script.specs.declared.job.Outcome.{Outcome}
use Rattle.script.specs.declared.job.Outcome.TheVariants as outcome

-- what was found are sets of so many positions
abbrev pub IsOver : ℕ → Outcome → Type 0
IsOver n outcome.Consistent = Unit {0}
IsOver n outcome.Background = Unit {0}
IsOver n (outcome.Explained parts) = IfSome parts.kept (λ key. key.n ≡ n) × IfSome parts.conflict (λ key. key.n ≡ n)
IsOver n (outcome.LimitAt part key before) = Unit {0}
