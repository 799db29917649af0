-- How the told answers and what is left to do go together.
use Rattle.std.specs.Prelude.{ℕ, Bool, true, List, []}
use Rattle.std.specs.List.{range_with_len}
use Rattle.pref_sets.specs.Answers.{told_in_turn}
use Rattle.pref_sets.specs.FastDiag.{fd}
use Rattle.pref_sets.specs.Plan.{IsLeft}
use Rattle.fast_diag.specs.inside.Remaining.{part_plan, remaining, IsPart}
use Rattle.fast_diag.specs.declared.parts.Part.{Part}

-- the part is that of FastDiag over n positions after these answers
pub record Stands (n : ℕ) (sats : List Bool) (part : Part) : Type 0 where
  pub parts : IsPart n part
  pub left : IsLeft (told_in_turn (fd (range_with_len 1 n)) [] sats) (part_plan [] 0 n true) (remaining part)
