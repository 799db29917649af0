-- How the told answers and what is left to do go together.
use Rattle.std.specs.Prelude.{Bool, false, List, []}
use Rattle.pref_sets.specs.Answers.{told_in_turn}
use Rattle.pref_sets.specs.QuickXplain.{qx}
use Rattle.pref_sets.specs.Plan.{IsLeft}
use Rattle.req_keys.specs.Key.{PositionSet, IsKey}
use Rattle.quick_xplain.specs.inside.Remaining.{part_plan, remaining, IsPart}
use Rattle.quick_xplain.specs.declared.parts.Part.{Part}

-- the part is that of QuickXplain over the start set after these answers
pub record Stands (among : PositionSet) (sats : List Bool) (part : Part) : Type 0 where
  pub key : IsKey among
  pub parts : IsPart among part
  pub left : IsLeft (told_in_turn (qx among.members) [] sats) (part_plan [] among.members [] false) (remaining among.members part)
