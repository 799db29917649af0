-- What the code has read of a file so far, as the definition sees it.
use Rattle.std.specs.Prelude.{◌≤◌, length}
use Rattle.config_reader.specs.declared.draft.Draft.{Draft}
use Rattle.config_reader.specs.Judgement.{Standing, most}

abbrev pub standing_of : Draft → Standing
standing_of draft = record { tier = draft.tier; placed = draft.placed.items; musts = draft.musts }

-- no more requirements and no more musts than a file may have
pub record IsShort (read : Standing) : Type 0 where
  pub requirements : length read.placed ≤ most
  pub musts : length read.musts ≤ most
