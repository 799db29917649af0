-- what was chosen so far, and the words that are left
use Rattle.std.proofs.Common.{◌≡◌, map, length}
use Rattle.std.specs.String.{string_bytes}
use Rattle.command_line.specs.Words.{AreAllowed, settings_of, chosen_from, nothing_chosen}
use Rattle.command_line.specs.inside.Chosen.{chosen}
use Rattle.command_line.proofs.options.Options.of.Given as goal

abbrev pub invariant-options : goal.invariant-options
invariant-options l = record {
  allowed : AreAllowed (settings_of (chosen l.options));
  chosen : chosen_from (chosen l.options) (map string_bytes l.rest) ≡ chosen_from nothing_chosen (map string_bytes l.words);
}

abbrev pub decreases-options : goal.decreases-options
decreases-options l = length l.rest
