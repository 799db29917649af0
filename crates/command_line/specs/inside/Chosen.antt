-- What the options read so far choose, as the reader of options keeps it.
use Rattle.command_line.specs.declared.options.Options.{Options}
use Rattle.command_line.specs.Words.{Chosen}

abbrev pub chosen : Options → Chosen
chosen options = record { allowance = options.allowance; rungs = options.rungs; list = options.list; ahead = options.ahead; workers = options.workers; certify = options.certify }
