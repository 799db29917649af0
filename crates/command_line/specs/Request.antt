-- The request that a command of the program stands for.
use Rattle.command_line.specs.declared.command.Command.{Command}
use Rattle.command_line.specs.declared.command.Command.TheVariants as command
use Rattle.command_line.specs.Words.{Request, Diagnose, Verify, Generate}

abbrev pub request : Command → Request
request (command.Diagnose model config workers ahead allowance rungs list certify) =
    Diagnose model.now config.now (record { allowance = allowance; rungs = rungs; list = list; ahead = ahead; workers = workers; certify = certify })
request (command.Verify model config certificate) = Verify model.now config.now certificate.now
request (command.Generate seed size what) = Generate seed size what
