-- The exit codes (own to this project).
use Rattle.std.specs.Prelude.{ℕ}
use Rattle.command_line.specs.declared.status.Status.{Status}
use Rattle.command_line.specs.declared.status.Status.TheVariants.{Consistent, Explained, Background, Limit, Verified, Rejected, Generated, BadWords, BadModel, BadConfig, TooLarge, Memory, ReadFault, WriteFault}

abbrev pub code_of : Status → ℕ
code_of Consistent = 0
code_of Explained = 1
code_of Background = 2
code_of Limit = 3
code_of Verified = 0
code_of Rejected = 4
code_of Generated = 0
code_of BadWords = 64
code_of BadModel = 65
code_of BadConfig = 66
code_of TooLarge = 67
code_of Memory = 70
code_of ReadFault = 74
code_of WriteFault = 75
