-- The exit status of the process, and that of each message.
use Rattle.std.specs.Prelude.{ℕ}
use Rattle.cov_commands.specs.Line as said
use Rattle.cov_commands.specs.declared.status.Status.{Status}
use Rattle.cov_commands.specs.declared.status.Status.TheVariants.{Ok, Threw, Usage, Refused, BadInput, ReadFault, WriteFault, Range, Going, Memory, Limit, Below, NoFile}

-- its number
abbrev pub code_of : Status → ℕ
code_of Ok = 0
code_of Threw = 1
code_of Usage = 2
code_of Refused = 3
code_of BadInput = 4
code_of ReadFault = 5
code_of WriteFault = 6
code_of Range = 7
code_of Going = 8
code_of Memory = 9
code_of Limit = 10
code_of Below = 11
code_of NoFile = 12

-- the status with which each message is said
abbrev pub status_of : said.Message → Status
status_of said.Usage = Usage
status_of (said.Syntax path place) = Refused
status_of (said.LeftOut path place what) = Refused
status_of (said.TooDeep path place) = Refused
status_of (said.Broken path fault) = Refused
status_of (said.NotUtf8 path at) = Refused
status_of (said.ReadFailed path) = ReadFault
status_of said.WriteFailed = WriteFault
status_of said.OutOfMemory = Memory
status_of (said.TooLong path) = Limit
status_of said.TooManyFiles = Limit
status_of (said.NoFile path) = NoFile
status_of (said.Uncaught shown) = Threw
status_of (said.Range why) = Range
status_of (said.Going turns) = Going
status_of (said.BadInput path what) = BadInput
status_of (said.CountTooLarge sum) = Limit
status_of (said.Below shortfalls) = Below
