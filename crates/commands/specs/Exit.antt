-- The statuses with which the program ends.
use Rattle.std.specs.Prelude.{ℕ}
use Rattle.commands.specs.declared.status.Status.{Status}
use Rattle.commands.specs.declared.status.Status.TheVariants.{Done, Found, Usage, Refused, ReadFault, WriteFault, OutOfMemory}

abbrev pub exit_code : Status → ℕ
exit_code Done = 0
exit_code Found = 1
exit_code Usage = 2
exit_code Refused = 3
exit_code ReadFault = 4
exit_code WriteFault = 5
exit_code OutOfMemory = 6
