-- A command of a system that was read from words.
use Rattle.commands.specs.Command.{CommandValue}
use Rattle.aegis_command.specs.SystemDue.{Writing, system_command}
use Rattle.aegis_command.specs.SystemFiles.{names_seen}
use Rattle.aegis_command.specs.declared.system_command.SystemCommand.{SystemCommand}

-- the command, by what its text is
abbrev pub system_seen : {T : Type 0} → (T → Writing) → SystemCommand T → CommandValue
system_seen writing command = system_command (names_seen command.names) (writing command.text)
