-- A command of machines on a wire that was read from words.
use Rattle.std.specs.Prelude.{map, string_bytes}
use Rattle.commands.specs.Command.{CommandValue}
use Rattle.aegis_command.specs.WireMachines.{wire_machines}
use Rattle.aegis_command.specs.declared.wire_machines.WireMachines.{WireMachines}

-- the command, by the names of its files
abbrev pub wire_seen : WireMachines → CommandValue
wire_seen c = wire_machines (map string_bytes c.files.now) c.delay.number c.ticks.number
