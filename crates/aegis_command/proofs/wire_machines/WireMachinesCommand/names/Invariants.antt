-- The names so far are there.
use Rattle.std.proofs.Common.{◌≡◌, map, take}
use Rattle.std.specs.Prelude.{string_bytes}
use Rattle.aegis_command.proofs.wire_machines.WireMachinesCommand.names.Given as goal

abbrev pub invariant-loop-file : goal.invariant-loop-file
invariant-loop-file l = map string_bytes l.names.items ≡ map string_bytes (take l.file-index l.self.files.now)
