-- The pairs so far are machines, and none of their files is refused.
use Rattle.std.proofs.Common.{◌≡◌, ◌<◌, ◌+◌, ◌*◌, ℕ, drop, get_or, length, map}
use Rattle.std.specs.Prelude.{Vec, string_bytes}
use Rattle.std.specs.Global.{Global}
use Rattle.external_event.specs.EventValue.{EventValue}
use Rattle.edge_io.specs.Reads.{held}
use Rattle.board_model.specs.Shown.{Shown}
use Rattle.commands.specs.Command.{content}
use Rattle.commands.specs.Due.{Due, unless_refused}
use Rattle.aegis_command.specs.Pairs.{IsMachine}
use Rattle.aegis_command.specs.WireMachines.{refusals}
use Rattle.aegis_command.proofs.wire_machines.pairs_of.Given as goal

abbrev pub invariant-loop-pair : goal.invariant-loop-pair
invariant-loop-pair l = record {
  count : length l.boards.items ≡ l.pair;
  schedules : length l.schedules.items ≡ l.pair;
  each : (i : ℕ) (b : Shown) (v : Vec EventValue Global) → i < l.pair
      → IsMachine (content (held l.contents) (2 * i)) (content (held l.contents) (2 * i + 1)) (get_or l.boards.items i b) (get_or l.schedules.items i v).items;
  sound : (due : Due) → unless_refused (refusals (map string_bytes l.names) (held l.contents)) due
      ≡ unless_refused (refusals (drop (2 * l.pair) (map string_bytes l.names)) (drop (2 * l.pair) (held l.contents))) due;
}
