-- How much room a report wants: for each line the most bytes that it may have.
use Rattle.std.specs.Prelude.{ℕ, ◌+◌, ◌-◌, ◌*◌, ◌^◌, List, length, sum, sum_by, min}
use Rattle.aegis_limits.specs.Limits.{most_stripe_rows}
use Rattle.world_model.specs.Solo.{Solo}
use Rattle.world_model.specs.World.{World}
use Rattle.world_model.specs.Table.{listed}

-- as much as a usize holds
abbrev pub within_usize : ℕ → ℕ
within_usize n = min n (2 ^ 64 - 1)

-- for a packet that was sent: its line, and two digits for each byte
abbrev pub packet_room : List ℕ → ℕ
packet_room packet = 24 + 2 * length packet

-- for what an environment has once, its bindings, its console and its guaranteed pages
abbrev pub lines_room : Solo → ℕ
lines_room s = 640 + 32 * most_stripe_rows + 4 * length s.console + 96 * length s.kept

-- for an environment: these, and the packets that it sent
unfoldable pub environment_room : Solo → ℕ
environment_room s = lines_room s + sum_by packet_room s.sent

-- for the first and the last lines, the rows of the ledger and the pages that environments own
abbrev pub frame_room : World → ℕ
frame_room w = 64 + 48 * length w.rows + 96 * w.book.page_count

-- for a report: these, and each environment
unfoldable pub report_room : World → ℕ
report_room w = frame_room w + sum (listed (λ e. environment_room (w.solos e)) w.count)
