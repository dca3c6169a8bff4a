-- It is at most what was begun with and the ticks of the stations so far, and the latest such tick.
use Rattle.std.proofs.Common.{ℕ, ◌≤◌, ◌<◌, length, get_or}
use Rattle.wire_net.specs.declared.net.Station.{Station}
use Rattle.wire_net.proofs.net.first_tick.Given as goal

abbrev pub invariant-loop-station : goal.invariant-loop-station
invariant-loop-station l = record {
  most : l.first ≤ l.until;
  each : (i : ℕ) (s : Station) → i < l.station-index → l.first ≤ (get_or l.stations i s).time;
  least : (t : ℕ) → t ≤ l.until → ((i : ℕ) (s : Station) → i < length l.stations → t ≤ (get_or l.stations i s).time) → t ≤ l.first;
}
