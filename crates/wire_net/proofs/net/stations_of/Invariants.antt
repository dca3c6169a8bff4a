-- The stations of lower numbers are there.
use Rattle.std.proofs.Common.{◌≡◌, ◌<◌, ℕ, get_or, length}
use Rattle.std.specs.Prelude.{Vec}
use Rattle.std.specs.Global.{Global}
use Rattle.external_event.specs.EventValue.{EventValue}
use Rattle.board_model.specs.Shown.{Shown}
use Rattle.wire_net.specs.Station.{AreCounted}
use Rattle.wire_net.specs.declared.net.Station.{Station}
use Rattle.wire_net.proofs.net.stations_of.Given as goal

abbrev pub invariant-loop-place : goal.invariant-loop-place
invariant-loop-place l = record {
  count : length l.stations.items ≡ l.place;
  time : (i : ℕ) (s : Station) → i < l.place → (get_or l.stations.items i s).time ≡ 0;
  agenda : (i : ℕ) (s : Station) (v : Vec EventValue Global) → i < l.place → (get_or l.stations.items i s).agenda ≡ (get_or l.schedules i v).items;
  sent : (i : ℕ) (s : Station) (b : Shown) → i < l.place → AreCounted (get_or l.boards i b) (get_or l.stations.items i s).sent.items;
}
