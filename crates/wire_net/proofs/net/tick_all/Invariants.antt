-- The machines of lower numbers are through with the tick, and the others are as they were.
use Rattle.std.proofs.Common.{◌≡◌, ◌≤◌, ◌<◌, ◌++◌, ℕ, get_or, length}
use Rattle.board_model.specs.Shown.{Shown}
use Rattle.wire_net.specs.Sending.{sent_by_first}
use Rattle.wire_net.specs.Station.{IsThrough}
use Rattle.wire_net.specs.declared.net.Station.{Station}
use Rattle.wire_net.proofs.net.tick_all.Given as goal

abbrev pub invariant-loop-place : goal.invariant-loop-place
invariant-loop-place l = record {
  count : length l.boards ≡ length l.fn.boards;
  stations : length l.stations ≡ length l.fn.stations;
  done : (i : ℕ) (b : Shown) (s : Station) → i < l.place → IsThrough i l.moment.time l.moment.until l.due_now (get_or l.fn.boards i b) (get_or l.fn.stations i s) (get_or l.boards i b) (get_or l.stations i s);
  left : (i : ℕ) (b : Shown) → l.place ≤ i → get_or l.boards i b ≡ get_or l.fn.boards i b;
  left_stations : (i : ℕ) (s : Station) → l.place ≤ i → get_or l.stations i s ≡ get_or l.fn.stations i s;
  out : (b : Shown) → l.out.items ≡ l.fn.out.items ++ sent_by_first l.place l.moment.arrival l.fn.boards l.boards b;
}
