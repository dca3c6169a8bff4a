-- The machines are through with the ticks before this one, some are ahead of it, and what is under way is what will be
-- delivered.
use Rattle.std.proofs.Common.{◌≡◌, ◌≤◌, ◌<◌, ◌+◌, ◌-◌, ℕ, length}
use Rattle.wire_model.specs.Wire.{Wire}
use Rattle.wire_net.specs.Course.{IsWireOf}
use Rattle.wire_net.specs.Delivery.{Rise, due_at}
use Rattle.wire_net.proofs.Progress.{AllAhead, AllPlaced}
use Rattle.wire_net.proofs.Wiring.{coming_at}
use Rattle.wire_net.proofs.net.wire.Given as goal

abbrev pub invariant-loop-time : goal.invariant-loop-time
invariant-loop-time l = record {
  count : length l.boards ≡ length l.fn.boards;
  stations : length l.stations.items ≡ length l.fn.boards;
  within : l.time ≤ l.ticks;
  placed : AllPlaced l.schedules l.time l.ticks l.boards l.stations.items;
  rise : Rise l.time (l.time + l.delay) l.under_way.items;
  ahead : (net : Wire) → IsWireOf l.fn.boards l.schedules l.delay net → AllAhead net l.time l.boards l.stations.items;
  due : (net : Wire) → IsWireOf l.fn.boards l.schedules l.delay net → (s : ℕ) → l.time ≤ s → s < l.time + l.delay → due_at s l.under_way.items ≡ coming_at net s;
}

abbrev pub decreases-loop-time : goal.decreases-loop-time
decreases-loop-time l = l.ticks - l.time
