-- The run is on its course at a tick up to which it was asked to go, and has the rows for what is left if it had them for all.
use Rattle.std.proofs.Common.{◌≡◌, ◌≤◌, ◌-◌}
use Rattle.aegis_tick.specs.OnCourse.{HasRowsUpTo, IsCached, IsOn, system_of}
use Rattle.aegis_tick.proofs.course.Course.run_long.Given as goal

abbrev pub invariant-loop-until : goal.invariant-loop-until
invariant-loop-until l = record {
  on : IsOn l.self;
  cached : IsCached l.self;
  reached : l.self.board.time ≤ l.until;
  within : l.until ≤ l.ticks;
  system : system_of l.self ≡ system_of l.fn.self;
  rows : HasRowsUpTo l.fn.self l.ticks → HasRowsUpTo l.self l.ticks;
}

abbrev pub decreases-loop-until : goal.decreases-loop-until
decreases-loop-until l = l.ticks - l.until
