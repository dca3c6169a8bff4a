-- The run is on its course, with the TLB of the model, and rows enough for what is left; of these it took few.
use Rattle.std.proofs.Common.{◌≡◌, ◌≤◌, ◌+◌, ◌-◌, ◌*◌, length}
use Rattle.aegis_calls.specs.Rows.{tick_rows}
use Rattle.aegis_tick.specs.OnCourse.{IsCached, IsOn, TookFewRows, system_of}
use Rattle.aegis_tick.proofs.course.Course.run.Given as goal

abbrev pub invariant-loop-self : goal.invariant-loop-self
invariant-loop-self l = record {
  on : IsOn l.self;
  cached : IsCached l.self;
  within : l.self.board.time ≤ l.ticks;
  system : system_of l.self ≡ system_of l.fn.self;
  room : tick_rows * (length l.fn.self.agenda + (l.ticks - l.fn.self.board.time)) ≤ l.fn.self.board.ledger.spare → tick_rows * (length l.self.agenda + (l.ticks - l.self.board.time)) ≤ l.self.board.ledger.spare;
  took : TookFewRows l.fn.self l.self;
}

abbrev pub decreases-loop-self : goal.decreases-loop-self
decreases-loop-self l = l.ticks - l.self.board.time
