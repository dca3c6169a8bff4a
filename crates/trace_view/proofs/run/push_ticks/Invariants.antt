-- The run is on its course, and the lines of the ticks so far are written.
use Rattle.std.proofs.Common.{◌≡◌, ◌<◌, ◌≤◌, ◌-◌, ◌++◌, true}
use Rattle.world_model.specs.Book.{is_idle_book}
use Rattle.board_model.specs.Showing.{world_of}
use Rattle.aegis_tick.specs.OnCourse.{IsOn, system_of}
use Rattle.trace_view.specs.Trace.{trace_lines}
use Rattle.trace_view.proofs.run.push_ticks.Given as goal

abbrev pub invariant-loop-course : goal.invariant-loop-course
invariant-loop-course l = record {
  text : l.out.items ≡ l.fn.out.items ++ trace_lines (system_of l.fn.course) l.env l.from l.course.board.time;
  idle : l.course.board.time < l.from → is_idle_book (world_of l.course.board).book ≡ true;
  on : IsOn l.course;
  within : l.course.board.time ≤ l.ticks;
  system : system_of l.course ≡ system_of l.fn.course;
}

abbrev pub decreases-loop-course : goal.decreases-loop-course
decreases-loop-course l = l.ticks - l.course.board.time
