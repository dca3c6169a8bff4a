use Rattle.std.proofs.Common.{◌≡◌, ◌+◌, ◌-◌, ◌≤◌, ◌++◌, length}
use Rattle.line_text.specs.Lines.{lines_of}
use Rattle.line_text.specs.Statements.{statements_of}
use Rattle.boot_schedule.specs.Schedule.{events_said, lines_fault}
use Rattle.boot_schedule.proofs.SaidLemmas.{left}
use Rattle.boot_schedule.proofs.reading.read_schedule.Given as goal

-- the events so far and those of the lines to come are all of them, and the rest has the first fault
abbrev pub invariant-lines : goal.invariant-lines
invariant-lines l = record {
  within : length l.rest ≤ length l.text;
  few : l.number + length l.rest ≤ length l.text + 1;
  fault : lines_fault l.before (length l.events.items) (left l.number (length l.text - length l.rest) l.rest) ≡ lines_fault 0 0 (statements_of (lines_of l.text));
  told : l.events.items ++ events_said (left l.number (length l.text - length l.rest) l.rest) ≡ events_said (statements_of (lines_of l.text));
}

abbrev pub decreases-lines : goal.decreases-lines
decreases-lines l = length l.rest
