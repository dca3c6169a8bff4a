use Rattle.std.proofs.Common.{◌≡◌, ◌+◌, ◌*◌, map}
use Rattle.std.specs.List.{range_with_len}
use Rattle.exos_text.specs.Draws.{drawn}
use Rattle.exos_text.specs.LoadSchedule.{load_event}
use Rattle.exos_text.proofs.schedule.load_schedule.Given as goal

-- the events so far, and the draws of theirs and of the quantum
abbrev pub invariant-loop-number : goal.invariant-loop-number
invariant-loop-number l = record {
  events : l.events.items ≡ map (load_event l.fn.seed) (range_with_len 0 l.number);
  draws : l.draws.number ≡ drawn (1 + 64 * l.number) l.fn.seed;
}
