-- So many steps retired, and the machine is that after them.
use Rattle.std.proofs.Common.{◌≡◌, length}
use Rattle.mips_step.specs.Live.{HasZero, IsSameLive, joined}
use Rattle.r3k_machine.specs.Steps.{RowStepsRetire, after_row_steps}
use Rattle.r3k_machine.proofs.run.run_page.Given as goal

abbrev pub invariant-loop-done : goal.invariant-loop-done
invariant-loop-done l = record {
  same : IsSameLive l.fn.live l.live;
  zero : HasZero l.live;
  machine : record { cpu = joined l.live; frames = l.frames } ≡ after_row_steps l.fn.cp0 l.fn.tlb (record { cpu = joined l.fn.live; frames = l.fn.frames }) l.done;
  retire : RowStepsRetire l.fn.cp0 l.fn.tlb (record { cpu = joined l.fn.live; frames = l.fn.frames }) l.done;
  size : length l.frames ≡ length l.fn.frames;
}
