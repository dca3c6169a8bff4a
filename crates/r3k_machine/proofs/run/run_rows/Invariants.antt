-- So many steps retired, and the machine is that after them.
use Rattle.std.proofs.Common.{◌≡◌, ◌-◌, ◌≤◌, length}
use Rattle.mips_step.specs.Live.{HasZero, IsSameLive, joined}
use Rattle.r3k_machine.specs.Steps.{RowStepsRetire, after_row_steps}
use Rattle.r3k_machine.proofs.run.run_rows.Given as goal

abbrev pub invariant-loop-made : goal.invariant-loop-made
invariant-loop-made l = record {
  same : IsSameLive l.initial.live l.live;
  zero : HasZero l.live;
  machine : record { cpu = joined l.live; frames = l.frames } ≡ after_row_steps l.cp0 l.tlb (record { cpu = l.fn.cpu; frames = l.fn.frames }) l.made;
  retire : RowStepsRetire l.cp0 l.tlb (record { cpu = l.fn.cpu; frames = l.fn.frames }) l.made;
  most : l.made ≤ l.most;
  size : length l.frames ≡ length l.fn.frames;
}

abbrev pub decreases-loop-made : goal.decreases-loop-made
decreases-loop-made l = l.most - l.made
