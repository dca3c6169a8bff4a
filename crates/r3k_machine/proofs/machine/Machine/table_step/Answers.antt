use Rattle.std.proofs.Common.{rules}
use Rattle.r3k_machine.proofs.Written.{wrote_frames}
use Rattle.r3k_machine.proofs.machine.Machine.table_step.Goals as goal

pub returns-clause-frames : goal.returns-clause-frames
returns-clause-frames c = search (rules, wrote_frames)
