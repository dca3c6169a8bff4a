use Rattle.mips_step.proofs.StepSound.{all_sound}
use Rattle.mips_step.proofs.laws.steps_are_sound.Goals as goal

pub returns : goal.returns
returns c = all_sound
