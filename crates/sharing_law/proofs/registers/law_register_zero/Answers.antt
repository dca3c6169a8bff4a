use Rattle.sharing_law.proofs.RegisterZero.{register_zero_stays}
use Rattle.sharing_law.proofs.registers.law_register_zero.Goals as goal

pub returns : goal.returns
returns c = register_zero_stays
