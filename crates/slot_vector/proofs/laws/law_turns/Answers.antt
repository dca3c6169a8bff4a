-- Each law is its lemma.
use Rattle.slot_vector.proofs.Whole.{idle_step, is_idle, pay_lowers, pay_step, run_step}
use Rattle.slot_vector.proofs.Owed.{excess_set}
use Rattle.slot_vector.proofs.laws.law_turns.Goals as goal

pub returns-clause-pay : goal.returns-clause-pay
returns-clause-pay c = pay_step

pub returns-clause-lowers : goal.returns-clause-lowers
returns-clause-lowers c = pay_lowers

pub returns-clause-run : goal.returns-clause-run
returns-clause-run c = run_step

pub returns-clause-idle : goal.returns-clause-idle
returns-clause-idle c = idle_step

pub returns-clause-nobody : goal.returns-clause-nobody
returns-clause-nobody c = is_idle

pub returns-clause-excess : goal.returns-clause-excess
returns-clause-excess c = excess_set
