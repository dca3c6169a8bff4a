use Rattle.boot_schedule.proofs.Order.{schedule_in_order}
use Rattle.boot_schedule.proofs.laws.law_in_order.Goals as goal

pub returns-clause-order : goal.returns-clause-order
returns-clause-order c = λ text none. (schedule_in_order text none).0

pub returns-clause-most : goal.returns-clause-most
returns-clause-most c = λ text none. (schedule_in_order text none).1
