use Rattle.std.proofs.Common.{◌∙◌, ap, arith}
use Rattle.external_event.specs.Order.{are_in_order}
use Rattle.exos_text.proofs.Ordering.{events_are, in_order}
use Rattle.exos_text.proofs.schedule.load_schedule.Goals as goal

pub returns-clause-order : goal.returns-clause-order
returns-clause-order c = ap (are_in_order 0) (c.loop-number.invariant.events ∙ events_are c.args.seed c.loop-number.number (omega arith)) ∙ in_order c.args.seed
