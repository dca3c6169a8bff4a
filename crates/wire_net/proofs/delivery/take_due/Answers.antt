-- Where the first isn't due, nothing is.
use Rattle.std.proofs.Common.{sym, ◌∙◌}
use Rattle.wire_net.proofs.Queue.{not_due, not_due_rises}
use Rattle.wire_net.proofs.delivery.take_due.Goals as goal

pub returns-then-not-is_due-clause-due : goal.returns-then-not-is_due-clause-due
returns-then-not-is_due-clause-due c =
    c.new.ensures.items ∙ sym (not_due c.args.time c.args.limit c.args.queue.now.items c.requires (sym c.is_due.ensures ∙ c.if-not-is_due.true))

pub returns-then-not-is_due-clause-rise : goal.returns-then-not-is_due-clause-rise
returns-then-not-is_due-clause-rise c = not_due_rises c.args.time c.args.limit c.args.queue.now.items c.requires (sym c.is_due.ensures ∙ c.if-not-is_due.true)
