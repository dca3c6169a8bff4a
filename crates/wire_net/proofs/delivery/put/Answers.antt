-- A batch of a later time stands last.
use Rattle.std.proofs.Common.{◌∙◌, ap, ◌+◌, sym, arith}
use Rattle.std.specs.Prelude.{vec_len}
use Rattle.std.proofs.lemmas.Bool.{eqb-true}
use Rattle.wire_net.specs.Delivery.{due_at, rise_between}
use Rattle.wire_net.proofs.Queue.{empty_of, none_from, put_last, put_other, put_rises, wider}
use Rattle.wire_net.proofs.delivery.put.Goals as goal

pub returns-in_ok-push_back-clause-last : goal.returns-in_ok-push_back-clause-last
returns-in_ok-push_back-clause-last c = λ least rises.
    ap (due_at c.args.time) c.in_ok-push_back.ensures.items
    ∙ put_last least (record { time = c.args.time; deliveries = c.args.deliveries }) c.args.queue.now.items rises

pub returns-in_ok-push_back-clause-others : goal.returns-in_ok-push_back-clause-others
returns-in_ok-push_back-clause-others c = λ t less.
    ap (due_at t) c.in_ok-push_back.ensures.items
    ∙ put_other t (record { time = c.args.time; deliveries = c.args.deliveries }) c.args.queue.now.items (λ same. omega arith)

pub returns-in_ok-push_back-clause-rise : goal.returns-in_ok-push_back-clause-rise
returns-in_ok-push_back-clause-rise c = λ least from rises.
    ap (rise_between least (c.args.time + 1)) c.in_ok-push_back.ensures.items
    ∙ put_rises least (record { time = c.args.time; deliveries = c.args.deliveries }) c.args.queue.now.items from rises

pub returns-else-not-is_empty-clause-last : goal.returns-else-not-is_empty-clause-last
returns-else-not-is_empty-clause-last c = λ least rises.
    let none = eqb-true (vec_len c.args.deliveries) 0 (sym c.is_empty.ensures ∙ c.if-not-is_empty.false) in
    none_from least c.args.time c.args.time c.args.queue.now.items rises (omega arith)
    ∙ sym (empty_of c.args.deliveries.items (sym c.args.deliveries.ok.0 ∙ none))

pub returns-else-not-is_empty-clause-rise : goal.returns-else-not-is_empty-clause-rise
returns-else-not-is_empty-clause-rise c = λ least from rises. wider least c.args.time (c.args.time + 1) c.args.queue.now.items rises (omega arith)
