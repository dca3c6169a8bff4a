-- One reply more is sent.
use Rattle.std.proofs.Common.{◌≡◌, [], ◌∷◌, ◌++◌, ◌+◌, length, take, arith, ap, sym, ◌∙◌, refl}
use Rattle.std.proofs.lemmas.List.{take_more}
use Rattle.std.proofs.Math.Seq.{take_all}
use Rattle.board_model.specs.Shown.{Environments}
use Rattle.board_model.specs.Doing.{with_replies_sent}
use Rattle.board_model.proofs.Lists.{length-changed}
use Rattle.board_model.proofs.Sending.{replying_twice}
use Rattle.board_acts.proofs.delivery.send_replies.Goals as goal

pub reply-requires-in-loop-n-clause-there : goal.reply-requires-in-loop-n-clause-there
reply-requires-in-loop-n-clause-there c = omega (arith, c.requires, ap (λ (r : Environments). length r.list) c.loop-n.invariant, length-changed (with_replies_sent (take c.loop-n.n c.args.replies.now)) c.args.roster.now.list c.args.env)

pub loop-n-preserved : goal.loop-n-preserved
loop-n-preserved c =
    let replies = c.args.replies.now in
    let n = c.loop-n.n in
    let reply = c.reply.result.now in
    let more : take n replies ++ reply ∷ [] ≡ take (n + 1) replies =
    (λ k. take n replies ++ c.reply.ensures.bytes k ∷ []) ∙ sym (take_more replies n [] (omega (arith, c.loop-n-test.true, c.count-n-end.ensures.count))) in
    rw (c.reply-in-loop-n.ensures, c.loop-n.invariant, replying_twice (take n replies) (reply ∷ []) c.args.roster.now.list c.args.env, more) refl

pub returns : goal.returns
returns c = rw (c.loop-n.invariant, take_all c.loop-n.n c.args.replies.now (omega (arith, c.loop-n-test.false, c.count-n-end.ensures.count))) refl
