-- The act is the model's, by the frame of the runner and its registers.
use Rattle.feed_board.proofs.Acting.{act_is}
use Rattle.feed_board.proofs.acts.next_act.Goals as goal

pub returns : goal.returns
returns c =
    rw (c.act_seen.ensures, c.frames.ensures, c.bindings.ensures, c.handler-handler.ensures)
    (act_is c.args.board.now c.args.runner c.env-env.result.now c.registers.result.now c.law_sound.ensures c.requires c.env-env.ensures c.registers.ensures)
