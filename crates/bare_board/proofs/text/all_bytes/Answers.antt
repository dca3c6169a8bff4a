use Rattle.std.proofs.Common.{arith, length, ◌<◌}
use Rattle.bare_board.proofs.Lines.{one_page_joined}
use Rattle.bare_board.proofs.text.all_bytes.Goals as goal

pub loop-n-preserved : goal.loop-n-preserved
loop-n-preserved c =
    let within : c.loop-n.n < length c.args.frames.now = omega arith in
    let joined = one_page_joined c.args.frames.now c.loop-n.n within in
    cc (c.in_ok-extend_from_slice.ensures.items, c.page.ensures.bytes, c.loop-n.invariant)
