-- The bindings that are left are as they were.
use Rattle.std.proofs.Common.{length, arith, ◌+◌}
use Rattle.board_model.proofs.Booked.{has_stripe, unbound_booked}
use Rattle.board_model.proofs.Rows.{unbound_rows}
use Rattle.board_model.proofs.Staying.{sound_binds}
use Rattle.aegis_calls.proofs.Runner.{runner_live, seen}
use Rattle.aegis_calls.proofs.board.Board.unbind.Goals as goal

pub invariant_of-self : goal.invariant_of-self
invariant_of-self c =
    let b = seen c.self.view_is in
    let lives = runner_live c.self.view_is c.self.invariant c.requires.runs in
    let there = lives.0 in
    let has = has_stripe b.binds (length b.roster.list + b.roster.spare) c.args.env c.self.invariant.books.striped (omega (arith, there)) in
    rw (c.drop_pair.ensures, c.unbind.ensures.after)
    (sound_binds _ _ (unbound_booked _ _ _ c.args.env c.args.vpn has lives c.self.invariant.books)
    (unbound_rows b.frames b.roster.list b.binds b.tlb.rows c.args.env c.args.vpn has c.self.invariant.rows) c.self.invariant)
