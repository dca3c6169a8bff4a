-- The runner has its stripe, and what it binds is owned.
use Rattle.std.proofs.Common.{length, arith, subst, sym, ◌+◌}
use Rattle.bind_book.proofs.Rows.{row_within}
use Rattle.page_book.specs.Rows.{row_in}
use Rattle.board_model.specs.Shown.{Shown}
use Rattle.board_model.specs.Sound.{IsOwned}
use Rattle.board_model.proofs.Booked.{has_stripe, set_booked}
use Rattle.board_model.proofs.Rows.{bound_rows}
use Rattle.board_model.proofs.Staying.{sound_binds}
use Rattle.aegis_calls.proofs.Runner.{runner_live, seen}
use Rattle.aegis_calls.proofs.board.Board.bind.Goals as goal

pub bind-replaced-requires-clause-stripe : goal.bind-replaced-requires-clause-stripe
bind-replaced-requires-clause-stripe c =
    let b = seen c.self.view_is in
    let there = (runner_live c.self.view_is c.self.invariant c.requires.runs).0 in
    has_stripe b.binds (length b.roster.list + b.roster.spare) c.args.env c.self.invariant.books.striped (omega (arith, there))

pub invariant_of-self : goal.invariant_of-self
invariant_of-self c =
    let b = seen c.self.view_is in
    let lives = runner_live c.self.view_is c.self.invariant c.requires.runs in
    let there = lives.0 in
    let has = has_stripe b.binds (length b.roster.list + b.roster.spare) c.args.env c.self.invariant.books.striped (omega (arith, there)) in
    let owned = subst (λ (s : Shown). IsOwned (row_in s.pages c.args.binding.page)) (sym c.self.view_is) c.requires.owned in
    rw (c.drop_bound.ensures, c.bind-replaced.ensures.replaced, c.bind-replaced.ensures.after)
    (sound_binds _ _ (set_booked _ _ _ c.args.env _ _ has (row_within b.binds.version c.args.binding.vpn) lives owned c.self.invariant.books)
    (bound_rows b.frames b.roster.list b.binds b.tlb.rows c.args.env c.args.binding has c.self.invariant.rows) c.self.invariant)
