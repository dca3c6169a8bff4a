-- The page was the runner's, and nobody has it bound any more.
use Rattle.std.proofs.Common.{Option, None, subst, sym, ap, ◌∙◌, arith}
use Rattle.page_book.specs.declared.refusal.PageNo.{PageNo}
use Rattle.page_book.specs.declared.row.PageRow.TheVariants.{Free}
use Rattle.page_book.specs.Rows.{changed_unless, row_in}
use Rattle.world_model.specs.May.{MayChange}
use Rattle.board_model.specs.Shown.{Shown}
use Rattle.board_model.specs.Showing.{book_of}
use Rattle.board_model.proofs.Allowed.{changeable, owned_by_none}
use Rattle.board_model.proofs.Asked.{freed_asked}
use Rattle.board_model.proofs.Booked.{free_booked}
use Rattle.board_model.proofs.Claiming.{freed_claimed}
use Rattle.board_model.proofs.Parted.{row_parted}
use Rattle.board_model.proofs.Rows.{broken_rows}
use Rattle.board_model.proofs.Staying.{sound_memory}
use Rattle.aegis_calls.proofs.Runner.{runner_live}
use Rattle.aegis_calls.proofs.board.Board.free.Goals as goal

pub invariant_of-self : goal.invariant_of-self
invariant_of-self c =
    let b = c.self.inside in
    let e = c.args.env in
    let page = c.args.page in
    let may = subst (λ (s : Shown). MayChange (book_of s) e page) (sym c.self.view_is) c.requires.may in
    let lives = runner_live c.self.view_is c.self.invariant c.requires.runs in
    let freed = c.free.ensures.after ∙ ap (λ (why : Option PageNo). changed_unless why b.pages page Free) (changeable e b.pages page may.there may.owned) in
    rw (freed, c.break_page.ensures.after, c.drop_page.ensures, c.drop_page-2.ensures, c.freed.ensures)
    (sound_memory b.frames _ _ _ _ _ (row_parted b.frames b.pages b.roster.list page Free (owned_by_none e (row_in b.pages page) may.owned) c.self.invariant.memory)
    (free_booked b.pages b.bindings b.roster page may.there c.self.invariant.books)
    (freed_claimed b.claims b.pages b.roster page may.there c.self.invariant.claims)
    (freed_asked b.revocations b.pages e page (omega (arith, lives.0, c.self.invariant.few)) may.there may.owned c.self.invariant.revocations)
    (broken_rows b.frames b.roster.list b.bindings b.machine.tlb page None c.self.invariant.rows) c.self.invariant)

pub freed-requires : goal.freed-requires
freed-requires c = omega (arith, (runner_live c.self.view_is c.self.invariant c.requires.runs).0, c.self.invariant.few)
