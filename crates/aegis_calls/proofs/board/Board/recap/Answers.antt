-- The page was the runner's, and stays so.
use Rattle.std.proofs.Common.{Option, Some, subst, sym, ap, ◌∙◌}
use Rattle.page_book.specs.declared.refusal.PageNo.{PageNo}
use Rattle.page_book.specs.declared.row.PageRow.TheVariants.{Owned}
use Rattle.page_book.specs.Rows.{changed_unless, row_in}
use Rattle.world_model.specs.May.{MayChange}
use Rattle.board_model.specs.Shown.{Shown}
use Rattle.board_model.specs.Showing.{book_of}
use Rattle.board_model.proofs.Allowed.{changeable, owned_by_none}
use Rattle.board_model.proofs.Booked.{owned_booked, sweep_booked}
use Rattle.board_model.proofs.Claiming.{recapped_claimed}
use Rattle.board_model.proofs.Parted.{row_parted}
use Rattle.board_model.proofs.Asked.{recapped_asked}
use Rattle.board_model.proofs.Rows.{broken_rows}
use Rattle.board_model.proofs.Staying.{sound_memory}
use Rattle.aegis_calls.proofs.Runner.{runner_live}
use Rattle.aegis_calls.proofs.board.Board.recap.Goals as goal

pub invariant_of-self : goal.invariant_of-self
invariant_of-self c =
    let b = c.self.inside in
    let e = c.args.env in
    let page = c.args.page in
    let row = Owned e c.args.words in
    let may = subst (λ (s : Shown). MayChange (book_of s) e page) (sym c.self.view_is) c.requires.may in
    let recapped = c.recap.ensures.after ∙ ap (λ (why : Option PageNo). changed_unless why b.pages page row) (changeable e b.pages page may.there may.owned) in
    let lives = runner_live c.self.view_is c.self.invariant c.requires.runs in
    rw (recapped, c.break_page.ensures.after, c.drop_page.ensures)
    (sound_memory b.frames _ _ b.claims b.revocations _ (row_parted b.frames b.pages b.roster.list page row (owned_by_none e (row_in b.pages page) may.owned) c.self.invariant.memory)
    (sweep_booked _ _ b.bindings b.roster (owned_booked b.pages b.bindings b.roster page e c.args.words may.there lives c.self.invariant.books))
    (recapped_claimed b.claims b.pages b.roster page e c.args.words may.there may.owned c.self.invariant.claims)
    (recapped_asked b.revocations b.pages page e c.args.words may.there may.owned c.self.invariant.revocations)
    (broken_rows b.frames b.roster.list b.bindings b.machine.tlb page (Some e) c.self.invariant.rows) c.self.invariant)
