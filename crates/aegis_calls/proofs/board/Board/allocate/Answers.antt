-- The page was free, and its new owner lives.
use Rattle.std.proofs.Common.{Option, subst, sym, ap, ◌∙◌}
use Rattle.frame_store.specs.Pages.{zero_page}
use Rattle.page_book.specs.declared.refusal.PageNo.{PageNo}
use Rattle.page_book.specs.declared.row.PageRow.TheVariants.{Owned}
use Rattle.page_book.specs.Rows.{changed_unless, row_in}
use Rattle.world_model.specs.May.{MayAllocate}
use Rattle.board_model.specs.Shown.{Shown}
use Rattle.board_model.specs.Showing.{book_of}
use Rattle.board_model.proofs.Allowed.{allocable, free_to_all}
use Rattle.board_model.proofs.Booked.{owned_booked}
use Rattle.board_model.proofs.Claiming.{allocated_claimed}
use Rattle.board_model.proofs.Parted.{page_parted, row_parted}
use Rattle.board_model.proofs.Asked.{allocated_asked}
use Rattle.std.proofs.lemmas.List.{length-set}
use Rattle.board_model.proofs.Rows.{same_size_rows}
use Rattle.board_model.proofs.Staying.{sound_memory}
use Rattle.aegis_calls.proofs.Runner.{runner_live}
use Rattle.aegis_calls.proofs.board.Board.allocate.Goals as goal

pub invariant_of-self : goal.invariant_of-self
invariant_of-self c =
    let b = c.self.inside in
    let e = c.args.env in
    let page = c.args.page in
    let row = Owned e c.args.words in
    let may = subst (λ (s : Shown). MayAllocate (book_of s) page) (sym c.self.view_is) c.requires.may in
    let lives = runner_live c.self.view_is c.self.invariant c.requires.runs in
    let taken = c.alloc_at.ensures.after ∙ ap (λ (why : Option PageNo). changed_unless why b.pages page row) (allocable b.pages page may.there may.free) in
    rw (c.zero.ensures, taken)
    (sound_memory _ _ b.bindings b.claims b.revocations (record { rows = b.machine.tlb; random = b.machine.cp0.random; fills = b.fills })
    (page_parted b.frames _ b.roster.list _ zero_page
    (row_parted b.frames b.pages b.roster.list page row (free_to_all (row_in b.pages page) may.free) c.self.invariant.memory))
    (owned_booked b.pages b.bindings b.roster page e c.args.words may.there lives c.self.invariant.books)
    (allocated_claimed b.claims b.pages b.roster page e c.args.words may.there may.free c.self.invariant.claims)
    (allocated_asked b.revocations b.pages page e c.args.words may.there may.free c.self.invariant.revocations)
    (same_size_rows b.frames _ b.roster.list b.bindings b.machine.tlb (length-set b.frames page zero_page) c.self.invariant.rows) c.self.invariant)
