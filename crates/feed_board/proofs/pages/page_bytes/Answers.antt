-- A page that somebody owns is there, and its owner sees its bytes; of another there are none.
use Rattle.std.proofs.Common.{◌≡◌, ◌<◌, inl, inr, length, arith, ap, sym, ◌∙◌}
use Rattle.std.proofs.lemmas.Option.{get_or_from_slice_get, slice_get_within}
use Rattle.frame_store.specs.Pages.{page_at}
use Rattle.page_book.specs.declared.row.PageRow.TheVariants.{Free}
use Rattle.page_book.specs.Rows.{row_in}
use Rattle.world_model.specs.PageCalls.{bytes_owned}
use Rattle.board_model.specs.Showing.{world_of}
use Rattle.feed_board.proofs.Paging.{free_behind, owned_bytes}
use Rattle.feed_board.proofs.pages.page_bytes.Goals as goal

pub returns-in_default : goal.returns-in_default
returns-in_default c =
    let page = c.args.page in
    let free = ap (λ pages. row_in pages page) (sym c.pages.ensures) ∙ free_behind c.pages.result.now page (sym c.row.ensures ∙ c.in_default.is) in
    sym (ap (bytes_owned (world_of c.args.board.now) page) free)

pub page-requires : goal.page-requires
page-requires c =
    let within : c.args.page < length c.pages.result.now = slice_get_within c.pages.result.now c.args.page c.in-Some.row (sym c.row.ensures ∙ c.in-Some.is) in
    let there : c.args.page < length c.args.board.now.pages = rw c.pages.ensures at within in
    rw c.frames.ensures (omega (arith, there, c.law_sound.ensures.memory.same))

pub returns-in-Owned : goal.returns-in-Owned
returns-in-Owned c =
    let page = c.args.page in
    let row : row_in c.args.board.now.pages page ≡ c.in-Some.row = ap (λ pages. row_in pages page) (sym c.pages.ensures) ∙ get_or_from_slice_get c.pages.result.now page c.in-Some.row Free (sym c.row.ensures ∙ c.in-Some.is) in
    c.page.ensures.bytes
    ∙ ap (λ frames. page_at frames page) c.frames.ensures
    ∙ owned_bytes c.args.board.now page c.in-Owned.owner c.in-Owned.words c.law_sound.ensures (row ∙ c.in-Owned.is)

pub returns-in-Free : goal.returns-in-Free
returns-in-Free c =
    let page = c.args.page in
    let row : row_in c.args.board.now.pages page ≡ c.in-Some.row = ap (λ pages. row_in pages page) (sym c.pages.ensures) ∙ get_or_from_slice_get c.pages.result.now page c.in-Some.row Free (sym c.row.ensures ∙ c.in-Some.is) in
    elim c.in-Free.is [
      | inl free ↦ sym (ap (bytes_owned (world_of c.args.board.now) page) (row ∙ free))
      | inr kept ↦ sym (ap (bytes_owned (world_of c.args.board.now) page) (row ∙ kept.1))
    ]
