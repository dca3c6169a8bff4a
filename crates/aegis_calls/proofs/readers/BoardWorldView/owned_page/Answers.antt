-- The bytes of a page are seen by whom it is owned.
use Rattle.std.proofs.Common.{◌≡◌, ◌<◌, ℕ, Bool, Option, Some, None, List, length, sym, ap, ◌∙◌, rules}
use Rattle.std.specs.Prelude.{if◌then◌else◌, unwrap_or}
use Rattle.std.proofs.lemmas.Option.{get_or_from_slice_get, slice_get_cases, unwrap_or-slice_get}
use Rattle.frame_store.specs.Pages.{page_at}
use Rattle.page_book.specs.declared.row.PageRow.{PageRow}
use Rattle.page_book.specs.declared.row.PageRow.TheVariants.{Free}
use Rattle.page_book.specs.Row.{is_owned_by}
use Rattle.page_book.specs.Rows.{row_in}
use Rattle.page_laws.specs.Sight.{seen_if}
use Rattle.board_model.specs.Shown.{Shown}
use Rattle.board_model.specs.Showing.{solo_of}
use Rattle.world_model.specs.View.{owned_bytes}
use Rattle.aegis_calls.proofs.readers.BoardWorldView.owned_page.Goals as goal

-- the bytes of a page that is owned or not
abbrev bytes_if : Bool → List ℕ → Option (List ℕ)
bytes_if owned bytes = if owned then Some bytes else None

seen_bytes : (owned bound : Bool) (bytes : List ℕ) → owned_bytes (seen_if owned bound bytes) ≡ bytes_if owned bytes
seen_bytes owned bound bytes = search rules

-- of a page with this row
row_bytes : (b : Shown) (e page : ℕ) (row : PageRow) → e < length b.roster.list → row_in b.pages page ≡ row → owned_bytes ((solo_of b e).seen page) ≡ bytes_if (is_owned_by e row) (page_at b.frames page)
row_bytes b e page row there is = search (rules, slice_get_cases, seen_bytes)

pub returns-in_err-row : goal.returns-in_err-row
returns-in_err-row c =
    let b = c.args.self.now in
    let page = c.args.page in
    let free : row_in b.pages page ≡ Free =
    ap (λ (s : Shown). row_in s.pages page) (sym c.self.view_is)
    ∙ sym (unwrap_or-slice_get c.self.inside.pages page Free)
    ∙ ap (λ (o : Option PageRow). unwrap_or o Free) (sym c.row.ensures ∙ c.in_err-row.was) in
    rw c.from_residual.ensures (sym (row_bytes b c.args.env page Free c.requires.env free))

pub returns-then-is_owned : goal.returns-then-is_owned
returns-then-is_owned c =
    let b = c.args.self.now in
    let page = c.args.page in
    let row = c.in_ok-row.row in
    let is : row_in b.pages page ≡ row = ap (λ (s : Shown). row_in s.pages page) (sym c.self.view_is) ∙ get_or_from_slice_get c.self.inside.pages page row Free (sym c.row.ensures ∙ c.in_ok-row.was) in
    ap Some (c.page.ensures.bytes ∙ ap (λ (s : Shown). page_at s.frames page) c.self.view_is)
    ∙ ap (λ (owned : Bool). bytes_if owned (page_at b.frames page)) (sym c.if-is_owned.true ∙ c.is_owned.ensures)
    ∙ sym (row_bytes b c.args.env page row c.requires.env is)

pub returns-else-is_owned : goal.returns-else-is_owned
returns-else-is_owned c = search (rules, get_or_from_slice_get, row_bytes)
