-- Bindings of a page, and the bytes of one that somebody owns.
use Rattle.std.proofs.Common.{◌≡◌, ℕ, ◌<◌, true, false, Option, None, List, refl, sym, ◌∙◌, ap, inl, inr}
use Rattle.std.specs.Prelude.{if◌then◌else◌, slice_get, slice_index_or, unwrap_or}
use Rattle.std.proofs.lemmas.Bool.{cases_lt, eq-eqb, le-ltb}
use Rattle.std.proofs.lemmas.Option.{unwrap_or-slice_get}
use Rattle.aegis_limits.specs.VersionLimits.{stripe_rows}
use Rattle.frame_store.specs.Pages.{page_at}
use Rattle.page_book.specs.declared.row.Capabilities.{Capabilities}
use Rattle.page_book.specs.declared.row.PageRow.{PageRow}
use Rattle.page_book.specs.declared.row.PageRow.TheVariants.{Free, Owned}
use Rattle.page_book.specs.Row.{is_owned_by, owner_of}
use Rattle.page_book.specs.Rows.{row_in}
use Rattle.bind_book.specs.Stripe.{Stripes, is_bound, is_of_page, stripe_place, stripes}
use Rattle.page_laws.specs.Sight.{seen_if}
use Rattle.page_laws.proofs.Stripes.{bound_nowhere}
use Rattle.world_model.specs.PageCalls.{bytes_owned, page_bytes}
use Rattle.world_model.specs.Solo.{Solo, bytes_seen}
use Rattle.board_model.specs.Shown.{Shown}
use Rattle.board_model.specs.Showing.{world_of}
use Rattle.board_model.specs.Sound.{IsSoundBoard}
use Rattle.board_model.proofs.Seen.{live_record, live_shown}

-- a page that isn't there is free
pub free_behind : (rows : List PageRow) (page : ℕ) → slice_get rows page ≡ None → row_in rows page ≡ Free
free_behind rows page none = sym (unwrap_or-slice_get rows page Free) ∙ ap (λ (o : Option PageRow). unwrap_or o Free) none

-- a page is bound in no row of a stripe, if in none of those that the version gives
pub unbound : (binds : Stripes) (e page : ℕ) → ((k : ℕ) → k < stripe_rows binds.version → is_of_page page (stripes binds e k) ≡ false)
    → is_bound page (stripes binds e) ≡ false
unbound binds e page none = bound_nowhere page (stripes binds e) each
  where
    each : (row : ℕ) → is_of_page page (stripes binds e row) ≡ false
    each row = elim (cases_lt row (stripe_rows binds.version)) [
      | inl within ↦ none row within
      | inr behind ↦ ap (λ t. is_of_page page (if t then slice_index_or binds.rows (stripe_place binds.version e row) None else None)) (le-ltb row (stripe_rows binds.version) behind)
    ]

-- its owner sees a page's bytes
pub owned_bytes : (b : Shown) (page owner : ℕ) (words : Capabilities) → IsSoundBoard b → row_in b.pages page ≡ Owned owner words
    → page_at b.frames page ≡ page_bytes (world_of b) page
owned_bytes b page owner words sound is =
    let live = sound.books.owners page owner (ap owner_of is) in
    let x = live_record b.roster.list owner live.1 in
    let own : is_owned_by owner (row_in b.pages page) ≡ true = ap (is_owned_by owner) is ∙ eq-eqb owner owner refl in
    ap (λ t. bytes_seen (seen_if t (is_bound page (stripes b.binds owner)) (page_at b.frames page))) (sym own)
    ∙ ap (λ (s : Solo). bytes_seen (s.seen page)) (sym (live_shown b owner x.0 x.1.0 x.1.1))
    ∙ ap (bytes_owned (world_of b) page) (sym is)
