-- What a store does to the pages that each environment sees.
use Rattle.std.proofs.Common.{◌≡◌, ◌≢◌, ℕ, ◌/◌, ◌%◌, ◌<◌, List, [], ◌∷◌, length, Bool, true, false, Option, Some, None, refl, sym, ◌∙◌, ap, subst, get_or-set_same, get_or-set_other, rules}
use Rattle.std.specs.Prelude.{◌==◌, if◌then◌else◌, slice_get}
use Rattle.std.specs.Option.{option_map}
use Rattle.std.proofs.lemmas.Bool.{eqb-true}
use Rattle.mips_exec.specs.Access.{Write}
use Rattle.aegis_limits.specs.Limits.{page_size}
use Rattle.frame_store.specs.Pages.{page_at, after_put, with_bytes}
use Rattle.page_book.specs.declared.row.PageRow.{PageRow}
use Rattle.page_book.specs.declared.row.PageRow.TheVariants.{Guaranteed}
use Rattle.page_book.specs.Row.{is_owned_by}
use Rattle.page_book.specs.Rows.{row_in}
use Rattle.bind_book.specs.declared.binding.Binding.{Binding}
use Rattle.bind_book.specs.Stripe.{Stripes, is_bound, stripes}
use Rattle.env_frames.specs.declared.mapping.Mapping.{Mapping}
use Rattle.env_frames.specs.Frame.{mapping_at}
use Rattle.guest_memory.specs.Look.{written_through}
use Rattle.world_model.specs.Table.{set_at}
use Rattle.world_model.specs.Page.{KeptPage}
use Rattle.world_model.specs.Solo.{Store, Kept, kept_at, kept_after, kept_page_after}
use Rattle.page_laws.specs.Sight.{seen_if, seen_in}
use Rattle.page_laws.proofs.Stripes.{bound_nowhere}
use Rattle.page_laws.proofs.Tables.{by_number, set_here, set_else}
use Rattle.board_model.specs.declared.roster.Environment.{Environment}
use Rattle.board_model.specs.Shown.{Environments, mappings_of}
use Rattle.board_model.specs.Showing.{page_seen, pages_seen}
use Rattle.board_model.specs.Sound.{PagesAgree, BooksAgree, IsOwned}
use Rattle.board_model.proofs.Pages.{its_store, stored_own, stored_else, placed, one_place, seen_kept}
use Rattle.board_model.proofs.Seen.{guaranteed_there}

-- what stands at one place is one mapping
same_mapping : (ns : List Mapping) (a k : ℕ) (n m : Mapping) → a ≡ k → slice_get ns a ≡ Some n → slice_get ns k ≡ Some m → n ≡ m
same_mapping ns a k n m same at_a at_k = let both : Some n ≡ Some m = sym at_a ∙ ap (slice_get ns) same ∙ at_k in cc

-- physical memory as a table, after bytes were put into a page
pub put_table : (frames : List (List ℕ)) (n offset : ℕ) (bytes : List ℕ) → n < length frames → (p : ℕ) → page_at (after_put frames n offset bytes) p ≡ set_at n (with_bytes (page_at frames n) offset bytes) (page_at frames) p
put_table frames n offset bytes within = search (rules, by_number, get_or-set_same, set_here, get_or-set_other, set_else)

pub kept_without : (kept : List KeptPage) (x : Store) (v : ℕ) → x.key ≡ Kept v → kept_at kept v ≡ None → kept_after kept x ≡ kept
kept_without [] x v key none = refl
kept_without (p ∷ kept) x v key none = by_test (p.vpn == v) refl none (λ further. kept_without kept x v key further)
  where
    by_test : (here : Bool) → (p.vpn == v) ≡ here → (if here then Some p else kept_at kept v) ≡ None → (kept_at kept v ≡ None → kept_after kept x ≡ kept) → kept_after (p ∷ kept) x ≡ p ∷ kept
    by_test true is none tail = cc
    by_test false is none tail =
        let head : kept_page_after x p ≡ p = rw (key, is) refl in
        let rest = tail none in
        cc

-- A store through a guaranteed mapping: there the page is the environment's own, and nobody else's page changes.
module _ (frames : List (List ℕ)) (pages : List PageRow) (list : List Environment) (parted : PagesAgree frames pages list) (e : ℕ) (w : Write) where
  pub own_kept : (y : Option Mapping) → mapping_at (mappings_of list e) (w.address / page_size) ≡ y → pages_seen (written_through frames w y) (mappings_of list e) ≡ kept_after (pages_seen frames (mappings_of list e)) (its_store w)
  own_kept None is =
      sym (kept_without (pages_seen frames (mappings_of list e)) (its_store w) (w.address / page_size) refl (seen_kept frames (mappings_of list e) (w.address / page_size) ∙ ap (option_map (page_seen frames)) is))
  own_kept (Some m) is =
      let there = placed (mappings_of list e) (w.address / page_size) m is in
      stored_own frames w m.page (guaranteed_there frames pages list parted e there.0 m there.1.place) (mappings_of list e)
      (λ a n at. record {
        here = λ same. ap (λ (y : Mapping). y.page) (same_mapping (mappings_of list e) a there.0 n m (one_place (mappings_of list e) a there.0 n m (parted.mapped e).rising at there.1.place (same ∙ sym there.1.number)) at there.1.place);
        elsewhere = λ differs same. differs (ap (λ (y : Mapping). y.vpn) (same_mapping (mappings_of list e) a there.0 n m ((parted.mapped e).apart a there.0 n m at there.1.place same) at there.1.place) ∙ there.1.number);
      })

  pub other_kept : (i : ℕ) → i ≢ e → (y : Option Mapping) → mapping_at (mappings_of list e) (w.address / page_size) ≡ y → pages_seen (written_through frames w y) (mappings_of list i) ≡ pages_seen frames (mappings_of list i)
  other_kept i ne None is = refl
  other_kept i ne (Some m) is =
      let there = placed (mappings_of list e) (w.address / page_size) m is in
      stored_else frames w m.page (guaranteed_there frames pages list parted e there.0 m there.1.place) (mappings_of list i)
      (λ a n at same.
      let both : Guaranteed i ≡ Guaranteed e = sym ((parted.mapped i).its a n at) ∙ ap (row_in pages) same ∙ (parted.mapped e).its there.0 m there.1.place in
      let one : i ≡ e = cc in ne one)

-- a page that is guaranteed isn't bound
pub guaranteed_unbound : (pages : List PageRow) (binds : Stripes) (r : Environments) → BooksAgree pages binds r → (i e page : ℕ) → row_in pages page ≡ Guaranteed e → is_bound page (stripes binds i) ≡ false
guaranteed_unbound pages binds r booked i e page is = search (rules, bound_nowhere, eqb-true)

-- what is neither owned nor bound isn't seen
unseen : (owned bound : Bool) (old new : List ℕ) → owned ≡ false → bound ≡ false → seen_if owned bound new ≡ seen_if owned bound old
unseen owned bound old new mine its = rw (mine, its) refl

-- bytes that are put into a page that an environment doesn't see leave what it sees
pub sights_stay : (i : ℕ) (pages : ℕ → PageRow) (stripe : ℕ → Option Binding) (old new : ℕ → List ℕ) (n : ℕ) → is_owned_by i (pages n) ≡ false → is_bound n stripe ≡ false → ((p : ℕ) → p ≢ n → new p ≡ old p) → (p : ℕ) → seen_in i pages stripe new p ≡ seen_in i pages stripe old p
sights_stay i pages stripe old new n mine its others = search (rules, by_number, unseen)

-- a store through a guaranteed mapping leaves what is seen of the other pages
module _ (frames : List (List ℕ)) (pages : List PageRow) (binds : Stripes) (r : Environments) (parted : PagesAgree frames pages r.list) (booked : BooksAgree pages binds r) (e : ℕ) (w : Write) where
  pub guaranteed_sights : (i : ℕ) (y : Option Mapping) → mapping_at (mappings_of r.list e) (w.address / page_size) ≡ y → (p : ℕ) → seen_in i (row_in pages) (stripes binds i) (page_at (written_through frames w y)) p ≡ seen_in i (row_in pages) (stripes binds i) (page_at frames) p
  guaranteed_sights i None is p = refl
  guaranteed_sights i (Some m) is p =
      let there = placed (mappings_of r.list e) (w.address / page_size) m is in
      let its : row_in pages m.page ≡ Guaranteed e = (parted.mapped e).its there.0 m there.1.place in
      sights_stay i (row_in pages) (stripes binds i) (page_at frames) (page_at (written_through frames w (Some m))) m.page
      (ap (is_owned_by i) its) (guaranteed_unbound pages binds r booked i e m.page its)
      (λ q ne. get_or-set_other frames m.page q (with_bytes (page_at frames m.page) (w.address % page_size) w.bytes) [] ne) p

-- A store through a binding changes no guaranteed page.
pub bound_kept : (frames : List (List ℕ)) (pages : List PageRow) (list : List Environment) → PagesAgree frames pages list → (i : ℕ) (w : Write) (n : ℕ) → n < length frames → IsOwned (row_in pages n) → pages_seen (after_put frames n (w.address % page_size) w.bytes) (mappings_of list i) ≡ pages_seen frames (mappings_of list i)
bound_kept frames pages list parted i w n within owned =
    stored_else frames w n within (mappings_of list i)
    (λ a m at same. absurd (subst IsOwned (ap (row_in pages) (sym same) ∙ (parted.mapped i).its a m at) owned))
