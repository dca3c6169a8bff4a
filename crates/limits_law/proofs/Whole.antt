-- All pages that environments see are whole, where events are within their limits.
use Rattle.std.proofs.Common.{◌≡◌, ◌<◌, ℕ, suc, List, [], ◌∷◌, length, Bool, true, false, Option, Some, None, refl, sym, ◌∙◌, ap, arith}
use Rattle.std.specs.Prelude.{◌==◌, if◌then◌else◌, slice_get}
use Rattle.std.specs.Option.{option_map, option_or}
use Rattle.std.proofs.lemmas.Bool.{eq-eqb}
use Rattle.aegis_limits.specs.Limits.{most_stripe_rows, page_size}
use Rattle.aegis_limits.specs.VersionLimits.{stripe_rows}
use Rattle.aegis_limits.specs.declared.version.Version.{Version}
use Rattle.aegis_limits.specs.declared.version.Version.TheVariants.{One, Two}
use Rattle.page_book.specs.declared.row.PageRow.{PageRow}
use Rattle.page_book.specs.declared.row.PageRow.TheVariants.{Free, Guaranteed, Owned}
use Rattle.page_book.specs.Row.{is_owned_by}
use Rattle.bind_book.specs.declared.binding.Binding.{Binding}
use Rattle.bind_book.specs.Stripe.{binding_at, is_bound, is_of_page, of_number, row_of}
use Rattle.revocation_book.specs.Takings.{TakingsAreTakable}
use Rattle.call_verdicts.specs.Granted.{AgainAsks, GrantedMay}
use Rattle.world_model.specs.Page.{KeptPage, Mapped}
use Rattle.world_model.specs.PageCalls.{page_bytes}
use Rattle.world_model.specs.Solo.{Solo, bound_place, bytes_in, bytes_seen, kept_at, mapped, place_at}
use Rattle.world_model.specs.World.{World}
use Rattle.run_model.specs.Run.{System, moment}
use Rattle.page_laws.specs.Sight.{seen_if}
use Rattle.page_laws.proofs.Stripes.{bound_somewhere}
use Rattle.sharing_law.specs.Agreement.{IsAllocated}
use Rattle.sharing_law.specs.Whole.{AreEventsWithinLimits, GuaranteedAreWhole, PagesAreWhole}
use Rattle.sharing_law.proofs.Agreeing.{Fine, all_fine, moment_fine}
use Rattle.limits_law.proofs.Frames.{AllSeeWhole, SeesWhole}

-- a guaranteed page that is found is one of them
found_whole : (kept : List KeptPage) (vpn : ℕ) (p : KeptPage) → ((n : ℕ) (q : KeptPage) → slice_get kept n ≡ Some q → length q.bytes ≡ page_size) → kept_at kept vpn ≡ Some p → length p.bytes ≡ page_size
found_whole [] vpn p whole is = cc
found_whole (q ∷ kept) vpn p whole is = by_test (q.vpn == vpn) (found_whole kept vpn p (λ n r there. whole (suc n) r there)) is
  where
    by_test : (b : Bool) → (kept_at kept vpn ≡ Some p → length p.bytes ≡ page_size) → (if b then Some q else kept_at kept vpn) ≡ Some p → length p.bytes ≡ page_size
    by_test true rest its = whole 0 p its
    by_test false rest its = rest its

row_within : (v : Version) (vpn : ℕ) → row_of v vpn < most_stripe_rows
unfolding stripe_rows
row_within One vpn = omega arith
row_within Two vpn = omega arith

named_page : (vpn : ℕ) (o : Option Binding) (b : Binding) → of_number vpn o ≡ Some b → o ≡ Some b
named_page vpn None b is = cc
named_page vpn (Some c) b is = by_test (c.vpn == vpn) is
  where
    by_test : (t : Bool) → (if t then Some c else None) ≡ Some b → Some c ≡ Some b
    by_test true its = its
    by_test false its = cc

seen_bytes : (owned bound : Bool) (bytes : List ℕ) → bound ≡ true → bytes_seen (seen_if owned bound bytes) ≡ bytes
seen_bytes true bound bytes is = refl
seen_bytes false true bytes is = refl
seen_bytes false false bytes is = cc

module _ (granted : GrantedMay) (again : AgainAsks) (takable : TakingsAreTakable) (guaranteed : GuaranteedAreWhole) (whole : PagesAreWhole) (system : System) (within : AreEventsWithinLimits system.schedule) (t k e : ℕ) where
  abbrev w : World
  w = moment system t k

  abbrev s : Solo
  s = w.solos e

  fine : Fine w
  fine = moment_fine granted again takable system t (all_fine granted again takable system t) k

  row_whole : (page : ℕ) (row : PageRow) → w.book.pages page ≡ row → IsAllocated row → length (page_bytes w page) ≡ page_size
  row_whole page Free is its = absurd its
  row_whole page (Guaranteed owner) is its = absurd its
  row_whole page (Owned owner words) is its = whole system t k page owner within (ap (is_owned_by owner) is ∙ eq-eqb owner owner refl)

  bound_whole : (vpn : ℕ) (b : Binding) → binding_at s.version s.binds vpn ≡ Some b → length (bytes_seen (s.seen b.page)) ≡ page_size
  bound_whole vpn b is =
      let row = row_of s.version vpn in
      let agreed = fine.sound.agreed e in
      let there : w.book.binds e row ≡ Some b = sym (agreed.binds row) ∙ named_page vpn (s.binds row) b is in
      let bound : is_bound b.page (w.book.binds e) ≡ true = bound_somewhere b.page (w.book.binds e) row (row_within s.version vpn) (ap (is_of_page b.page) there ∙ eq-eqb b.page b.page refl) in
      ap (λ o. length (bytes_seen o)) (agreed.seen b.page)
      ∙ ap length (seen_bytes (is_owned_by e (w.book.pages b.page)) (is_bound b.page (w.book.binds e)) (page_bytes w b.page) bound)
      ∙ row_whole b.page (w.book.pages b.page) refl (fine.allocated e row b there)

  by_place : (vpn : ℕ) (m : Mapped) (o : Option KeptPage) → kept_at s.kept vpn ≡ o → (p : Option Binding) → binding_at s.version s.binds vpn ≡ p
      → option_map (mapped s) (option_or (option_map (place_at vpn) o) (option_map bound_place p)) ≡ Some m → length m.bytes ≡ page_size
  by_place vpn m (Some q) is p binds seen =
      let same : mapped s (place_at vpn q) ≡ m = cc in
      ap (λ (x : Mapped). length x.bytes) (sym same) ∙ ap (λ (x : Option KeptPage). length (bytes_in x)) is ∙ found_whole s.kept vpn q (λ n r there. guaranteed system t k e n r there) is
  by_place vpn m None is (Some b) binds seen =
      let same : mapped s (bound_place b) ≡ m = cc in
      ap (λ (x : Mapped). length x.bytes) (sym same) ∙ bound_whole vpn b binds
  by_place vpn m None is None binds seen = cc

  sees_whole : SeesWhole s
  sees_whole vpn m is = by_place vpn m (kept_at s.kept vpn) refl (binding_at s.version s.binds vpn) refl is

pub all_see_whole : GrantedMay → AgainAsks → TakingsAreTakable → GuaranteedAreWhole → PagesAreWhole → (system : System) → AreEventsWithinLimits system.schedule → (t k : ℕ) → AllSeeWhole (moment system t k)
all_see_whole granted again takable guaranteed whole system within t k e = sees_whole granted again takable guaranteed whole system within t k e
