-- Each item of each feed is fit to be shown.
use Rattle.std.proofs.Common.{◌≡◌, ◌≤◌, ◌+◌, ◌-◌, ◌^◌, ℕ, zero, suc, List, [], ◌∷◌, ◌++◌, length, map, Bool, true, false, Option, Some, None, inl, inr, refl, sym, ◌∙◌, ap, subst, arith}
use Rattle.std.specs.Prelude.{◌||◌, if◌then◌else◌, slice_get}
use Rattle.std.proofs.lemmas.Bool.{eq-eqb}
use Rattle.std.specs.List.{AllByRecursion, filter}
use Rattle.std.proofs.lemmas.List.Elements.{All-from_recursion}
use Rattle.aegis_limits.specs.Limits.{most_stack_pages, page_size, vpn_end}
use Rattle.aegis_limits.specs.VersionLimits.{most_pages_of}
use Rattle.aegis_limits.specs.declared.version.Version.{Version}
use Rattle.aegis_limits.specs.declared.version.Version.TheVariants.{One, Two}
use Rattle.boot_image.specs.Accepted.{IsAccepted, IsFitting}
use Rattle.boot_image.specs.ImageValue.{ProgramValue}
use Rattle.elf_static.specs.AcceptedElf.{IsSegment}
use Rattle.elf_static.specs.ElfValue.{ElfValue}
use Rattle.env_frames.specs.declared.transfer.TransferKind.{TransferKind}
use Rattle.env_frames.specs.Transfer.{Registers}
use Rattle.external_event.specs.declared.event.Occurrence.{Occurrence}
use Rattle.external_event.specs.declared.event.Occurrence.TheVariants as outside
use Rattle.feed_log.specs.Views.{ArePages, AreRegistersFit, AreWords, IsFit, IsRecordFit, IsWord}
use Rattle.page_book.specs.declared.row.PageRow.TheVariants.{Free}
use Rattle.page_book.specs.Row.{is_owned_by}
use Rattle.revocation_book.specs.Backups.{is_loaded}
use Rattle.revocation_book.specs.Takings.{TakingsAreTakable}
use Rattle.revocation_book.specs.declared.revocation.Taking.{Taking}
use Rattle.segment_pages.specs.Pages.{has_page, numbers_from, pages_from, vpns}
use Rattle.call_verdicts.specs.Granted.{AgainAsks, GrantedMay}
use Rattle.world_model.specs.Call.{any}
use Rattle.world_model.specs.Item.{Item, Boot, Transfer, Taken, absorb_all}
use Rattle.world_model.specs.Solo.{absent}
use Rattle.world_model.specs.Page.{KeptPage}
use Rattle.world_model.specs.Table.{listed}
use Rattle.world_model.specs.World.{World}
use Rattle.run_model.specs.Boot.{body_page, boot_items, kept_of, record_items, stack_page}
use Rattle.run_model.specs.Licensed.{AtEvent, FeedIsLicensed, IsEntered, IsTaken, LicensedAt, LicensedBehind, LicensedIn}
use Rattle.run_model.specs.Run.{System, feed, happens_in, moment, takings_in, world_after}
use Rattle.sharing_law.specs.Whole.{GuaranteedAreWhole}
use Rattle.sharing_law.proofs.Agreeing.{all_fine, moment_fine}
use Rattle.limits_law.specs.Fit.{ItemsAreFit}
use Rattle.limits_law.proofs.Places.{placed}
use Rattle.limits_law.proofs.Registers.{carried_fit, registers_fit}

-- ---- the record at boot

-- VPNs are words
numbers_words : (n count : ℕ) → n + count ≤ 2 ^ 32 → AreWords (numbers_from n count)
numbers_words n zero below = tt
numbers_words n (suc count) below = (omega (arith, below), numbers_words (n + 1) count (omega (arith, below)))

chosen_words : (test : ℕ → Bool) (numbers : List ℕ) → AreWords numbers → AreWords (filter test numbers)
chosen_words test [] words = tt
chosen_words test (n ∷ numbers) (first, rest) = by_test (test n) (chosen_words test numbers rest)
  where
    by_test : (b : Bool) → AreWords (filter test numbers) → AreWords (if b then n ∷ filter test numbers else filter test numbers)
    by_test true more = (first, more)
    by_test false more = more

vpns_words : (body : ElfValue) → AreWords (vpns body)
unfolding pages_from
vpns_words body = chosen_words (has_page body) (numbers_from 0 (vpn_end - 0)) (numbers_words 0 (vpn_end - 0) (omega arith))

abbrev HaveWords : List KeptPage → Type 0
HaveWords [] = Unit {0}
HaveWords (p ∷ pages) = IsWord p.vpn × HaveWords pages

body_words : (body : ElfValue) (numbers : List ℕ) (rest : List KeptPage) → AreWords numbers → HaveWords rest → HaveWords (map (body_page body) numbers ++ rest)
body_words body [] rest words more = more
body_words body (vpn ∷ numbers) rest (first, words) more = (first, body_words body numbers rest words more)

words_both : (xs ys : List KeptPage) → HaveWords xs → HaveWords ys → HaveWords (xs ++ ys)
words_both [] ys first next = next
words_both (x ∷ xs) ys (word, rest) next = (word, words_both xs ys rest next)

stack_words : (p : ProgramValue) (count : ℕ) → count ≤ p.stack → p.stack ≤ most_stack_pages → HaveWords (listed (stack_page p) count)
stack_words p zero within few = tt
stack_words p (suc count) within few =
    words_both (listed (stack_page p) count) (stack_page p count ∷ []) (stack_words p count (omega (arith, within)) few) (omega (arith, within, few), tt)

kept_words : (p : ProgramValue) → p.stack ≤ most_stack_pages → HaveWords (kept_of p)
kept_words p few = (omega arith, body_words p.body (vpns p.body) (listed (stack_page p) p.stack) (vpns_words p.body) (stack_words p p.stack (omega arith) few))

whole_pages : (kept : List KeptPage) → HaveWords kept → ((n : ℕ) (q : KeptPage) → slice_get kept n ≡ Some q → length q.bytes ≡ page_size) → ArePages kept
whole_pages [] words whole = tt
whole_pages (p ∷ kept) (word, words) whole = (word, whole 0 p refl, whole_pages kept words (λ n q is. whole (suc n) q is))

fitting : (programs : List ProgramValue) (e : ℕ) (p : ProgramValue) → AllByRecursion IsFitting programs → slice_get programs e ≡ Some p → IsFitting p
fitting [] e p all is = cc
fitting (q ∷ programs) zero p (first, rest) is = let same : q ≡ p = cc in subst IsFitting same first
fitting (q ∷ programs) (suc e) p (first, rest) is = fitting programs e p rest is

boot_fits : GuaranteedAreWhole → (system : System) (e n : ℕ) (item : Item) → IsAccepted system.image → slice_get (boot_items system.image e) n ≡ Some item → IsFit item
boot_fits whole system e n item accepted is = by_program (slice_get system.image.programs e) refl is
  where
    record_fits : (p : ProgramValue) → slice_get system.image.programs e ≡ Some p → IsRecordFit p.name p.body.entry p.accept (kept_of p)
    record_fits p there =
        let its = fitting system.image.programs e p accepted.programs there in
        let kept : ((world_after system 0).solos e).kept ≡ kept_of p = ap (λ (o : Option ProgramValue). (absorb_all (absent e) (record_items system.image.version e o)).kept) there in
        let found = its.body.entered in
        let segment : IsSegment found.1 = subst IsSegment found.3 (All-from_recursion IsSegment p.body.segments its.body.segments found.0 found.1 found.2) in
        record {
          name_whole = its.name_length;
          entry_word = omega (arith, segment.below, found.4.1);
          accept_word = its.accept;
          pages = whole_pages (kept_of p) (kept_words p its.stack) (λ m q at. whole system 0 0 e m q (ap (λ pages. slice_get pages m) kept ∙ at));
        }

    by_program : (o : Option ProgramValue) → slice_get system.image.programs e ≡ o → slice_get (record_items system.image.version e o) n ≡ Some item → IsFit item
    by_program None there is = cc
    by_program (Some p) there is = by_place n is
      where
        by_place : (m : ℕ) → slice_get (record_items system.image.version e (Some p)) m ≡ Some item → IsFit item
        by_place zero is = let same : Boot system.image.version e p.name p.body.entry p.accept (kept_of p) ≡ item = cc in subst IsFit same (record_fits p there)
        by_place (suc m) is = cc

-- no record is given later
module _ (version : Version) (number : ℕ) (name : List ℕ) (entry accept : ℕ) (kept : List KeptPage) where
  no_record_behind : (system : System) (t : ℕ) (xs : List Taking) (k : ℕ) (w : World) (e : ℕ) → LicensedBehind system t xs k w e (Boot version number name entry accept kept) → ⊥
  no_record_behind system t [] (suc (suc (suc (suc k)))) w e its = its
  no_record_behind system t [] k w e its = its
  no_record_behind system t (x ∷ xs) zero w e its = its
  no_record_behind system t (x ∷ xs) (suc k) w e its = no_record_behind system t xs k w e its

  no_record_from : (what : Occurrence) (w : World) (e : ℕ) → AtEvent what w e (Boot version number name entry accept kept) → ⊥
  no_record_from (outside.Packet packet) w e its = its
  no_record_from (outside.Line line) w e its = its
  no_record_from (outside.Revoke env count grace) w e its = its

  no_record : (system : System) (t : ℕ) (happens : List Occurrence) (xs : List Taking) (k : ℕ) (w : World) (e : ℕ) → LicensedIn system t happens xs k w e (Boot version number name entry accept kept) → ⊥
  no_record system t [] xs k w e its = no_record_behind system t xs k w e its
  no_record system t (what ∷ happens) xs zero w e its = no_record_from what w e its
  no_record system t (what ∷ happens) xs (suc k) w e its = no_record system t happens xs k w e its

-- ---- a transfer
module _ (from : ℕ) (kind : TransferKind) (registers : Registers) where
  entered_behind : (system : System) (t : ℕ) (xs : List Taking) (k : ℕ) (w : World) (e : ℕ) → LicensedBehind system t xs k w e (Transfer from kind registers) → IsEntered w e from kind registers
  entered_behind system t [] (suc (suc zero)) w e its = its
  entered_behind system t [] (suc (suc (suc (suc k)))) w e its = absurd its
  entered_behind system t [] (suc (suc (suc zero))) w e its = absurd its
  entered_behind system t [] (suc zero) w e its = absurd its
  entered_behind system t [] zero w e its = absurd its
  entered_behind system t (x ∷ xs) zero w e its = absurd its
  entered_behind system t (x ∷ xs) (suc k) w e its = entered_behind system t xs k w e its

  never_entered : (what : Occurrence) (w : World) (e : ℕ) → AtEvent what w e (Transfer from kind registers) → ⊥
  never_entered (outside.Packet packet) w e its = its
  never_entered (outside.Line line) w e its = its
  never_entered (outside.Revoke env count grace) w e its = its

  entered_in : (system : System) (t : ℕ) (happens : List Occurrence) (xs : List Taking) (k : ℕ) (w : World) (e : ℕ) → LicensedIn system t happens xs k w e (Transfer from kind registers) → IsEntered w e from kind registers
  entered_in system t [] xs k w e its = entered_behind system t xs k w e its
  entered_in system t (what ∷ happens) xs zero w e its = absurd (never_entered what w e its)
  entered_in system t (what ∷ happens) xs (suc k) w e its = entered_in system t happens xs k w e its

-- ---- a page that is taken
module _ (page : ℕ) (backup : Option ℕ) where
  taken_behind : (system : System) (t : ℕ) (xs : List Taking) (k : ℕ) (w : World) (e : ℕ) → LicensedBehind system t xs k w e (Taken page backup) → (x : Taking) × IsTaken w x e page backup
  taken_behind system t [] (suc (suc (suc (suc k)))) w e its = absurd its
  taken_behind system t [] (suc (suc (suc zero))) w e its = absurd its
  taken_behind system t [] (suc (suc zero)) w e its = absurd its
  taken_behind system t [] (suc zero) w e its = absurd its
  taken_behind system t [] zero w e its = absurd its
  taken_behind system t (x ∷ xs) zero w e its = (x, its)
  taken_behind system t (x ∷ xs) (suc k) w e its = taken_behind system t xs k w e its

  never_taken : (what : Occurrence) (w : World) (e : ℕ) → AtEvent what w e (Taken page backup) → ⊥
  never_taken (outside.Packet packet) w e its = its
  never_taken (outside.Line line) w e its = its
  never_taken (outside.Revoke env count grace) w e its = its

  taken_in : (system : System) (t : ℕ) (happens : List Occurrence) (xs : List Taking) (k : ℕ) (w : World) (e : ℕ) → LicensedIn system t happens xs k w e (Taken page backup) → (x : Taking) × IsTaken w x e page backup
  taken_in system t [] xs k w e its = taken_behind system t xs k w e its
  taken_in system t (what ∷ happens) xs zero w e its = absurd (never_taken what w e its)
  taken_in system t (what ∷ happens) xs (suc k) w e its = taken_in system t happens xs k w e its

pub first_loaded : (pages : List ℕ) (page : ℕ) → slice_get pages 0 ≡ Some page → is_loaded pages page ≡ true
first_loaded [] page is = cc
first_loaded (p ∷ pages) page is = let same : p ≡ page = cc in ap (λ (b : Bool). b || is_loaded pages page) (eq-eqb p page same)

few_pages : (v : Version) → most_pages_of v ≤ 4096
few_pages One = omega arith
few_pages Two = omega arith

module _ (granted : GrantedMay) (again : AgainAsks) (takable : TakingsAreTakable) (whole : GuaranteedAreWhole) (licensed : FeedIsLicensed) (system : System) (accepted : IsAccepted system.image) where
  backup_below : (t k e page : ℕ) (backup : Option ℕ) → ((x : Taking) × IsTaken (moment system t k) x e page backup) → backup ≡ Some any → ⊥
  backup_below t k e page backup (x, its) is =
      let w = moment system t k in
      let fine = moment_fine granted again takable system t (all_fine granted again takable system t) k in
      let sizes = placed system accepted.slots_least t k in
      let same : x.backup ≡ Some any = ap (λ (y : Taking). y.backup) its.its ∙ is in
      let loaded = first_loaded (w.book.backups x.env) any (sym its.may.first ∙ same) in
      let owned : is_owned_by x.env (w.book.pages any) ≡ true = fine.backed.owned x.env any loaded in
      let free : w.book.pages any ≡ Free = fine.sound.behind any (omega (arith, sizes.count, accepted.pages_most, few_pages system.image.version)) in
      let never : false ≡ true = sym (ap (is_owned_by x.env) free) ∙ owned in
      cc

  phase_fits : (t k e : ℕ) (item : Item) → LicensedAt system t k e item → IsFit item
  phase_fits t k e (Boot version number name entry accept kept) its =
      absurd (no_record version number name entry accept kept system t (happens_in system.schedule (world_after system t)) (takings_in system t) k (moment system t k) e its)
  phase_fits t k e (Transfer from kind registers) its =
      let entered = entered_in from kind registers system t (happens_in system.schedule (world_after system t)) (takings_in system t) k (moment system t k) e its in
      subst AreRegistersFit (sym entered.its) (carried_fit ((moment system t k).solos from) (registers_fit system t k from))
  phase_fits t k e (Taken page backup) its =
      backup_below t k e page backup (taken_in page backup system t (happens_in system.schedule (world_after system t)) (takings_in system t) k (moment system t k) e its)
  phase_fits t k e item its = tt

  fits : (e t n : ℕ) (item : Item) → slice_get (feed system e t) n ≡ Some item → IsFit item
  fits e t n item is = elim (licensed system t e n item is) [
    | inl boot ↦ boot_fits whole system e n item accepted boot.there
    | inr given ↦ phase_fits given.tick given.phase e item given.licence
  ]

pub items_are_fit : GrantedMay → AgainAsks → TakingsAreTakable → GuaranteedAreWhole → FeedIsLicensed → ItemsAreFit
items_are_fit granted again takable whole licensed system e t n item accepted is = fits granted again takable whole licensed system accepted e t n item is
