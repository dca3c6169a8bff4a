-- Pages, packets and lines in feeds are within their limits.
use Rattle.std.proofs.Common.{◌≡◌, ◌<◌, ℕ, zero, suc, List, [], ◌∷◌, length, true, false, Option, Some, None, inl, inr, refl, sym, ◌∙◌, ap, subst, arith}
use Rattle.std.specs.Prelude.{IfSome, slice_get}
use Rattle.std.proofs.lemmas.Bool.{cases_lt, eqb-true, ltb-true, or_cases}
use Rattle.std.proofs.lemmas.Option.{slice_get_within}
use Rattle.boot_image.specs.ImageValue.{ProgramValue}
use Rattle.bind_book.specs.declared.binding.Binding.{Binding}
use Rattle.bind_book.specs.Stripe.{is_bound, is_of_page}
use Rattle.external_event.specs.declared.event.Occurrence.{Occurrence}
use Rattle.external_event.specs.declared.event.Occurrence.TheVariants as outside
use Rattle.external_event.specs.EventValue.{is_occurrence}
use Rattle.external_event.specs.Limits.{lines}
use Rattle.external_event.specs.Packet.{is_packet}
use Rattle.page_book.specs.declared.row.PageRow.{PageRow}
use Rattle.page_book.specs.declared.row.PageRow.TheVariants.{Free}
use Rattle.page_book.specs.Row.{is_owned_by}
use Rattle.page_laws.proofs.Stripes.{bound_row}
use Rattle.revocation_book.specs.Takings.{TakingsAreTakable}
use Rattle.revocation_book.specs.declared.revocation.Taking.{Taking}
use Rattle.call_verdicts.specs.Granted.{AgainAsks, GrantedMay}
use Rattle.world_model.specs.Book.{sees}
use Rattle.world_model.specs.Item.{Item, Boot, Start, End, Killed, Gained, Lost, Left, Packet, Line, Taken}
use Rattle.world_model.specs.World.{World}
use Rattle.run_model.specs.Boot.{boot_items, kept_of, record_items}
use Rattle.run_model.specs.Licensed.{AtEvent, AtStep, AtTaking, AtTimer, AtTurn, FeedIsLicensed, IsTaken, LicensedBehind, LicensedIn}
use Rattle.run_model.specs.Run.{System, happens_in, moment, takings_in, world_after}
use Rattle.sharing_law.specs.Agreement.{IsAllocated}
use Rattle.sharing_law.proofs.Agreeing.{Fine, all_fine, moment_fine}
use Rattle.limits_law.specs.Numbers.{HasNumbersWithin, NumbersAreWithin}
use Rattle.limits_law.proofs.Fit.{first_loaded}
use Rattle.limits_law.proofs.Places.{IsPlaced, placed}

owned_not_free : (e : ℕ) (row : PageRow) → is_owned_by e row ≡ true → row ≡ Free → ⊥
owned_not_free e row owned free = let never : false ≡ true = sym (ap (is_owned_by e) free) ∙ owned in cc

module _ (system : System) (w : World) (fine : Fine w) (sized : IsPlaced (length system.image.slots) system.image.pages w.book) where
  there : (page : ℕ) → (w.book.pages page ≡ Free → ⊥) → page < system.image.pages
  there page held = elim (cases_lt page w.book.page_count) [
    | inl below ↦ omega (arith, below, sized.count)
    | inr past ↦ absurd (held (fine.sound.behind page past))
  ]

  owned_there : (e page : ℕ) → is_owned_by e (w.book.pages page) ≡ true → page < system.image.pages
  owned_there e page owned = there page (owned_not_free e (w.book.pages page) owned)

  bound_there : (e page : ℕ) → is_bound page (w.book.binds e) ≡ true → page < system.image.pages
  bound_there e page bound = there page (by_binding (w.book.binds e (bound_row page (w.book.binds e) bound).0) refl (bound_row page (w.book.binds e) bound).1)
    where
      by_binding : (o : Option Binding) → w.book.binds e (bound_row page (w.book.binds e) bound).0 ≡ o → is_of_page page o ≡ true → w.book.pages page ≡ Free → ⊥
      by_binding None is its free = cc
      by_binding (Some b) is its free =
          let allocated = fine.allocated e (bound_row page (w.book.binds e) bound).0 b is in
          subst IsAllocated (ap w.book.pages (eqb-true b.page page its) ∙ free) allocated

  seen_there : (e page : ℕ) → sees w.book e page ≡ true → page < system.image.pages
  seen_there e page seen = elim (or_cases (is_owned_by e (w.book.pages page)) (is_bound page (w.book.binds e)) seen) [
    | inl owned ↦ owned_there e page owned
    | inr bound ↦ bound_there e page bound
  ]

  abbrev Within : Item → Type 0
  Within item = HasNumbersWithin system.image item

  -- the step, and the timer
  at_step : (t e : ℕ) (item : Item) → AtStep system t w e item → Within item
  at_step t e (Boot version number name entry accept kept) its = absurd its
  at_step t e (Gained page writable bytes) (inl its) = omega (arith, its.may.there, sized.count)
  at_step t e (Gained page writable bytes) (inr its) = omega (arith, its.may.there, its.its, sized.count)
  at_step t e (Lost page) (inl its) = omega (arith, its.may.there, sized.count)
  at_step t e (Lost page) (inr its) = bound_there e page its.has.bound
  at_step t e (Left page offset bytes) its = seen_there e page its.seen
  at_step t e (Packet claim packet) its = absurd its
  at_step t e (Line line) its = absurd its
  at_step t e (Taken page backup) its = absurd its
  at_step t e item its = tt

  at_timer : (e : ℕ) (item : Item) → AtTimer w e item → Within item
  at_timer e (Lost page) its = bound_there e page its.has.bound
  at_timer e End its = tt
  at_timer e Killed its = tt
  at_timer e (Boot version number name entry accept kept) its = absurd its
  at_timer e (Gained page writable bytes) its = absurd its
  at_timer e (Left page offset bytes) its = absurd its
  at_timer e (Packet claim packet) its = absurd its
  at_timer e (Line line) its = absurd its
  at_timer e (Taken page backup) its = absurd its
  at_timer e item its = tt

  at_turn : (e : ℕ) (item : Item) → AtTurn w e item → Within item
  at_turn e Start its = tt
  at_turn e (Boot version number name entry accept kept) its = absurd its
  at_turn e (Gained page writable bytes) its = absurd its
  at_turn e (Lost page) its = absurd its
  at_turn e (Left page offset bytes) its = absurd its
  at_turn e (Packet claim packet) its = absurd its
  at_turn e (Line line) its = absurd its
  at_turn e (Taken page backup) its = absurd its
  at_turn e item its = tt

  -- a taking
  backup_there : (x : Taking) (e page : ℕ) (backup : Option ℕ) → IsTaken w x e page backup → IfSome backup (λ into. into < system.image.pages)
  backup_there x e page None its = tt
  backup_there x e page (Some into) its =
      let same : x.backup ≡ Some into = ap (λ (y : Taking). y.backup) its.its in
      let loaded = first_loaded (w.book.backups x.env) into (sym its.may.first ∙ same) in
      owned_there x.env into (fine.backed.owned x.env into loaded)

  into_there : (x : Taking) (page : ℕ) → x.backup ≡ Some page → x.backup ≡ slice_get (w.book.backups x.env) 0 → page < system.image.pages
  into_there x page into first = owned_there x.env page (fine.backed.owned x.env page (first_loaded (w.book.backups x.env) page (sym first ∙ into)))

  at_taking : (x : Taking) (e : ℕ) (item : Item) → AtTaking x w e item → Within item
  at_taking x e (Taken page backup) its =
      let same : x.page ≡ page = ap (λ (y : Taking). y.page) its.its in
      (owned_there x.env page (subst (λ (n : ℕ). is_owned_by x.env (w.book.pages n) ≡ true) same its.may.owned), backup_there x e page backup its)
  at_taking x e (Lost page) its = bound_there e page its.has.bound
  at_taking x e (Left page offset bytes) its = into_there x page its.into its.may.first
  at_taking x e (Boot version number name entry accept kept) its = absurd its
  at_taking x e (Gained page writable bytes) its = absurd its
  at_taking x e (Packet claim packet) its = absurd its
  at_taking x e (Line line) its = absurd its
  at_taking x e item its = tt

  -- an event
  at_event : (what : Occurrence) (e : ℕ) (item : Item) → is_occurrence what ≡ true → AtEvent what w e item → Within item
  at_event (outside.Packet packet) e (Packet claim given) within its = ap is_packet its.same ∙ within
  at_event (outside.Packet packet) e (Left page offset bytes) within its = seen_there e page its.seen
  at_event (outside.Packet packet) e (Boot version number name entry accept kept) within its = absurd its
  at_event (outside.Packet packet) e (Gained page writable bytes) within its = absurd its
  at_event (outside.Packet packet) e (Lost page) within its = absurd its
  at_event (outside.Packet packet) e (Line line) within its = absurd its
  at_event (outside.Packet packet) e (Taken page backup) within its = absurd its
  at_event (outside.Packet packet) e item within its = tt
  at_event (outside.Line raised) e (Line line) within its = let below = ltb-true raised lines within in omega (arith, below, its.same)
  at_event (outside.Line raised) e (Boot version number name entry accept kept) within its = absurd its
  at_event (outside.Line raised) e (Gained page writable bytes) within its = absurd its
  at_event (outside.Line raised) e (Lost page) within its = absurd its
  at_event (outside.Line raised) e (Left page offset bytes) within its = absurd its
  at_event (outside.Line raised) e (Packet claim packet) within its = absurd its
  at_event (outside.Line raised) e (Taken page backup) within its = absurd its
  at_event (outside.Line raised) e item within its = tt
  at_event (outside.Revoke env count grace) e (Boot version number name entry accept kept) within its = absurd its
  at_event (outside.Revoke env count grace) e (Gained page writable bytes) within its = absurd its
  at_event (outside.Revoke env count grace) e (Lost page) within its = absurd its
  at_event (outside.Revoke env count grace) e (Left page offset bytes) within its = absurd its
  at_event (outside.Revoke env count grace) e (Packet claim packet) within its = absurd its
  at_event (outside.Revoke env count grace) e (Line line) within its = absurd its
  at_event (outside.Revoke env count grace) e (Taken page backup) within its = absurd its
  at_event (outside.Revoke env count grace) e item within its = tt

  behind : (t : ℕ) (xs : List Taking) (k e : ℕ) (item : Item) → LicensedBehind system t xs k w e item → Within item
  behind t [] zero e item its = absurd its
  behind t [] (suc zero) e item its = at_turn e item its
  behind t [] (suc (suc zero)) e item its = at_step t e item its
  behind t [] (suc (suc (suc zero))) e item its = at_timer e item its
  behind t [] (suc (suc (suc (suc k)))) e item its = absurd its
  behind t (x ∷ xs) zero e item its = at_taking x e item its
  behind t (x ∷ xs) (suc k) e item its = behind t xs k e item its

  inside : (t : ℕ) (happens : List Occurrence) (xs : List Taking) (k e : ℕ) (item : Item) → ((n : ℕ) (what : Occurrence) → slice_get happens n ≡ Some what → is_occurrence what ≡ true)
      → LicensedIn system t happens xs k w e item → Within item
  inside t [] xs k e item within its = behind t xs k e item its
  inside t (what ∷ happens) xs zero e item within its = at_event what e item (within 0 what refl) its
  inside t (what ∷ happens) xs (suc k) e item within its = inside t happens xs k e item (λ n x is. within (suc n) x is) its

-- the record at boot
booted : (system : System) (e n : ℕ) (item : Item) → slice_get (boot_items system.image e) n ≡ Some item → HasNumbersWithin system.image item
booted system e n item is = by_program (slice_get system.image.programs e) refl n is
  where
    by_program : (o : Option ProgramValue) → slice_get system.image.programs e ≡ o → (m : ℕ) → slice_get (record_items system.image.version e o) m ≡ Some item → HasNumbersWithin system.image item
    by_program None there m is = cc
    by_program (Some p) there zero is =
        let same : Boot system.image.version e p.name p.body.entry p.accept (kept_of p) ≡ item = cc in
        subst (HasNumbersWithin system.image) same (slice_get_within system.image.programs e p there)
    by_program (Some p) there (suc m) is = cc

pub numbers_are_within : GrantedMay → AgainAsks → TakingsAreTakable → FeedIsLicensed → NumbersAreWithin
numbers_are_within granted again takable licensed system e t n item accepted within is = elim (licensed system t e n item is) [
  | inl boot ↦ booted system e n item boot.there
  | inr given ↦
      let w = world_after system given.tick in
      inside system (moment system given.tick given.phase) (moment_fine granted again takable system given.tick (all_fine granted again takable system given.tick) given.phase) (placed system accepted.slots_least given.tick given.phase)
      given.tick (happens_in system.schedule w) (takings_in system given.tick) given.phase e item (within w.book.time) given.licence
]
