-- Behind the boot: in the phases of a tick no environment is given a record, so what every other item keeps holds at each moment.
use Rattle.std.proofs.Common.{◌≡◌, ℕ, zero, suc, List, [], ◌∷◌, Option, Some, None, refl, sym, ◌∙◌, ap, subst, arith}
use Rattle.std.specs.Prelude.{slice_get}
use Rattle.std.specs.List.{All}
use Rattle.aegis_limits.specs.declared.version.Version.{Version}
use Rattle.boot_image.specs.ImageValue.{ImageValue}
use Rattle.external_event.specs.declared.event.Occurrence.{Occurrence}
use Rattle.external_event.specs.declared.event.Occurrence.TheVariants as outside
use Rattle.revocation_book.specs.declared.revocation.Taking.{Taking}
use Rattle.world_model.specs.Item.{Item, Boot, absorb, absorb_all, absorbed}
use Rattle.world_model.specs.Page.{KeptPage}
use Rattle.world_model.specs.Solo.{Solo, absent}
use Rattle.world_model.specs.World.{World, Reply}
use Rattle.run_model.specs.Boot.{boot_items}
use Rattle.run_model.specs.Licensed.{AtEvent, GivenIsLicensed, LicensedAt, LicensedBehind, LicensedIn}
use Rattle.run_model.specs.Run.{System, given_at, given_by, happens_in, moment, next_phases, takings_in, world_after}
use Rattle.run_model.proofs.Phases.{next_moment, once_more}
use Rattle.sharing_law.proofs.Given.{absorb_or}
use Rattle.sharing_law.proofs.Moments.{each_moment}

-- an item that isn't a record
abbrev pub IsLater : Item → Type 0
IsLater (Boot version number name entry accept kept) = ⊥
IsLater item = Unit {0}

abbrev pub AreLater : List Item → Type 0
AreLater [] = Unit {0}
AreLater (item ∷ items) = IsLater item × AreLater items

-- a record has no licence in a tick
module _ (version : Version) (number : ℕ) (name : List ℕ) (entry accept : ℕ) (kept : List KeptPage) where
  abbrev its : Item
  its = Boot version number name entry accept kept

  no_record_behind : (system : System) (t : ℕ) (xs : List Taking) (k : ℕ) (w : World) (e : ℕ) → LicensedBehind system t xs k w e its → ⊥
  no_record_behind system t [] (suc (suc (suc (suc k)))) w e is = is
  no_record_behind system t [] k w e is = is
  no_record_behind system t (x ∷ xs) zero w e is = is
  no_record_behind system t (x ∷ xs) (suc k) w e is = no_record_behind system t xs k w e is

  no_record_from : (what : Occurrence) (w : World) (e : ℕ) → AtEvent what w e its → ⊥
  no_record_from (outside.Packet packet) w e is = is
  no_record_from (outside.Line line) w e is = is
  no_record_from (outside.Revoke env count grace) w e is = is

  no_record : (system : System) (t : ℕ) (happens : List Occurrence) (xs : List Taking) (k : ℕ) (w : World) (e : ℕ) → LicensedIn system t happens xs k w e its → ⊥
  no_record system t [] xs k w e is = no_record_behind system t xs k w e is
  no_record system t (what ∷ happens) xs zero w e is = no_record_from what w e is
  no_record system t (what ∷ happens) xs (suc k) w e is = no_record system t happens xs k w e is

pub licensed_later : (system : System) (t k e : ℕ) (item : Item) → LicensedAt system t k e item → IsLater item
licensed_later system t k e (Boot version number name entry accept kept) is =
    no_record version number name entry accept kept system t (happens_in system.schedule (world_after system t)) (takings_in system t) k (moment system t k) e is
licensed_later system t k e item is = tt

all_later : (P : Item → Type 0) → ((item : Item) → P item → IsLater item) → (items : List Item) → All P items → AreLater items
all_later P later [] all = tt
all_later P later (item ∷ items) all = (later item (all 0 item (omega arith)), all_later P later items (λ k d below. all (suc k) d (omega (arith, below))))

pub given_later : GivenIsLicensed → (system : System) (t k e : ℕ) → AreLater (given_at system t k e)
given_later licensed system t k e = all_later (LicensedAt system t k e) (licensed_later system t k e) (given_at system t k e) (licensed system t k e)

-- what an environment is at the next moment
once_solos : (w : World) (o : Option (World → Reply)) (e : ℕ) → (once_more w o).solos e ≡ absorb_all (w.solos e) (given_by w o e)
once_solos w None e = refl
once_solos w (Some phase) e = refl

pub next_solo : (system : System) (t k e : ℕ) → (moment system t (suc k)).solos e ≡ absorb_all ((moment system t k).solos e) (given_at system t k e)
next_solo system t k e =
    let w = moment system t k in
    ap (λ (v : World). v.solos e) (next_moment system t k) ∙ once_solos w (slice_get (next_phases system.schedule (world_after system t)) k) e

-- What holds at boot, and is kept by each other item, holds of each environment at each moment.
module _ (P : Solo → Type 0) (boots : (image : ImageValue) (e : ℕ) → P (absorb_all (absent e) (boot_items image e))) (keeps : (s : Solo) (item : Item) → IsLater item → P s → P (absorbed s item)) where
  pub keep_all : (items : List Item) → AreLater items → (s : Solo) → P s → P (absorb_all s items)
  keep_all [] later s was = was
  keep_all (item ∷ items) (its, later) s was = keep_all items later (absorb s item) (absorb_or P s item was (keeps s item its was))

  pub each_solo : GivenIsLicensed → (system : System) (t k e : ℕ) → P ((moment system t k).solos e)
  each_solo licensed system t k e =
      each_moment (λ w. P (w.solos e)) system
      (λ t k was. subst P (sym (next_solo system t k e)) (keep_all (given_at system t k e) (given_later licensed system t k e) ((moment system t k).solos e) was))
      (boots system.image e) t k
