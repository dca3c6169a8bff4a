-- Nothing that is licensed is withheld.
use Rattle.std.specs.Prelude.{◌≡◌, ◌<◌, ℕ, List, [], ◌∷◌, Some, slice_get}
use Rattle.boot_image.specs.ImageValue.{ImageValue, ProgramValue}
use Rattle.world_model.specs.declared.life.Life.TheVariants.{Live}
use Rattle.world_model.specs.Item.{Item}
use Rattle.world_model.specs.Solo.{Solo}
use Rattle.run_model.specs.Boot.{boot_items, kept_of}
use Rattle.run_model.specs.Licensed.{AtBoot, LicensedAt}
use Rattle.run_model.specs.Run.{System, given_at, world_after}

-- an item stands in a list, at one place alone
pub record IsGivenOnce (items : List Item) (item : Item) : Type 0 where
  pub place : ℕ
  pub there : slice_get items place ≡ Some item
  pub once : (n : ℕ) → slice_get items n ≡ Some item → n ≡ place

-- In each phase of a tick an environment is given every item for which it has a licence there, and each of them once.
abbrev pub LicensedIsGiven : Type 0
LicensedIsGiven = (system : System) (t k e : ℕ) (item : Item) → 0 < system.image.quantum
    → LicensedAt system t k e item → IsGivenOnce (given_at system t k e) item

-- So it is with the record at boot, which is given alone.
abbrev pub RecordIsGiven : Type 0
RecordIsGiven = (image : ImageValue) (e : ℕ) (item : Item) → AtBoot image e item → boot_items image e ≡ item ∷ []

-- What the image says of a program, its environment has: number, name, entry, whom it accepts, and guaranteed pages.
pub record IsBooted (image : ImageValue) (e : ℕ) (p : ProgramValue) (s : Solo) : Type 0 where
  pub version : s.version ≡ image.version
  pub number : s.number ≡ e
  pub name : s.name ≡ p.name
  pub lives : s.life ≡ Live
  pub entry : s.cpu.pc ≡ p.body.entry
  pub accepts : s.mask ≡ p.accept
  pub kept : s.kept ≡ kept_of p

-- So it is at boot.
abbrev pub BootsByImage : Type 0
BootsByImage = (system : System) (e : ℕ) (p : ProgramValue) → slice_get system.image.programs e ≡ Some p
    → IsBooted system.image e p ((world_after system 0).solos e)
