-- The version of the image is that of the kernel's book and of the image's environments, and says in which rows
-- bindings stand.
use Rattle.std.specs.Prelude.{◌≡◌, ◌<◌, ℕ, length, Some}
use Rattle.boot_image.specs.ImageValue.{ImageValue}
use Rattle.bind_book.specs.declared.binding.Binding.{Binding}
use Rattle.bind_book.specs.Stripe.{row_of}
use Rattle.world_model.specs.World.{World}
use Rattle.run_model.specs.Run.{System, moment, world_after}

-- the book has the image's version, and so has each environment that the image has, the dead too
pub record AreOfVersion (image : ImageValue) (w : World) : Type 0 where
  pub book : w.book.version ≡ image.version
  pub solos : (e : ℕ) → e < length image.programs → (w.solos e).version ≡ image.version

-- So it is at each moment.
abbrev pub VersionsAgree : Type 0
VersionsAgree = (system : System) (t k : ℕ) → AreOfVersion system.image (moment system t k)

-- Every binding that the book lists stands in the row of its VPN by this version.
abbrev pub BindingsInRows : Type 0
BindingsInRows = (system : System) (t e row : ℕ) (b : Binding) → (world_after system t).book.binds e row ≡ Some b
    → row ≡ row_of system.image.version b.vpn
