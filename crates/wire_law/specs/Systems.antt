-- A machine on a wire is a system of its own.
use Rattle.std.specs.Prelude.{◌≡◌, ◌<◌, ◌≤◌, ℕ}
use Rattle.boot_image.specs.ImageValue.{ImageValue}
use Rattle.run_model.specs.Boot.{boot_world}
use Rattle.run_model.specs.Run.{System, world_after}
use Rattle.wire_model.specs.Wire.{Wire, wired, world_on_wire}

-- each machine starts as its image boots
abbrev pub BootImages : Wire → (ℕ → ImageValue) → Type 0
BootImages wire images = (i : ℕ) → i < wire.count → (wire.machines i).start ≡ boot_world (images i)

-- A machine with its image, in which happens what its own schedule says and what arrives from the others, as far as that
-- is settled below a tick.
abbrev pub system_on_wire : Wire → (ℕ → ImageValue) → ℕ → ℕ → System
system_on_wire wire images i known = record { image = images i; schedule = wired wire known i }

-- Up to that tick its worlds on the wire are those of this system. So every law of systems is one of it.
abbrev pub MachinesAreSystems : Type 0
MachinesAreSystems = (wire : Wire) (images : ℕ → ImageValue) (i t known : ℕ) → BootImages wire images → i < wire.count
    → t ≤ known → world_on_wire wire i t ≡ world_after (system_on_wire wire images i known) t
