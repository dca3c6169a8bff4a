-- A slot stays its owner's.
use Rattle.std.specs.Prelude.{◌≡◌, ◌≤◌, ◌<◌, ℕ, suc, Option, Some}
use Rattle.std.specs.Option.{option_map}
use Rattle.world_model.specs.declared.call.Deed.TheVariants.{DropsSlot}
use Rattle.world_model.specs.declared.hold.Hold.{Hold}
use Rattle.run_model.specs.Acting.{Does}
use Rattle.run_model.specs.Excess.{Lives}
use Rattle.run_model.specs.Run.{System, at_step, world_after}

-- who owns a slot, if anybody does
abbrev pub owner_of : Option Hold → Option ℕ
owner_of slot = option_map (λ (hold : Hold). hold.owner) slot

-- In a tick an environment doesn't drop a slot, and doesn't die.
pub record KeepsSlot (system : System) (slot e t : ℕ) : Type 0 where
  pub drops_not : Does (at_step system t) e (DropsSlot slot) → ⊥
  pub lives : Lives (world_after system (suc t)) e

-- Who owns a slot owns it after later ticks too, if it neither drops it in any of them nor dies. Whatever others do, and
-- to whomever it hands the slot on, can't change that.
abbrev pub OwnedSlotStays : Type 0
OwnedSlotStays = (system : System) (slot e t u : ℕ) → t ≤ u → owner_of ((world_after system t).book.slots slot) ≡ Some e →
    ((n : ℕ) → t ≤ n → n < u → KeepsSlot system slot e n) → owner_of ((world_after system u).book.slots slot) ≡ Some e
