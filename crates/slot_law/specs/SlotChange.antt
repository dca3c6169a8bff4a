-- Why a slot changes.
use Rattle.std.specs.Prelude.{◌≡◌, ◌⊎◌, ℕ, suc, Option, None, Some}
use Rattle.env_frames.specs.declared.transfer.TransferKind.TheVariants as kind
use Rattle.world_model.specs.declared.call.Deed.TheVariants.{DropsSlot, TakesSlot, Transfers}
use Rattle.world_model.specs.declared.hold.Hold.{Hold}
use Rattle.run_model.specs.Acting.{Does}
use Rattle.run_model.specs.Excess.{Lives}
use Rattle.run_model.specs.Run.{System, at_step, world_after}

-- It was empty, and an environment takes it.
pub record IsTakenSlot (system : System) (t slot : ℕ) (old : Option Hold) : Type 0 where
  pub taker : ℕ
  pub takes : Does (at_step system t) taker (TakesSlot slot)
  pub empty : old ≡ None

-- Its holder drops it.
pub record IsDropped (system : System) (t slot : ℕ) (old : Option Hold) : Type 0 where
  pub hold : Hold
  pub stood : old ≡ Some hold
  pub drops : Does (at_step system t) hold.holder (DropsSlot slot)

-- Its holder runs in it, and hands it on by a synchronous transfer.
pub record IsHandedOn (system : System) (t slot : ℕ) (old : Option Hold) : Type 0 where
  pub hold : Hold
  pub stood : old ≡ Some hold
  pub target : ℕ
  pub enters : Does (at_step system t) hold.holder (Transfers target kind.Synchronous)
  pub here : (at_step system t).book.cursor ≡ slot

-- Its owner or its holder dies.
pub record IsReleased (system : System) (t slot : ℕ) (old : Option Hold) : Type 0 where
  pub hold : Hold
  pub stood : old ≡ Some hold
  pub gone : ℕ
  pub part : (hold.owner ≡ gone) ⊎ (hold.holder ≡ gone)
  pub dies : Lives (world_after system (suc t)) gone → ⊥

abbrev pub HasSlotCause : System → ℕ → ℕ → Option Hold → Type 0
HasSlotCause system t slot old =
    IsTakenSlot system t slot old
    ⊎ (IsDropped system t slot old ⊎ (IsHandedOn system t slot old ⊎ IsReleased system t slot old))

-- In a tick a slot stays as it is, or one of these changes it.
abbrev pub SlotsHaveCauses : Type 0
SlotsHaveCauses = (system : System) (t slot : ℕ) → let old = (world_after system t).book.slots slot in
    ((world_after system (suc t)).book.slots slot ≡ old) ⊎ HasSlotCause system t slot old
