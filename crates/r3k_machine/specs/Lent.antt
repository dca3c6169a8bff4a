-- Physical memory and the rows, lent for the machine's accesses. For proofs: nobody has to believe it.
use Rattle.std.specs.Prelude.{◌≡◌, ℕ, List, Some}
use Rattle.r3k_machine.specs.declared.bus.RowBus.{RowBus}
use Rattle.r3k_machine.specs.Memory.{frames_written}

-- it is the same memory that was lent, and nothing was stored
pub record IsKept (old new : RowBus) : Type 0 where
  pub lent : new.frames.ghost_name ≡ old.frames.ghost_name
  pub frames : new.frames.now ≡ old.frames.now
  pub rows : new.tlb.now ≡ old.tlb.now
  pub cp0 : new.cp0.now ≡ old.cp0.now

-- physical memory once these bytes were stored at an address
abbrev pub frames_stored : RowBus → ℕ → List ℕ → List (List ℕ)
frames_stored b address bytes =
    frames_written b.cp0.now b.tlb.now b.frames.now (Some (record { address = address; bytes = bytes }))

-- it is the same memory that was lent, and these bytes were stored at this address
pub record IsStored (old : RowBus) (address : ℕ) (bytes : List ℕ) (new : RowBus) : Type 0 where
  pub lent : new.frames.ghost_name ≡ old.frames.ghost_name
  pub frames : new.frames.now ≡ frames_stored old address bytes
  pub rows : new.tlb.now ≡ old.tlb.now
  pub cp0 : new.cp0.now ≡ old.cp0.now
