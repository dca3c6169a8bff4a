-- The one load or store of an instruction.
use Rattle.std.specs.Prelude.{◌≡◌, ℕ, ◌+◌, ◌-◌, ◌*◌, ◌/◌, ◌%◌, ◌^◌, ◌<◌, ◌≤◌, Bool, true, false, ◌==◌, if◌then◌else◌, Option, Some, None, List, take}
use Rattle.std.specs.Int.{w32, to_le_bytes}
use Rattle.mips_isa.specs.declared.insn.Insn.{Insn}
use Rattle.mips_isa.specs.declared.insn.Insn.TheVariants.{Lb, Lh, Lwl, Lw, Lbu, Lhu, Lwr, Sb, Sh, Swl, Sw, Swr}
use Rattle.mips_exec.specs.declared.registers.Cpu.{Cpu}
use Rattle.mips_exec.specs.declared.reach.Spot.{Spot}
use Rattle.mips_exec.specs.declared.reach.Access.{Access}
use Rattle.mips_exec.specs.declared.reach.Access.TheVariants.{Load, Store}
use Rattle.mips_exec.specs.Cpu.{reg, address_of}

-- so many bytes at the address
abbrev pub at : ℕ → ℕ → Spot
at address width = record { address = address; down = false; width = width }

-- so many bytes from the beginning of the aligned word that has the address
abbrev pub below : ℕ → ℕ → Spot
below address width = record { address = address; down = true; width = width }

-- where the bytes of a spot begin
abbrev pub place_of : Spot → ℕ
place_of spot = if spot.down then spot.address / 4 * 4 else spot.address

-- the bytes begin at a multiple of 2 where they are 2, and of 4 where they are 4
abbrev pub is_aligned : Spot → Bool
is_aligned spot =
    if spot.width == 4 then place_of spot % 4 == 0
    else (if spot.width == 2 then place_of spot % 2 == 0 else true)

-- the low bytes of a value, the lowest first
abbrev pub low_bytes : ℕ → ℕ → List ℕ
low_bytes width value = take width (to_le_bytes w32 value)

-- a store: an address and the bytes that stand there afterwards
pub record Write : Type 0 where
  pub address : ℕ
  pub bytes : List ℕ

-- what an access writes
abbrev pub write_of : Access → Option Write
write_of (Load spot) = None
write_of (Store spot value) = Some (record { address = place_of spot; bytes = low_bytes spot.width value })

-- SWL: the n + 1 high bytes of the register, up to the address, which is the n-th byte of its word
abbrev pub left_store : ℕ → ℕ → Access
left_store address value = Store (below address (address % 4 + 1)) (value / 2 ^ (24 - 8 * (address % 4)))

-- SWR: the 4 - n low bytes of the register, from the address on
abbrev pub right_store : ℕ → ℕ → Access
right_store address value = Store (at address (4 - address % 4)) value

-- The load or store of the instruction, if it has one.
unfoldable pub access : Insn → Cpu → Option Access
access (Lb rt imm rs) c = Some (Load (at (address_of c rs imm) 1))
access (Lh rt imm rs) c = Some (Load (at (address_of c rs imm) 2))
access (Lbu rt imm rs) c = Some (Load (at (address_of c rs imm) 1))
access (Lhu rt imm rs) c = Some (Load (at (address_of c rs imm) 2))
access (Lw rt imm rs) c = Some (Load (at (address_of c rs imm) 4))
access (Lwl rt imm rs) c = Some (Load (below (address_of c rs imm) 4))
access (Lwr rt imm rs) c = Some (Load (below (address_of c rs imm) 4))
access (Sb rt imm rs) c = Some (Store (at (address_of c rs imm) 1) (reg c rt))
access (Sh rt imm rs) c = Some (Store (at (address_of c rs imm) 2) (reg c rt))
access (Sw rt imm rs) c = Some (Store (at (address_of c rs imm) 4) (reg c rt))
access (Swl rt imm rs) c = Some (left_store (address_of c rs imm) (reg c rt))
access (Swr rt imm rs) c = Some (right_store (address_of c rs imm) (reg c rt))
access _ c = None

-- a spot has bytes, and where it is aligned they lie in one word
pub record IsSpot (spot : Spot) : Type 0 where
  pub some : 0 < spot.width
  pub within : is_aligned spot ≡ true → place_of spot % 4 + spot.width ≤ 4
