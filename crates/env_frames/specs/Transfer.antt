-- A transfer of control: an environment goes on at an entry of its own, with the registers of another that calls it.
use Rattle.std.specs.Prelude.{ℕ, ◌+◌, List, [], ◌∷◌, ◌++◌, take, drop, Bool, true, false, ◌==◌, if◌then◌else◌, Option, Some, None}
use Rattle.std.specs.List.{flat_map}
use Rattle.mips_exec.specs.declared.registers.Cpu.{Cpu}
use Rattle.mips_exec.specs.Cpu.{restart_of}
use Rattle.mips_exec.specs.Word.{low_word}
use Rattle.frame_store.specs.Pages.{word_bytes}
use Rattle.env_frames.specs.declared.context.Context.{Context}
use Rattle.env_frames.specs.declared.context.Context.TheVariants as context
use Rattle.env_frames.specs.declared.transfer.TransferKind.{TransferKind}
use Rattle.env_frames.specs.declared.transfer.TransferKind.TheVariants as kind

-- the kind of transfer that a kernel call names by this number
abbrev pub transfer_numbered : ℕ → Option TransferKind
transfer_numbered number =
    if number == 0 then Some kind.Asynchronous else if number == 1 then Some kind.Synchronous else None

abbrev pub transfer_number : TransferKind → ℕ
transfer_number kind.Asynchronous = 0
transfer_number kind.Synchronous = 1

-- the context at whose handler a transfer of this kind enters
abbrev pub entry_context : TransferKind → Context
entry_context kind.Asynchronous = context.Asynchronous
entry_context kind.Synchronous = context.Synchronous

-- whether a transfer hands on the slot, and with it its later slices: an asynchronous one hands on the rest of the
-- slice alone
abbrev pub hands_slot : TransferKind → Bool
hands_slot kind.Asynchronous = false
hands_slot kind.Synchronous = true

-- $1 to $31
abbrev pub general : Cpu → List ℕ
general cpu = take 31 (drop 1 cpu.regs)

-- what a transfer carries: $1 to $31 of its caller, HI and LO
pub record Registers : Type 0 where
  pub regs : List ℕ
  pub hi : ℕ
  pub lo : ℕ

abbrev pub carried : Cpu → Registers
carried cpu = record { regs = general cpu; hi = cpu.hi; lo = cpu.lo }

-- the target goes on at its entry with the registers that are carried and 0 in $0, out of a delay slot
abbrev pub entered_cpu : ℕ → Registers → Cpu
entered_cpu entry r = record {
  regs = 0 ∷ r.regs;
  hi = r.hi;
  lo = r.lo;
  pc = entry;
  next = low_word (entry + 4);
  slot = false;
}

-- where the entry area begins in the context page
abbrev pub entry_area : ℕ
entry_area = 0x080

-- What a transfer leaves in the entry area of its target, of whom these registers were kept: $1 to $31, HI, LO, the
-- resume address, the caller's number and the kind.
unfoldable pub entry_bytes : ℕ → TransferKind → Cpu → List ℕ
entry_bytes from kind cpu =
    flat_map word_bytes (general cpu ++ cpu.hi ∷ cpu.lo ∷ restart_of cpu ∷ from ∷ transfer_number kind ∷ [])
