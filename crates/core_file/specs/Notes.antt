-- The notes of a core: the registers of an environment as Linux keeps them, and what ELF has no word for.
use Rattle.std.specs.Prelude.{ℕ, List, [], ◌∷◌, ◌++◌, Option, Some, None, Bool, ◌==◌, if◌then◌else◌, codes, replicate, slice_set}
use Rattle.aegis_limits.specs.VersionLimits.{version_number}
use Rattle.elf_static.specs.Layout.{words}
use Rattle.env_frames.specs.declared.context.Handlers.{Handlers}
use Rattle.mips_exec.specs.declared.registers.Cpu.{Cpu}
use Rattle.world_model.specs.declared.slot.Phase.{Phase}
use Rattle.world_model.specs.declared.slot.Phase.TheVariants as phase
use Rattle.world_model.specs.declared.slot.Runner.{Runner}
use Rattle.world_model.specs.World.{World}
use Rattle.run_report.specs.Report.{shown_cpu}

-- $0 to $31, of which the first reads 0; LO, HI, and the address of the next instruction
unfoldable pub register_text : Cpu → List ℕ
register_text cpu = words (slice_set cpu.regs 0 0) ++ words (cpu.lo ∷ cpu.hi ∷ cpu.pc ∷ [])

-- Linux' prstatus of MIPS
unfoldable pub status_text : ℕ → Cpu → List ℕ
status_text e cpu =
    -- signals, of which none came; the number; processes and times, of which there are none, and six places that aren't
    -- used
    words (replicate 6 0) ++ words (e ∷ []) ++ words (replicate 17 0)
    ++ register_text cpu
    -- the bad address, the status, the cause, a place that isn't used; and no floating point
    ++ words (replicate 5 0)

-- sizes of the name and of the contents, the type, the name, and the contents
unfoldable pub core_note : ℕ → Cpu → List ℕ
core_note e cpu = words (5 ∷ 256 ∷ 1 ∷ []) ++ codes "CORE" ++ replicate 4 0 ++ status_text e cpu

abbrev pub slot_number : Bool → ℕ
slot_number slot = if slot then 1 else 0

abbrev pub phase_number : Phase → ℕ
phase_number phase.Own = 1
phase_number phase.Grace = 2

-- how an environment runs, in this slot: in its slice or in its grace, and for how many ticks more
abbrev pub running_words : ℕ → ℕ → Option Runner → List ℕ
running_words e slot None = 0 ∷ 0 ∷ 0 ∷ []
running_words e slot (Some r) = if r.env == e then phase_number r.phase ∷ r.left ∷ slot ∷ [] else 0 ∷ 0 ∷ 0 ∷ []

abbrev pub handler_words : Handlers → List ℕ
handler_words h = h.exception ∷ h.start ∷ h.end ∷ h.asynchronous ∷ h.synchronous ∷ []

-- the time, the version, where the environment goes on after its next instruction, whether that is in a delay slot, its
-- excess and its mask
abbrev pub place_words : World → ℕ → List ℕ
place_words w e =
    let b = w.book in
    let cpu = shown_cpu w e in
    b.time ∷ version_number b.version ∷ cpu.next ∷ slot_number cpu.slot ∷ b.excess e ∷ (w.solos e).mask ∷ []

-- what the kernel keeps of an environment
unfoldable pub kernel_text : World → ℕ → List ℕ
kernel_text w e =
    words (place_words w e) ++ words (handler_words (w.solos e).handlers)
    ++ words (running_words e w.book.cursor w.book.runner)

unfoldable pub aegis_note : World → ℕ → List ℕ
aegis_note w e = words (6 ∷ 56 ∷ []) ++ codes "AEGI" ++ codes "AEGIS" ++ replicate 3 0 ++ kernel_text w e

-- both notes, of the registers that a report shows: those of an environment that doesn't run are at rest; and how many bytes
-- they have
unfoldable pub notes_text : World → ℕ → List ℕ
notes_text w e = core_note e (shown_cpu w e) ++ aegis_note w e

abbrev pub notes_size : ℕ
notes_size = 352
