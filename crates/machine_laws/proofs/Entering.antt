-- What an exception does to the machine.
use Rattle.std.proofs.Common.{◌≡◌, ◌+◌, ◌*◌, ◌/◌, ◌%◌, ◌^◌, ℕ, Bool, true, false, is_some, inl, inr, refl, ◌∙◌, ap, arith}
use Rattle.std.specs.Prelude.{◌⊎◌, ◌==◌, ◌&&◌, not, nat_lt, if◌then◌else◌}
use Rattle.aegis_limits.specs.Limits.{page_size}
use Rattle.mips_exec.specs.declared.exception.Exc.{Exc}
use Rattle.mips_exec.specs.declared.registers.Cpu.{Cpu}
use Rattle.mips_exec.specs.AccessKind.{user_end}
use Rattle.mips_exec.specs.Cpu.{going_on_at, restart_of}
use Rattle.mips_exec.specs.Exception.{cause_word_of, is_miss}
use Rattle.r3k_cp0.specs.declared.registers.Cp0.{Cp0}
use Rattle.r3k_cp0.specs.Enter.{context_at, entered, entry_hi_at, is_of_address, is_of_translation, status_entered, with_bad_address}
use Rattle.r3k_cp0.specs.Registers.{current_pid}
use Rattle.r3k_tlb.specs.Rows.{first_fitting}
use Rattle.machine_laws.specs.Entered.{ExceptionsEnterKernel, common_vector, refill_vector}

-- what is entered has these two registers, whichever address is stored
record HasModes (exc : Exc) (cpu : Cpu) (old new : Cp0) : Type 0 where
  status : new.status ≡ status_entered old.status
  epc : new.epc ≡ restart_of cpu

bad_address_keeps : (exc : Exc) (cpu : Cpu) (c d : Cp0) (test : Bool) → HasModes exc cpu c d → HasModes exc cpu c (if test then record d { bad_vaddr = exc.bad } else d)
bad_address_keeps exc cpu c d true has = record { status = has.status; epc = has.epc }
bad_address_keeps exc cpu c d false has = has

translation_keeps : (exc : Exc) (cpu : Cpu) (c d : Cp0) (test : Bool) → HasModes exc cpu c d
    → HasModes exc cpu c (if test then record d { entry_hi = entry_hi_at d.entry_hi exc.bad; context = context_at d.context exc.bad } else d)
translation_keeps exc cpu c d true has = record { status = has.status; epc = has.epc }
translation_keeps exc cpu c d false has = has

at_vector : (cpu : Cpu) (b : Bool) → (going_on_at cpu (if b then 0x80000000 else 0x80000080) ≡ going_on_at cpu refill_vector) ⊎ (going_on_at cpu (if b then 0x80000000 else 0x80000080) ≡ going_on_at cpu common_vector)
at_vector cpu true = inl refl
at_vector cpu false = inr refl

kernel_word : (s : ℕ) → (s / 2 ^ 6 * 2 ^ 6 + s % 2 ^ 4 * 2 ^ 2) / 2 % 2 ≡ 0
kernel_word s = grind arith

has_modes : (exc : Exc) (cpu : Cpu) (c : Cp0) → HasModes exc cpu c (entered exc cpu c)
has_modes exc cpu c =
    let d : Cp0 = record c { status = status_entered c.status; cause = cause_word_of exc cpu.slot; epc = restart_of cpu } in
    translation_keeps exc cpu c (with_bad_address exc d) (is_of_translation exc.code)
    (bad_address_keeps exc cpu c d (is_of_address exc.code) (record { status = refl; epc = refl }))

pub enters : ExceptionsEnterKernel
enters m exc =
    let modes = has_modes exc m.cpu m.cp0 in
    record {
      at = at_vector m.cpu (is_miss exc.code && nat_lt exc.bad user_end && not (is_some (first_fitting (exc.bad / page_size) (current_pid m.cp0) m.tlb)));
      kernel = ap (λ (s : ℕ). s / 2 % 2 == 1) modes.status ∙ ap (λ (n : ℕ). n == 1) (kernel_word m.cp0.status);
      modes = modes.status;
      back = modes.epc;
      rows = refl;
    }
