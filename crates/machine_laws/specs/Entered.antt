-- How the kernel is entered.
use Rattle.std.specs.Prelude.{◌≡◌, ◌⊎◌, ℕ, false}
use Rattle.mips_exec.specs.declared.exception.Exc.{Exc}
use Rattle.mips_exec.specs.Cpu.{going_on_at, restart_of}
use Rattle.r3k_cp0.specs.Enter.{status_entered}
use Rattle.r3k_cp0.specs.Registers.{is_user}
use Rattle.r3k_machine.specs.declared.machine.Machine.{Machine}
use Rattle.r3k_machine.specs.Exceptions.{in_exception}

-- where the kernel is entered: at a user's address without a row, and by each other exception
abbrev pub refill_vector : ℕ
refill_vector = 0x80000000

abbrev pub common_vector : ℕ
common_vector = 0x80000080

-- The machine goes on in kernel mode at one of the two vectors. The modes before are pushed, EPC has where the user
-- goes on, and the user's other registers stay, and all rows.
pub record IsEntered (old new : Machine) : Type 0 where
  pub at : (new.cpu ≡ going_on_at old.cpu refill_vector) ⊎ (new.cpu ≡ going_on_at old.cpu common_vector)
  pub kernel : is_user new.cp0 ≡ false
  pub modes : new.cp0.status ≡ status_entered old.cp0.status
  pub back : new.cp0.epc ≡ restart_of old.cpu
  pub rows : new.tlb ≡ old.tlb

-- So does each exception, and each interrupt, which is an exception without an address.
abbrev pub ExceptionsEnterKernel : Type 0
ExceptionsEnterKernel = (m : Machine) (exc : Exc) → IsEntered m (in_exception m exc)
