-- What entering and leaving an exception does to the registers of coprocessor 0.
use Rattle.std.specs.Prelude.{ℕ, ◌+◌, ◌*◌, ◌/◌, ◌%◌, ◌^◌, Bool, not, ◌&&◌, nat_le, nat_lt, if◌then◌else◌}
use Rattle.mips_exec.specs.declared.exception.Exc.{Exc}
use Rattle.mips_exec.specs.declared.exception.ExcCode.{ExcCode}
use Rattle.mips_exec.specs.declared.registers.Cpu.{Cpu}
use Rattle.mips_exec.specs.Cpu.{restart_of}
use Rattle.mips_exec.specs.AccessKind.{user_end}
use Rattle.mips_exec.specs.Exception.{cause_word_of, is_miss, number_of}
use Rattle.r3k_cp0.specs.declared.registers.Cp0.{Cp0}

-- the modes are pushed: bits 3:0 of Status move to 5:2, and 1:0 are cleared
abbrev pub status_entered : ℕ → ℕ
status_entered status = status / 2 ^ 6 * 2 ^ 6 + status % 2 ^ 4 * 2 ^ 2

-- the modes are popped: bits 5:2 of Status move to 3:0, and 5:4 stay
abbrev pub status_left : ℕ → ℕ
status_left status = status / 2 ^ 4 * 2 ^ 4 + status / 2 ^ 2 % 2 ^ 4

-- the exceptions of an address, 1 to 5, and those of a translation, 1 to 3
abbrev pub is_of_address : ExcCode → Bool
is_of_address code = nat_le 1 (number_of code) && nat_le (number_of code) 5

abbrev pub is_of_translation : ExcCode → Bool
is_of_translation code = nat_le 1 (number_of code) && nat_le (number_of code) 3

-- EntryHi has the VPN of a bad address, and its own PID
abbrev pub entry_hi_at : ℕ → ℕ → ℕ
entry_hi_at entry_hi bad = bad / 2 ^ 12 * 2 ^ 12 + entry_hi % 2 ^ 12

-- Context has bits 30:12 of a bad address in its bits 20:2, and keeps its others
abbrev pub context_at : ℕ → ℕ → ℕ
context_at context bad = context / 2 ^ 21 * 2 ^ 21 + bad / 2 ^ 12 % 2 ^ 19 * 2 ^ 2 + context % 2 ^ 2

-- where the exception is of a translation, its address is in EntryHi and Context
abbrev pub with_translation : Exc → Cp0 → Cp0
with_translation exc c =
    if is_of_translation exc.code
    then record c { entry_hi = entry_hi_at c.entry_hi exc.bad; context = context_at c.context exc.bad } else c

-- where it has an address, that is in BadVAddr
abbrev pub with_bad_address : Exc → Cp0 → Cp0
with_bad_address exc c = if is_of_address exc.code then record c { bad_vaddr = exc.bad } else c

-- the registers once an exception of the processor is entered
abbrev pub entered : Exc → Cpu → Cp0 → Cp0
entered exc cpu c =
    with_translation exc (with_bad_address exc
    (record c { status = status_entered c.status; cause = cause_word_of exc cpu.slot; epc = restart_of cpu }))

-- the registers once the handler has left its mode
abbrev pub left : Cp0 → Cp0
left c = record c { status = status_left c.status }

-- where an exception goes on: a miss of a user's address that no row fits has a vector of its own
abbrev pub vector_of : Exc → Bool → ℕ
vector_of exc is_fit =
    if is_miss exc.code && nat_lt exc.bad user_end && not is_fit then 0x80000000 else 0x80000080
