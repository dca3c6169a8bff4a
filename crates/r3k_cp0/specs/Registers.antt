-- The registers of coprocessor 0, as MFC0 reads and MTC0 writes them.
use Rattle.std.specs.Prelude.{ℕ, ◌+◌, ◌*◌, ◌/◌, ◌%◌, ◌^◌, Bool, ◌==◌, ◌&&◌, if◌then◌else◌, Option, Some, None}
use Rattle.r3k_cp0.specs.declared.registers.Cp0.{Cp0}

-- the registers as they are when nothing has run
abbrev pub blank_cp0 : Cp0
blank_cp0 = record {
  index = 0;
  random = 63;
  entry_lo = 0;
  context = 0;
  bad_vaddr = 0;
  entry_hi = 0;
  status = 0;
  cause = 0;
  epc = 0;
}

-- what each register reads: Random has its row in bits 13:8, PRId is 0x200, one without a name is 0
abbrev pub cp0_reg : Cp0 → ℕ → ℕ
cp0_reg c n =
    if n == 0 then c.index else if n == 1 then c.random * 2 ^ 8 else if n == 2 then c.entry_lo
    else if n == 4 then c.context else if n == 8 then c.bad_vaddr else if n == 10 then c.entry_hi
    else if n == 12 then c.status else if n == 13 then c.cause else if n == 14 then c.epc
    else if n == 15 then 0x200 else 0

-- Index takes bits 13:8
abbrev pub index_word : ℕ → ℕ
index_word value = value / 2 ^ 8 % 2 ^ 6 * 2 ^ 8

-- EntryLo takes bits 31:8
abbrev pub entry_lo_word : ℕ → ℕ
entry_lo_word value = value / 2 ^ 8 * 2 ^ 8

-- Context takes bits 31:21, and keeps its others
abbrev pub context_word : ℕ → ℕ → ℕ
context_word context value = value / 2 ^ 21 * 2 ^ 21 + context % 2 ^ 21

-- EntryHi takes bits 31:6
abbrev pub entry_hi_word : ℕ → ℕ
entry_hi_word value = value / 2 ^ 6 * 2 ^ 6

-- Status takes bits 15:8 and 5:0
abbrev pub status_word : ℕ → ℕ
status_word value = value / 2 ^ 8 % 2 ^ 8 * 2 ^ 8 + value % 2 ^ 6

-- the registers after a value is written to one; those that aren't named here take none
abbrev pub with_cp0_reg : Cp0 → ℕ → ℕ → Cp0
with_cp0_reg c n value =
    if n == 0 then record c { index = index_word value }
    else if n == 2 then record c { entry_lo = entry_lo_word value }
    else if n == 4 then record c { context = context_word c.context value }
    else if n == 10 then record c { entry_hi = entry_hi_word value }
    else if n == 12 then record c { status = status_word value }
    else if n == 14 then record c { epc = value } else c

-- the process whose rows translate, in bits 11:6 of EntryHi
abbrev pub current_pid : Cp0 → ℕ
current_pid c = c.entry_hi / 2 ^ 6 % 2 ^ 6

-- EntryHi with another process, and the same VPN
abbrev pub with_pid : Cp0 → ℕ → Cp0
with_pid c pid = record c { entry_hi = c.entry_hi / 2 ^ 12 * 2 ^ 12 + pid * 2 ^ 6 }

-- the processor is in user mode: bit 1 of Status
abbrev pub is_user : Cp0 → Bool
is_user c = c.status / 2 % 2 == 1

-- interrupts are taken: bits 0 and 15 of Status
abbrev pub takes_interrupts : Cp0 → Bool
takes_interrupts c = c.status % 2 == 1 && c.status / 2 ^ 15 % 2 == 1

-- the row that Index names, in its bits 13:8
abbrev pub index_row : Cp0 → ℕ
index_row c = c.index / 2 ^ 8 % 2 ^ 6

-- Index after a probe: the row that was found, else bit 31
abbrev pub probe_word : Option ℕ → ℕ
probe_word (Some row) = row * 2 ^ 8
probe_word None = 2 ^ 31
