-- Exceptions, and what the Cause register shows of them.
use Rattle.std.specs.Prelude.{ℕ, ◌+◌, ◌*◌, ◌%◌, ◌^◌, Bool, true, false, if◌then◌else◌}
use Rattle.mips_exec.specs.declared.exception.ExcCode.{ExcCode}
use Rattle.mips_exec.specs.declared.exception.ExcCode.TheVariants.{Int, Mod, Tlbl, Tlbs, Adel, Ades, Ibe, Dbe, Sys, Bp, Ri, Cpu, Ov}
use Rattle.mips_exec.specs.declared.exception.Exc.{Exc}

-- the number of a code
abbrev pub number_of : ExcCode → ℕ
number_of Int = 0
number_of Mod = 1
number_of Tlbl = 2
number_of Tlbs = 3
number_of Adel = 4
number_of Ades = 5
number_of Ibe = 6
number_of Dbe = 7
number_of Sys = 8
number_of Bp = 9
number_of Ri = 10
number_of Cpu = 11
number_of Ov = 12

-- a miss of the TLB
abbrev pub is_miss : ExcCode → Bool
is_miss Tlbl = true
is_miss Tlbs = true
is_miss _ = false

-- the coprocessor that Cause names: that of an unusable coprocessor, else 0
abbrev pub unit_shown : ExcCode → ℕ → ℕ
unit_shown Cpu unit = unit % 4
unit_shown _ unit = 0

-- bit 31 says that pc was a delay slot; bits 29:28 name a coprocessor; bits 6:2 are the code
abbrev pub cause_word_of : Exc → Bool → ℕ
cause_word_of exc slot =
    (if slot then 2 ^ 31 else 0) + unit_shown exc.code exc.unit * 2 ^ 28 + number_of exc.code * 2 ^ 2

-- an exception that has no address
abbrev pub plain : ExcCode → Exc
plain code = record { code = code; bad = 0; unit = 0 }

-- an instruction of a coprocessor that may not be used
abbrev pub unusable : ℕ → Exc
unusable unit = record { code = Cpu; bad = 0; unit = unit }

-- an exception at an address
abbrev pub at_address : Exc → ℕ → Exc
at_address exc address = record exc { bad = address }
