-- The fields of a 32-bit word, by the bits that they take: docs/MACHINE.md, "Encoding".
use Rattle.std.specs.Prelude.{ℕ, ◌/◌, ◌%◌, ◌^◌}

-- bits 31:26
abbrev pub opcode_of : ℕ → ℕ
opcode_of w = w / 2 ^ 26

-- bits 25:21
abbrev pub rs_of : ℕ → ℕ
rs_of w = w / 2 ^ 21 % 2 ^ 5

-- bits 20:16
abbrev pub rt_of : ℕ → ℕ
rt_of w = w / 2 ^ 16 % 2 ^ 5

-- bits 15:11
abbrev pub rd_of : ℕ → ℕ
rd_of w = w / 2 ^ 11 % 2 ^ 5

-- bits 10:6
abbrev pub sh_of : ℕ → ℕ
sh_of w = w / 2 ^ 6 % 2 ^ 5

-- bits 5:0
abbrev pub function_of : ℕ → ℕ
function_of w = w % 2 ^ 6

-- bits 25:6
abbrev pub code_of : ℕ → ℕ
code_of w = w / 2 ^ 6 % 2 ^ 20

-- bits 15:0
abbrev pub imm_of : ℕ → ℕ
imm_of w = w % 2 ^ 16

-- bits 25:0
abbrev pub target_of : ℕ → ℕ
target_of w = w % 2 ^ 26
