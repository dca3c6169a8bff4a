-- A word that has a row of the table is read as that row's instruction. The proof is by forms: an
-- instruction of a form that stands here needs no line of its own.
use Rattle.std.proofs.Common.{◌≡◌, ℕ, ◌+◌, ◌*◌, ◌%◌, ◌^◌, ◌≤◌, ◌⊎◌, ◌∙◌, ap, arith, rules}
use Rattle.std.proofs.lemmas.Bool.Decides.{nat_tests}
use Rattle.std.specs.Prelude.{IsTrue}
use Rattle.mips_isa.specs.declared.insn.Insn.{Insn}
use Rattle.mips_isa.specs.declared.insn.Insn.TheVariants.{Cop, Reserved}
use Rattle.mips_isa.specs.Fields.{opcode_of, rs_of, rt_of, rd_of, sh_of, function_of, code_of, imm_of, target_of}
use Rattle.mips_isa.specs.Encoding.{Form, FormFits, form_of, form_word, find_row, opcode_rows, coprocessor_of, Register, Coded, Immediate, Jump, Coprocessor, is_coprocessor, IsRow, insn_of, special_of, regimm_of, system_of, system_operation_of}

-- bits 10:0, which are 0 in a move from or to coprocessor 0
abbrev move_of : ℕ → ℕ
move_of w = w % 2 ^ 11

-- bits 20:0, which tell the operations of coprocessor 0 apart
abbrev operation_of : ℕ → ℕ
operation_of w = w % 2 ^ 21

-- The fields of a form's word. One that the form does not name is that of its word.

abbrev pub opcode_in : Form → ℕ
opcode_in (Register op rs rt rd sh function) = op
opcode_in (Coded code function) = 0
opcode_in (Immediate op rs rt imm) = op
opcode_in (Jump op target) = op
opcode_in (Coprocessor op rest) = op
opcode_in form = opcode_of (form_word form)

abbrev pub rs_in : Form → ℕ
rs_in (Register op rs rt rd sh function) = rs
rs_in (Immediate op rs rt imm) = rs
rs_in form = rs_of (form_word form)

abbrev pub rt_in : Form → ℕ
rt_in (Register op rs rt rd sh function) = rt
rt_in (Immediate op rs rt imm) = rt
rt_in form = rt_of (form_word form)

abbrev pub rd_in : Form → ℕ
rd_in (Register op rs rt rd sh function) = rd
rd_in form = rd_of (form_word form)

abbrev pub sh_in : Form → ℕ
sh_in (Register op rs rt rd sh function) = sh
sh_in form = sh_of (form_word form)

abbrev pub function_in : Form → ℕ
function_in (Register op rs rt rd sh function) = function
function_in (Coded code function) = function
function_in form = function_of (form_word form)

abbrev pub code_in : Form → ℕ
code_in (Coded code function) = code
code_in form = code_of (form_word form)

abbrev pub imm_in : Form → ℕ
imm_in (Immediate op rs rt imm) = imm
imm_in form = imm_of (form_word form)

abbrev pub target_in : Form → ℕ
target_in (Jump op target) = target
target_in (Coprocessor op rest) = rest
target_in form = target_of (form_word form)

abbrev pub move_in : Form → ℕ
move_in (Register op rs rt rd sh function) = sh * 2 ^ 6 + function
move_in form = move_of (form_word form)

abbrev pub operation_in : Form → ℕ
operation_in (Register op rs rt rd sh function) = rt * 2 ^ 16 + rd * 2 ^ 11 + sh * 2 ^ 6 + function
operation_in form = operation_of (form_word form)

-- A word that has a form has the fields of the form.

module _ (w : ℕ) where
  opcode_read : (form : Form) → FormFits form → w ≡ form_word form → opcode_of w ≡ opcode_in form
  opcode_read form fits is = search rules

  rs_read : (form : Form) → FormFits form → w ≡ form_word form → rs_of w ≡ rs_in form
  rs_read form fits is = search rules

  rt_read : (form : Form) → FormFits form → w ≡ form_word form → rt_of w ≡ rt_in form
  rt_read form fits is = search rules

  rd_read : (form : Form) → FormFits form → w ≡ form_word form → rd_of w ≡ rd_in form
  rd_read form fits is = search rules

  sh_read : (form : Form) → FormFits form → w ≡ form_word form → sh_of w ≡ sh_in form
  sh_read form fits is = search rules

  function_read : (form : Form) → FormFits form → w ≡ form_word form → function_of w ≡ function_in form
  function_read form fits is = search rules

  code_read : (form : Form) → FormFits form → w ≡ form_word form → code_of w ≡ code_in form
  code_read form fits is = search rules

  imm_read : (form : Form) → FormFits form → w ≡ form_word form → imm_of w ≡ imm_in form
  imm_read form fits is = search rules

  target_read : (form : Form) → FormFits form → w ≡ form_word form → target_of w ≡ target_in form
  target_read form fits is = search rules

  move_read : (form : Form) → FormFits form → w ≡ form_word form → move_of w ≡ move_in form
  move_read form fits is = search rules

  operation_read : (form : Form) → FormFits form → w ≡ form_word form → operation_of w ≡ operation_in form
  operation_read form fits is = search rules

-- the row by which a word of an opcode is read
insn_of-opcode : (w op : ℕ) → opcode_of w ≡ op → insn_of w ≡ find_row op (opcode_rows w) (coprocessor_of w)
unfolding insn_of
insn_of-opcode w op is = rw is

-- the opcodes of coprocessors 1 to 3, one by one
coprocessor_range : (op : ℕ) → IsTrue (is_coprocessor op) → ((17 ≤ op) × (op ≤ 19)) ⊎ (((49 ≤ op) × (op ≤ 51)) ⊎ ((57 ≤ op) × (op ≤ 59)))
coprocessor_range op is = grind (arith, nat_tests)

one_of_three : (op low : ℕ) → low ≤ op → op ≤ low + 2 → (op ≡ low) ⊎ ((op ≡ low + 1) ⊎ (op ≡ low + 2))
one_of_three op low above below = grind arith

insn_of-coprocessor : (w op : ℕ) → IsTrue (is_coprocessor op) → opcode_of w ≡ op → insn_of w ≡ Cop op (target_of w)
unfolding insn_of
insn_of-coprocessor w op is at = search (rules, coprocessor_range, one_of_three)

pub insn_of-row : (w : ℕ) (insn : Insn) → IsRow w insn → insn_of w ≡ insn
unfolding insn_of special_of regimm_of system_of system_operation_of form_of
insn_of-row w (Cop op rest) row =
    insn_of-coprocessor w op row.0.is_opcode (opcode_read w (Coprocessor op rest) row.0 row.1) ∙ ap (Cop op) (target_read w (Coprocessor op rest) row.0 row.1)
insn_of-row w (Reserved value) row = absurd row.0
insn_of-row w insn row =
    let form = form_of insn in
    insn_of-opcode w (opcode_in form) (opcode_read w form row.0 row.1)
    ∙ simp (
      function_read w form row.0 row.1,
      rs_read w form row.0 row.1,
      rt_read w form row.0 row.1,
      rd_read w form row.0 row.1,
      sh_read w form row.0 row.1,
      code_read w form row.0 row.1,
      imm_read w form row.0 row.1,
      target_read w form row.0 row.1,
      move_read w form row.0 row.1,
      operation_read w form row.0 row.1,
    )
