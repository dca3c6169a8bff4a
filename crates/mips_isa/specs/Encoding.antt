-- The encoding, by the instruction table of docs/MACHINE.md, in its order. Two tables stand here: the form
-- of each instruction, from which its word follows, and what each word is read as.
use Rattle.std.specs.Prelude.{◌≡◌, ℕ, ◌+◌, ◌*◌, ◌%◌, ◌^◌, ◌<◌, Bool, true, IsTrue, nat_le, ◌==◌, ◌&&◌, ◌||◌, if◌then◌else◌, List, [], ◌∷◌}
use Rattle.mips_isa.specs.declared.insn.Insn.{Insn}
use Rattle.mips_isa.specs.declared.insn.Insn.TheVariants.{Sll, Srl, Sra, Sllv, Srlv, Srav, Jr, Jalr, Syscall, Break, Mfhi, Mthi, Mflo, Mtlo, Mult, Multu, Div, Divu, Add, Addu, Sub, Subu, And, Or, Xor, Nor, Slt, Sltu, Bltz, Bgez, Bltzal, Bgezal, J, Jal, Beq, Bne, Blez, Bgtz, Addi, Addiu, Slti, Sltiu, Andi, Ori, Xori, Lui, Lb, Lh, Lwl, Lw, Lbu, Lhu, Lwr, Sb, Sh, Swl, Sw, Swr, Mfc0, Mtc0, Tlbr, Tlbwi, Tlbwr, Tlbp, Rfe, Cop, Reserved}
use Rattle.mips_isa.specs.Fields.{opcode_of, rs_of, rt_of, rd_of, sh_of, function_of, code_of, imm_of, target_of}

-- the form of a word, with what each of its fields holds
pub data Form : Type 0 where
  -- an opcode, two sources, a destination, a shift amount and a function
  Register : ℕ → ℕ → ℕ → ℕ → ℕ → ℕ → Form
  -- opcode 0, a code and a function
  Coded : ℕ → ℕ → Form
  -- an opcode, two registers and a half word
  Immediate : ℕ → ℕ → ℕ → ℕ → Form
  -- an opcode and 26 bits
  Jump : ℕ → ℕ → Form
  -- the opcode of a coprocessor from 1 to 3, and 26 bits
  Coprocessor : ℕ → ℕ → Form
  -- a whole word, which is none of these
  Whole : ℕ → Form

-- the form of each instruction; a field that it does not use is 0
unfoldable pub form_of : Insn → Form
form_of (Sll rd rt sh) = Register 0 0 rt rd sh 0
form_of (Srl rd rt sh) = Register 0 0 rt rd sh 2
form_of (Sra rd rt sh) = Register 0 0 rt rd sh 3
form_of (Sllv rd rt rs) = Register 0 rs rt rd 0 4
form_of (Srlv rd rt rs) = Register 0 rs rt rd 0 6
form_of (Srav rd rt rs) = Register 0 rs rt rd 0 7
form_of (Jr rs) = Register 0 rs 0 0 0 8
form_of (Jalr rd rs) = Register 0 rs 0 rd 0 9
form_of (Syscall code) = Coded code 12
form_of (Break code) = Coded code 13
form_of (Mfhi rd) = Register 0 0 0 rd 0 16
form_of (Mflo rd) = Register 0 0 0 rd 0 18
form_of (Mthi rs) = Register 0 rs 0 0 0 17
form_of (Mtlo rs) = Register 0 rs 0 0 0 19
form_of (Mult rs rt) = Register 0 rs rt 0 0 24
form_of (Multu rs rt) = Register 0 rs rt 0 0 25
form_of (Div rs rt) = Register 0 rs rt 0 0 26
form_of (Divu rs rt) = Register 0 rs rt 0 0 27
form_of (Add rd rs rt) = Register 0 rs rt rd 0 32
form_of (Sub rd rs rt) = Register 0 rs rt rd 0 34
form_of (Addu rd rs rt) = Register 0 rs rt rd 0 33
form_of (Subu rd rs rt) = Register 0 rs rt rd 0 35
form_of (And rd rs rt) = Register 0 rs rt rd 0 36
form_of (Or rd rs rt) = Register 0 rs rt rd 0 37
form_of (Xor rd rs rt) = Register 0 rs rt rd 0 38
form_of (Nor rd rs rt) = Register 0 rs rt rd 0 39
form_of (Slt rd rs rt) = Register 0 rs rt rd 0 42
form_of (Sltu rd rs rt) = Register 0 rs rt rd 0 43
form_of (Bltz rs imm) = Immediate 1 rs 0 imm
form_of (Bgez rs imm) = Immediate 1 rs 1 imm
form_of (Bltzal rs imm) = Immediate 1 rs 16 imm
form_of (Bgezal rs imm) = Immediate 1 rs 17 imm
form_of (J target) = Jump 2 target
form_of (Jal target) = Jump 3 target
form_of (Beq rs rt imm) = Immediate 4 rs rt imm
form_of (Bne rs rt imm) = Immediate 5 rs rt imm
form_of (Blez rs imm) = Immediate 6 rs 0 imm
form_of (Bgtz rs imm) = Immediate 7 rs 0 imm
form_of (Addi rt rs imm) = Immediate 8 rs rt imm
form_of (Addiu rt rs imm) = Immediate 9 rs rt imm
form_of (Slti rt rs imm) = Immediate 10 rs rt imm
form_of (Sltiu rt rs imm) = Immediate 11 rs rt imm
form_of (Andi rt rs imm) = Immediate 12 rs rt imm
form_of (Ori rt rs imm) = Immediate 13 rs rt imm
form_of (Xori rt rs imm) = Immediate 14 rs rt imm
form_of (Lui rt imm) = Immediate 15 0 rt imm
form_of (Lb rt imm rs) = Immediate 32 rs rt imm
form_of (Lh rt imm rs) = Immediate 33 rs rt imm
form_of (Lbu rt imm rs) = Immediate 36 rs rt imm
form_of (Lhu rt imm rs) = Immediate 37 rs rt imm
form_of (Lw rt imm rs) = Immediate 35 rs rt imm
form_of (Lwl rt imm rs) = Immediate 34 rs rt imm
form_of (Lwr rt imm rs) = Immediate 38 rs rt imm
form_of (Sb rt imm rs) = Immediate 40 rs rt imm
form_of (Sh rt imm rs) = Immediate 41 rs rt imm
form_of (Sw rt imm rs) = Immediate 43 rs rt imm
form_of (Swl rt imm rs) = Immediate 42 rs rt imm
form_of (Swr rt imm rs) = Immediate 46 rs rt imm
form_of (Mfc0 rt rd) = Register 16 0 rt rd 0 0
form_of (Mtc0 rt rd) = Register 16 4 rt rd 0 0
form_of Tlbr = Register 16 16 0 0 0 1
form_of Tlbwi = Register 16 16 0 0 0 2
form_of Tlbwr = Register 16 16 0 0 0 6
form_of Tlbp = Register 16 16 0 0 0 8
form_of Rfe = Register 16 16 0 0 0 16
form_of (Cop op rest) = Coprocessor op rest
form_of (Reserved value) = Whole value

-- a row of a table: the key of its words, whether the unused fields are 0, and the instruction
pub record EncodingRow : Type 0 where
  pub key : ℕ
  pub is_clear : Bool
  pub insn : Insn

-- such a row, written on one line
abbrev pub entry : ℕ → Bool → Insn → EncodingRow
entry key is_clear insn = record { key = key; is_clear = is_clear; insn = insn }

-- the instruction of the row with this key, if its unused fields are 0, else the other one
abbrev pub find_row : ℕ → List EncodingRow → Insn → Insn
find_row key [] other = other
find_row key (r ∷ rows) other = if key == r.key then (if r.is_clear then r.insn else other) else find_row key rows other

-- opcode 0, by function
abbrev pub special_rows : ℕ → List EncodingRow
special_rows w =
    let rs = rs_of w in
    let rt = rt_of w in
    let rd = rd_of w in
    let sh = sh_of w in
    entry 0 (rs == 0) (Sll rd rt sh)
    ∷ entry 2 (rs == 0) (Srl rd rt sh)
    ∷ entry 3 (rs == 0) (Sra rd rt sh)
    ∷ entry 4 (sh == 0) (Sllv rd rt rs)
    ∷ entry 6 (sh == 0) (Srlv rd rt rs)
    ∷ entry 7 (sh == 0) (Srav rd rt rs)
    ∷ entry 8 (rt == 0 && rd == 0 && sh == 0) (Jr rs)
    ∷ entry 9 (rt == 0 && sh == 0) (Jalr rd rs)
    ∷ entry 12 true (Syscall (code_of w))
    ∷ entry 13 true (Break (code_of w))
    ∷ entry 16 (rs == 0 && rt == 0 && sh == 0) (Mfhi rd)
    ∷ entry 18 (rs == 0 && rt == 0 && sh == 0) (Mflo rd)
    ∷ entry 17 (rt == 0 && rd == 0 && sh == 0) (Mthi rs)
    ∷ entry 19 (rt == 0 && rd == 0 && sh == 0) (Mtlo rs)
    ∷ entry 24 (rd == 0 && sh == 0) (Mult rs rt)
    ∷ entry 25 (rd == 0 && sh == 0) (Multu rs rt)
    ∷ entry 26 (rd == 0 && sh == 0) (Div rs rt)
    ∷ entry 27 (rd == 0 && sh == 0) (Divu rs rt)
    ∷ entry 32 (sh == 0) (Add rd rs rt)
    ∷ entry 34 (sh == 0) (Sub rd rs rt)
    ∷ entry 33 (sh == 0) (Addu rd rs rt)
    ∷ entry 35 (sh == 0) (Subu rd rs rt)
    ∷ entry 36 (sh == 0) (And rd rs rt)
    ∷ entry 37 (sh == 0) (Or rd rs rt)
    ∷ entry 38 (sh == 0) (Xor rd rs rt)
    ∷ entry 39 (sh == 0) (Nor rd rs rt)
    ∷ entry 42 (sh == 0) (Slt rd rs rt)
    ∷ entry 43 (sh == 0) (Sltu rd rs rt)
    ∷ []

unfoldable pub special_of : ℕ → Insn
special_of w = find_row (function_of w) (special_rows w) (Reserved w)

-- opcode 1, by the field rt
abbrev pub regimm_rows : ℕ → List EncodingRow
regimm_rows w =
    let rs = rs_of w in
    let imm = imm_of w in
    entry 0 true (Bltz rs imm)
    ∷ entry 1 true (Bgez rs imm)
    ∷ entry 16 true (Bltzal rs imm)
    ∷ entry 17 true (Bgezal rs imm)
    ∷ []

unfoldable pub regimm_of : ℕ → Insn
regimm_of w = find_row (rt_of w) (regimm_rows w) (Reserved w)

-- opcode 16 and rs 16, by bits 20:0
abbrev pub system_operation_rows : List EncodingRow
system_operation_rows =
    entry 1 true Tlbr ∷ entry 2 true Tlbwi ∷ entry 6 true Tlbwr ∷ entry 8 true Tlbp ∷ entry 16 true Rfe ∷ []

unfoldable pub system_operation_of : ℕ → Insn
system_operation_of w = find_row (w % 2 ^ 21) system_operation_rows (Reserved w)

-- opcode 16, by the field rs
abbrev pub system_rows : ℕ → List EncodingRow
system_rows w =
    entry 16 true (system_operation_of w)
    ∷ entry 0 (w % 2 ^ 11 == 0) (Mfc0 (rt_of w) (rd_of w))
    ∷ entry 4 (w % 2 ^ 11 == 0) (Mtc0 (rt_of w) (rd_of w))
    ∷ []

unfoldable pub system_of : ℕ → Insn
system_of w = find_row (rs_of w) (system_rows w) (Reserved w)

-- all words, by opcode
abbrev pub opcode_rows : ℕ → List EncodingRow
opcode_rows w =
    let rs = rs_of w in
    let rt = rt_of w in
    let imm = imm_of w in
    let target = target_of w in
    entry 0 true (special_of w)
    ∷ entry 1 true (regimm_of w)
    ∷ entry 16 true (system_of w)
    ∷ entry 2 true (J target)
    ∷ entry 3 true (Jal target)
    ∷ entry 4 true (Beq rs rt imm)
    ∷ entry 5 true (Bne rs rt imm)
    ∷ entry 6 (rt == 0) (Blez rs imm)
    ∷ entry 7 (rt == 0) (Bgtz rs imm)
    ∷ entry 8 true (Addi rt rs imm)
    ∷ entry 9 true (Addiu rt rs imm)
    ∷ entry 10 true (Slti rt rs imm)
    ∷ entry 11 true (Sltiu rt rs imm)
    ∷ entry 12 true (Andi rt rs imm)
    ∷ entry 13 true (Ori rt rs imm)
    ∷ entry 14 true (Xori rt rs imm)
    ∷ entry 15 (rs == 0) (Lui rt imm)
    ∷ entry 32 true (Lb rt imm rs)
    ∷ entry 33 true (Lh rt imm rs)
    ∷ entry 36 true (Lbu rt imm rs)
    ∷ entry 37 true (Lhu rt imm rs)
    ∷ entry 35 true (Lw rt imm rs)
    ∷ entry 34 true (Lwl rt imm rs)
    ∷ entry 38 true (Lwr rt imm rs)
    ∷ entry 40 true (Sb rt imm rs)
    ∷ entry 41 true (Sh rt imm rs)
    ∷ entry 43 true (Sw rt imm rs)
    ∷ entry 42 true (Swl rt imm rs)
    ∷ entry 46 true (Swr rt imm rs)
    ∷ []

-- the primary opcodes of coprocessors 1 to 3
abbrev pub is_coprocessor : ℕ → Bool
is_coprocessor op = (nat_le 17 op && nat_le op 19) || (nat_le 49 op && nat_le op 51) || (nat_le 57 op && nat_le op 59)

-- what a word of an opcode without a row is
abbrev pub coprocessor_of : ℕ → Insn
coprocessor_of w = if is_coprocessor (opcode_of w) then Cop (opcode_of w) (target_of w) else Reserved w

-- the instruction that a word spells
unfoldable pub insn_of : ℕ → Insn
insn_of w = find_row (opcode_of w) (opcode_rows w) (coprocessor_of w)

-- the register form's word, from its fields
abbrev pub register_word : ℕ → ℕ → ℕ → ℕ → ℕ → ℕ → ℕ
register_word op rs rt rd sh function = op * 2 ^ 26 + rs * 2 ^ 21 + rt * 2 ^ 16 + rd * 2 ^ 11 + sh * 2 ^ 6 + function

abbrev pub coded_word : ℕ → ℕ → ℕ
coded_word code function = code * 2 ^ 6 + function

abbrev pub immediate_word : ℕ → ℕ → ℕ → ℕ → ℕ
immediate_word op rs rt imm = op * 2 ^ 26 + rs * 2 ^ 21 + rt * 2 ^ 16 + imm

abbrev pub jump_word : ℕ → ℕ → ℕ
jump_word op target = op * 2 ^ 26 + target

abbrev pub form_word : Form → ℕ
form_word (Register op rs rt rd sh function) = register_word op rs rt rd sh function
form_word (Coded code function) = coded_word code function
form_word (Immediate op rs rt imm) = immediate_word op rs rt imm
form_word (Jump op target) = jump_word op target
form_word (Coprocessor op rest) = jump_word op rest
form_word (Whole value) = value

-- the word of an instruction
abbrev pub word_of : Insn → ℕ
word_of insn = form_word (form_of insn)

-- each field of the register form is within its bits
pub record RegisterFits (op rs rt rd sh function : ℕ) : Type 0 where
  pub op_fits : op < 2 ^ 6
  pub rs_fits : rs < 2 ^ 5
  pub rt_fits : rt < 2 ^ 5
  pub rd_fits : rd < 2 ^ 5
  pub sh_fits : sh < 2 ^ 5
  pub function_fits : function < 2 ^ 6

pub record CodedFits (code function : ℕ) : Type 0 where
  pub code_fits : code < 2 ^ 20
  pub function_fits : function < 2 ^ 6

pub record ImmediateFits (op rs rt imm : ℕ) : Type 0 where
  pub op_fits : op < 2 ^ 6
  pub rs_fits : rs < 2 ^ 5
  pub rt_fits : rt < 2 ^ 5
  pub imm_fits : imm < 2 ^ 16

pub record JumpFits (op target : ℕ) : Type 0 where
  pub op_fits : op < 2 ^ 6
  pub target_fits : target < 2 ^ 26

pub record CoprocessorFits (op rest : ℕ) : Type 0 where
  pub is_opcode : IsTrue (is_coprocessor op)
  pub rest_fits : rest < 2 ^ 26

-- the form is a row's, and its fields fit
abbrev pub FormFits : Form → Type 0
FormFits (Register op rs rt rd sh function) = RegisterFits op rs rt rd sh function
FormFits (Coded code function) = CodedFits code function
FormFits (Immediate op rs rt imm) = ImmediateFits op rs rt imm
FormFits (Jump op target) = JumpFits op target
FormFits (Coprocessor op rest) = CoprocessorFits op rest
FormFits (Whole value) = ⊥

-- a row of the table gives w this instruction
abbrev pub IsRow : ℕ → Insn → Type 0
IsRow w insn = FormFits (form_of insn) × (w ≡ word_of insn)

-- the fields of the instruction fit; a reserved word has no row
abbrev pub IsEncodable : Insn → Type 0
IsEncodable (Reserved value) = (insn : Insn) → ¬ IsRow value insn
IsEncodable insn = FormFits (form_of insn)

-- the word w spells this instruction
abbrev pub Spells : ℕ → Insn → Type 0
Spells w insn = IsEncodable insn × (w ≡ word_of insn)
