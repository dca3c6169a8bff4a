-- The texts of the instructions: name, word and operands, a row for each.
use Rattle.std.specs.Prelude.{ℕ, ◌*◌, ◌^◌, List, [], ◌∷◌, ◌++◌, Option, codes}
use Rattle.std.specs.Map.{lookup}
use Rattle.std.specs.Str.{bytes_eq}
use Rattle.mips_isa.specs.Encoding.{word_of}
use Rattle.mips_isa.specs.declared.insn.Insn.{Insn}
use Rattle.mips_isa.specs.declared.insn.Insn.TheVariants.{Sll, Srl, Sra, Sllv, Srlv, Srav, Jr, Jalr, Syscall, Break, Mfhi, Mthi, Mflo, Mtlo, Mult, Multu, Div, Divu, Add, Addu, Sub, Subu, And, Or, Xor, Nor, Slt, Sltu, Bltz, Bgez, Bltzal, Bgezal, J, Jal, Beq, Bne, Blez, Bgtz, Addi, Addiu, Slti, Sltiu, Andi, Ori, Xori, Lui, Lb, Lh, Lwl, Lw, Lbu, Lhu, Lwr, Sb, Sh, Swl, Sw, Swr, Mfc0, Mtc0, Tlbr, Tlbwi, Tlbwr, Tlbp, Rfe}
use Rattle.mips_text.specs.declared.shape.Field.{Field}
use Rattle.mips_text.specs.declared.shape.Field.TheVariants.{Amount, Signed, Unsigned, Code, Branch, Jump}
use Rattle.mips_text.specs.declared.shape.OperandForm.{OperandForm}
use Rattle.mips_text.specs.declared.shape.OperandForm.TheVariants.{Register, Value, Optional, Based, Halves}
use Rattle.mips_text.specs.declared.shape.Slot.{Slot}
use Rattle.mips_text.specs.declared.shape.Slot.TheVariants.{Rd, Rs, Rt}

-- a register in its slot of a word
abbrev pub slot_word : Slot → ℕ → ℕ
slot_word Rs n = n * 2 ^ 21
slot_word Rt n = n * 2 ^ 16
slot_word Rd n = n * 2 ^ 11

-- a field of a word
abbrev pub field_word : Field → ℕ → ℕ
field_word Amount n = n * 2 ^ 6
field_word Signed n = n
field_word Unsigned n = n
field_word Code n = n * 2 ^ 6
field_word Branch n = n
field_word Jump n = n

-- the text of an instruction: its word with each operand 0, and its operands in the order in which they are written
pub record TextValue : Type 0 where
  pub word : ℕ
  pub operands : List OperandForm

-- a name with the instruction whose operands are 0, and its operands
abbrev pub row : List ℕ → Insn → List OperandForm → List ℕ × TextValue
row name insn operands = (name, record { word = word_of insn; operands = operands })

-- the operands by short names
abbrev rs : OperandForm
rs = Register Rs

abbrev rt : OperandForm
rt = Register Rt

abbrev rd : OperandForm
rd = Register Rd

-- shifts, jumps to a register, traps, and what computes on registers: opcode 0, by function
abbrev pub special_texts : List (List ℕ × TextValue)
special_texts =
    row (codes "sll") (Sll 0 0 0) (rd ∷ rt ∷ Value Amount ∷ [])
    ∷ row (codes "srl") (Srl 0 0 0) (rd ∷ rt ∷ Value Amount ∷ [])
    ∷ row (codes "sra") (Sra 0 0 0) (rd ∷ rt ∷ Value Amount ∷ [])
    ∷ row (codes "sllv") (Sllv 0 0 0) (rd ∷ rt ∷ rs ∷ [])
    ∷ row (codes "srlv") (Srlv 0 0 0) (rd ∷ rt ∷ rs ∷ [])
    ∷ row (codes "srav") (Srav 0 0 0) (rd ∷ rt ∷ rs ∷ [])
    ∷ row (codes "jr") (Jr 0) (rs ∷ [])
    ∷ row (codes "jalr") (Jalr 0 0) (rd ∷ rs ∷ [])
    ∷ row (codes "syscall") (Syscall 0) (Optional Code ∷ [])
    ∷ row (codes "break") (Break 0) (Optional Code ∷ [])
    ∷ row (codes "mfhi") (Mfhi 0) (rd ∷ [])
    ∷ row (codes "mflo") (Mflo 0) (rd ∷ [])
    ∷ row (codes "mthi") (Mthi 0) (rs ∷ [])
    ∷ row (codes "mtlo") (Mtlo 0) (rs ∷ [])
    ∷ row (codes "mult") (Mult 0 0) (rs ∷ rt ∷ [])
    ∷ row (codes "multu") (Multu 0 0) (rs ∷ rt ∷ [])
    ∷ row (codes "div") (Div 0 0) (rs ∷ rt ∷ [])
    ∷ row (codes "divu") (Divu 0 0) (rs ∷ rt ∷ [])
    ∷ row (codes "add") (Add 0 0 0) (rd ∷ rs ∷ rt ∷ [])
    ∷ row (codes "sub") (Sub 0 0 0) (rd ∷ rs ∷ rt ∷ [])
    ∷ row (codes "addu") (Addu 0 0 0) (rd ∷ rs ∷ rt ∷ [])
    ∷ row (codes "subu") (Subu 0 0 0) (rd ∷ rs ∷ rt ∷ [])
    ∷ row (codes "and") (And 0 0 0) (rd ∷ rs ∷ rt ∷ [])
    ∷ row (codes "or") (Or 0 0 0) (rd ∷ rs ∷ rt ∷ [])
    ∷ row (codes "xor") (Xor 0 0 0) (rd ∷ rs ∷ rt ∷ [])
    ∷ row (codes "nor") (Nor 0 0 0) (rd ∷ rs ∷ rt ∷ [])
    ∷ row (codes "slt") (Slt 0 0 0) (rd ∷ rs ∷ rt ∷ [])
    ∷ row (codes "sltu") (Sltu 0 0 0) (rd ∷ rs ∷ rt ∷ [])
    ∷ []

-- branches, jumps, and what computes with a half
abbrev pub immediate_rows : List (List ℕ × TextValue)
immediate_rows =
    row (codes "bltz") (Bltz 0 0) (rs ∷ Value Branch ∷ [])
    ∷ row (codes "bgez") (Bgez 0 0) (rs ∷ Value Branch ∷ [])
    ∷ row (codes "bltzal") (Bltzal 0 0) (rs ∷ Value Branch ∷ [])
    ∷ row (codes "bgezal") (Bgezal 0 0) (rs ∷ Value Branch ∷ [])
    ∷ row (codes "j") (J 0) (Value Jump ∷ [])
    ∷ row (codes "jal") (Jal 0) (Value Jump ∷ [])
    ∷ row (codes "beq") (Beq 0 0 0) (rs ∷ rt ∷ Value Branch ∷ [])
    ∷ row (codes "bne") (Bne 0 0 0) (rs ∷ rt ∷ Value Branch ∷ [])
    ∷ row (codes "blez") (Blez 0 0) (rs ∷ Value Branch ∷ [])
    ∷ row (codes "bgtz") (Bgtz 0 0) (rs ∷ Value Branch ∷ [])
    ∷ row (codes "addi") (Addi 0 0 0) (rt ∷ rs ∷ Value Signed ∷ [])
    ∷ row (codes "addiu") (Addiu 0 0 0) (rt ∷ rs ∷ Value Signed ∷ [])
    ∷ row (codes "slti") (Slti 0 0 0) (rt ∷ rs ∷ Value Signed ∷ [])
    ∷ row (codes "sltiu") (Sltiu 0 0 0) (rt ∷ rs ∷ Value Signed ∷ [])
    ∷ row (codes "andi") (Andi 0 0 0) (rt ∷ rs ∷ Value Unsigned ∷ [])
    ∷ row (codes "ori") (Ori 0 0 0) (rt ∷ rs ∷ Value Unsigned ∷ [])
    ∷ row (codes "xori") (Xori 0 0 0) (rt ∷ rs ∷ Value Unsigned ∷ [])
    ∷ row (codes "lui") (Lui 0 0) (rt ∷ Value Unsigned ∷ [])
    ∷ []

-- loads and stores
abbrev pub memory_rows : List (List ℕ × TextValue)
memory_rows =
    row (codes "lb") (Lb 0 0 0) (rt ∷ Based ∷ [])
    ∷ row (codes "lh") (Lh 0 0 0) (rt ∷ Based ∷ [])
    ∷ row (codes "lbu") (Lbu 0 0 0) (rt ∷ Based ∷ [])
    ∷ row (codes "lhu") (Lhu 0 0 0) (rt ∷ Based ∷ [])
    ∷ row (codes "lw") (Lw 0 0 0) (rt ∷ Based ∷ [])
    ∷ row (codes "lwl") (Lwl 0 0 0) (rt ∷ Based ∷ [])
    ∷ row (codes "lwr") (Lwr 0 0 0) (rt ∷ Based ∷ [])
    ∷ row (codes "sb") (Sb 0 0 0) (rt ∷ Based ∷ [])
    ∷ row (codes "sh") (Sh 0 0 0) (rt ∷ Based ∷ [])
    ∷ row (codes "sw") (Sw 0 0 0) (rt ∷ Based ∷ [])
    ∷ row (codes "swl") (Swl 0 0 0) (rt ∷ Based ∷ [])
    ∷ row (codes "swr") (Swr 0 0 0) (rt ∷ Based ∷ [])
    ∷ []

-- coprocessor 0
abbrev pub system_texts : List (List ℕ × TextValue)
system_texts =
    row (codes "mfc0") (Mfc0 0 0) (rt ∷ rd ∷ [])
    ∷ row (codes "mtc0") (Mtc0 0 0) (rt ∷ rd ∷ [])
    ∷ row (codes "tlbr") Tlbr []
    ∷ row (codes "tlbwi") Tlbwi []
    ∷ row (codes "tlbwr") Tlbwr []
    ∷ row (codes "tlbp") Tlbp []
    ∷ row (codes "rfe") Rfe []
    ∷ []

-- further forms of these
abbrev pub further_rows : List (List ℕ × TextValue)
further_rows =
    row (codes "nop") (Sll 0 0 0) []
    ∷ row (codes "move") (Addu 0 0 0) (rd ∷ rs ∷ [])
    ∷ row (codes "b") (Beq 0 0 0) (Value Branch ∷ [])
    ∷ row (codes "li") (Lui 0 0) (rt ∷ Halves ∷ [])
    ∷ row (codes "la") (Lui 0 0) (rt ∷ Halves ∷ [])
    ∷ []

-- the instructions by name
abbrev pub rows : List (List ℕ × TextValue)
rows = special_texts ++ immediate_rows ++ memory_rows ++ system_texts ++ further_rows

-- the text of a name
unfoldable pub instruction_text : List ℕ → Option TextValue
instruction_text name = lookup (bytes_eq name) rows
