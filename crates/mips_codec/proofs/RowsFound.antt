-- What a word is read as is a row of the table that the word has, or the reserved word itself. The proof
-- is by forms and keys: an instruction whose form and key stand here needs no line of its own.
use Rattle.std.proofs.Common.{◌≡◌, ℕ, ◌<◌, ◌%◌, ◌^◌, ◌⊎◌, Bool, true, false, List, [], ◌∷◌, map, inl, ap, eqb-true, sym, subst, rules}
use Rattle.std.proofs.lemmas.Bool.Decides.{eqb_tells}
use Rattle.std.specs.Prelude.{IsTrue, ◌==◌, if◌then◌else◌}
use Rattle.mips_isa.specs.declared.insn.Insn.{Insn}
use Rattle.mips_isa.specs.declared.insn.Insn.TheVariants.{Cop, Reserved}
use Rattle.mips_isa.specs.Fields.{opcode_of, rs_of, rt_of, rd_of, sh_of, function_of, code_of, imm_of, target_of}
use Rattle.mips_isa.specs.Encoding.{Form, Register, Coded, Immediate, Jump, Coprocessor, Whole, FormFits, form_of, form_word, is_coprocessor, IsRow, EncodingRow, entry, find_row, special_rows, special_of, regimm_rows, regimm_of, system_operation_rows, system_operation_of, system_rows, system_of, opcode_rows, coprocessor_of, insn_of}
use Rattle.mips_codec.proofs.RowsRead.{opcode_in, rs_in, rt_in, function_in, operation_in}

-- a row has w, or the instruction is the reserved word w
abbrev pub IsFound : ℕ → Insn → Type 0
IsFound w insn = IsRow w insn ⊎ (insn ≡ Reserved w)

-- Forms that a word has.

-- the fields of the word are those of the form, and the opcode is one
abbrev Holds : ℕ → Form → Type 0
Holds w (Register op rs rt rd sh function) = (op < 2 ^ 6) × (opcode_of w ≡ op) × (rs_of w ≡ rs) × (rt_of w ≡ rt) × (rd_of w ≡ rd) × (sh_of w ≡ sh) × (function_of w ≡ function)
Holds w (Coded code function) = (opcode_of w ≡ 0) × (code_of w ≡ code) × (function_of w ≡ function)
Holds w (Immediate op rs rt imm) = (op < 2 ^ 6) × (opcode_of w ≡ op) × (rs_of w ≡ rs) × (rt_of w ≡ rt) × (imm_of w ≡ imm)
Holds w (Jump op target) = (op < 2 ^ 6) × (opcode_of w ≡ op) × (target_of w ≡ target)
Holds w (Coprocessor op rest) = IsTrue (is_coprocessor op) × (opcode_of w ≡ op) × (target_of w ≡ rest)
Holds w (Whole value) = ⊥

has_form : (w : ℕ) (form : Form) → Holds w form → FormFits form × (w ≡ form_word form)
has_form w form h = search rules

-- Keys.

-- a table, and the key of a row in it
pub data Key : Type 0 where
  -- opcode 0 and a function
  Special : ℕ → Key
  -- opcode 1 and the field rt
  Regimm : ℕ → Key
  -- opcode 16 and the field rs
  System : ℕ → Key
  -- opcode 16, rs 16 and bits 20:0
  Operation : ℕ → Key
  -- any other opcode
  Opcode : ℕ → Key

-- the word has the key
abbrev pub HasKey : ℕ → Key → Type 0
HasKey w (Special function) = (opcode_of w ≡ 0) × (function_of w ≡ function)
HasKey w (Regimm rt) = (opcode_of w ≡ 1) × (rt_of w ≡ rt)
HasKey w (System rs) = (opcode_of w ≡ 16) × (rs_of w ≡ rs)
HasKey w (Operation low) = (opcode_of w ≡ 16) × (rs_of w ≡ 16) × (w % 2 ^ 21 ≡ low)
HasKey w (Opcode op) = opcode_of w ≡ op

-- the key of a form's words
abbrev pub key_of : Form → Key
key_of form =
    if opcode_in form == 0 then Special (function_in form)
    else (if opcode_in form == 1 then Regimm (rt_in form)
    else (if opcode_in form == 16 then (if rs_in form == 16 then Operation (operation_in form) else System (rs_in form))
    else Opcode (opcode_in form)))

-- the row of a list with this key
abbrev pub at : ℕ → List EncodingRow → EncodingRow
at key [] = entry key false (Reserved 0)
at key (r ∷ rows) = if key == r.key then r else at key rows

-- the row of a word with a key, in its table
abbrev pub row_at : ℕ → Key → EncodingRow
row_at w (Special function) = at function (special_rows w)
row_at w (Regimm rt) = at rt (regimm_rows w)
row_at w (System rs) = at rs (system_rows w)
row_at w (Operation low) = at low system_operation_rows
row_at w (Opcode op) = at op (opcode_rows w)

-- the row with an instruction's key
abbrev pub row_for : ℕ → Insn → EncodingRow
row_for w insn = row_at w (key_of (form_of insn))

-- the instruction is one of a row
abbrev pub is_listed : Insn → Bool
is_listed (Cop op rest) = false
is_listed (Reserved value) = false
is_listed _ = true

-- a word with an instruction's key, whose unused fields are 0, has the row
pub has_row : (w : ℕ) (insn : Insn) → is_listed insn ≡ true → HasKey w (key_of (form_of insn)) → IsTrue (row_for w insn).is_clear → IsRow w (row_for w insn).insn
unfolding form_of
has_row w insn listed key clear = search (rules, has_form, eqb-true)

-- Tables.

-- each row with this key and clear fields has an instruction of which P holds
abbrev AllRows : (Insn → Type 0) → ℕ → List EncodingRow → Type 0
AllRows P key [] = Unit {0}
AllRows P key (r ∷ rows) = (key ≡ r.key → IsTrue r.is_clear → P r.insn) × AllRows P key rows

find_row-All : (P : Insn → Type 0) (key : ℕ) (rows : List EncodingRow) (other : Insn) → AllRows P key rows → P other → P (find_row key rows other)
find_row-All P key [] other all on_other = on_other
find_row-All P key (r ∷ rows) other all on_other = search (rules, eqb_tells, (find_row-All P key rows other all.1 on_other))

-- of a row, the row and the key that its instruction has, and whether that is one of a row
record Seen : Type 0 where
  row : EncodingRow
  key : Key
  listed : Bool

abbrev seen : ℕ → EncodingRow → Seen
seen w r = record { row = row_for w r.insn; key = key_of (form_of r.insn); listed = is_listed r.insn }

-- what is to be seen of a row, where the table has these keys
abbrev meant : (ℕ → Key) → EncodingRow → Seen
meant key r = record { row = r; key = key r.key; listed = true }

row_found : (w : ℕ) (r : EncodingRow) (insn : Insn) → row_for w insn ≡ r → is_listed insn ≡ true → HasKey w (key_of (form_of insn)) → IsTrue r.is_clear → IsFound w r.insn
row_found w r insn is listed key clear = subst (λ q. IsTrue q.is_clear → IsFound w q.insn) is (λ c. inl (has_row w insn listed key c)) clear

-- that it is seen of each row is a matter of computing
rows_found : (w k : ℕ) (key : ℕ → Key) → ((n : ℕ) → k ≡ n → HasKey w (key n)) → (rows : List EncodingRow) → map (seen w) rows ≡ map (meant key) rows → AllRows (IsFound w) k rows
rows_found w k key has [] is = tt
rows_found w k key has (r ∷ rows) is =
    let first : seen w r ≡ meant key r = cc in
    let rest : map (seen w) rows ≡ map (meant key) rows = cc in (
      λ here clear. row_found w r r.insn (ap (λ (s : Seen). s.row) first) (ap (λ (s : Seen). s.listed) first) (subst (HasKey w) (sym (ap (λ (s : Seen). s.key) first)) (has r.key here)) clear,
      rows_found w k key has rows rest,
    )

special_of-found : (w : ℕ) → opcode_of w ≡ 0 → IsFound w (special_of w)
unfolding special_of form_of
special_of-found w op_is = search (rules, find_row-All, rows_found)

regimm_of-found : (w : ℕ) → opcode_of w ≡ 1 → IsFound w (regimm_of w)
unfolding regimm_of form_of
regimm_of-found w op_is = search (rules, find_row-All, rows_found)

system_operation_of-found : (w : ℕ) → opcode_of w ≡ 16 → rs_of w ≡ 16 → IsFound w (system_operation_of w)
unfolding system_operation_of form_of
system_operation_of-found w op_is rs_is = search (rules, find_row-All, rows_found)

system_of-found : (w : ℕ) → opcode_of w ≡ 16 → IsFound w (system_of w)
unfolding system_of form_of
system_of-found w op_is = search (rules, find_row-All, system_operation_of-found, rows_found)

coprocessor_of-found : (w : ℕ) → IsFound w (coprocessor_of w)
unfolding form_of
coprocessor_of-found w = search (rules, has_form)

pub insn_of-found : (w : ℕ) → IsFound w (insn_of w)
unfolding insn_of form_of
insn_of-found w = search (rules, find_row-All, special_of-found, regimm_of-found, system_of-found, rows_found, coprocessor_of-found)
