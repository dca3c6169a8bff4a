-- A word has a row where its instruction has a name, and only there. The proof is by keys, and by computing
-- over the rows: an instruction needs no line of its own.
use Rattle.std.proofs.Common.{◌≡◌, ℕ, ◌+◌, ◌^◌, ◌∙◌, inl, inr, Bool, true, false, List, [], ◌∷◌, refl, sym, ap, map, arith, eq-eqb, subst}
use Rattle.std.proofs.lemmas.Bool.{cases_Bool, true≢false}
use Rattle.std.proofs.lemmas.Bool.Decides.{eqb_tells}
use Rattle.std.specs.Prelude.{◌==◌}
use Rattle.std.specs.List.{find}
use Rattle.std.specs.Option.{is_none, unwrap_or}
use Rattle.mips_isa.specs.declared.insn.Insn.{Insn}
use Rattle.mips_isa.specs.declared.insn.Insn.TheVariants.{Cop, Reserved}
use Rattle.mips_isa.specs.Encoding.{Spells, Whole, form_of, insn_of, special_of, regimm_of, system_of, system_operation_of}
use Rattle.mips_codec.proofs.RowsRead.{insn_of-row}
use Rattle.mips_codec.proofs.RowsFound.{Key, Special, Regimm, System, Operation, Opcode, key_of, has_row, row_for}
use Rattle.mips_codec.proofs.Spelling.{spells_insn_of}
use Rattle.mips_text.specs.WordRows.{is_nameless, main_rows, operand_bits, row_of, spells}
use Rattle.mips_text.specs.Texts.{TextValue}

-- a number for each key, by which rows are found
abbrev number_of : Key → ℕ
number_of (Special function) = function
number_of (Regimm rt) = 2 ^ 6 + rt
number_of (System rs) = 2 ^ 7 + rs
number_of (Operation low) = 2 ^ 8 + low
number_of (Opcode op) = 2 ^ 9 + op

-- the row whose word has an instruction's key
abbrev has_key_of : Insn → List ℕ × TextValue → Bool
has_key_of insn row = number_of (key_of (Whole row.1.word)) == number_of (key_of (form_of insn))

-- the first text that has it
abbrev text_at : List (List ℕ × TextValue) → Insn → TextValue
text_at rows insn = (unwrap_or (find (has_key_of insn) rows) ([], record { word = 0; operands = [] })).1

-- a word of the text with an instruction's key is one of an instruction with a name
name_at : (w : ℕ) (insn : Insn) → is_nameless insn ≡ false → w ≡ (text_at main_rows insn).word + operand_bits (text_at main_rows insn).operands w
    → is_nameless (insn_of w) ≡ false
unfolding form_of
name_at w (Cop op rest) name is = cc
name_at w (Reserved value) name is = cc
name_at w insn name is =
    ap is_nameless
    (insn_of-row w (row_for w insn).insn (has_row w insn refl (omega arith) (search arith)))

-- where one of these rows is a word's, its instruction has a name
abbrev Name : ℕ → List (List ℕ × TextValue) → Type 0
Name w [] = Unit {0}
Name w (row ∷ rows) = (w ≡ row.1.word + operand_bits row.1.operands w → is_nameless (insn_of w) ≡ false) × Name w rows

-- of a row, the text with the key of its word's instruction, and whether that has no name
abbrev seen : List ℕ × TextValue → TextValue × Bool
seen row = (text_at main_rows (insn_of row.1.word), is_nameless (insn_of row.1.word))

-- what is to be seen of a row
abbrev meant : List ℕ × TextValue → TextValue × Bool
meant row = (row.1, false)

name_of : (w : ℕ) (text : TextValue) (insn : Insn) → text_at main_rows insn ≡ text → is_nameless insn ≡ false → w ≡ text.word + operand_bits text.operands w → is_nameless (insn_of w) ≡ false
name_of w text insn is name spelled = name_at w insn name (subst (λ (t : TextValue). w ≡ t.word + operand_bits t.operands w) (sym is) spelled)

names_of : (w : ℕ) (rows : List (List ℕ × TextValue)) → map seen rows ≡ map meant rows → Name w rows
names_of w [] is = tt
names_of w (row ∷ rows) is =
    let first : seen row ≡ meant row = cc in
    let rest : map seen rows ≡ map meant rows = cc in
    (name_of w row.1 (insn_of row.1.word) (ap (λ (s : TextValue × Bool). s.0) first) (ap (λ (s : TextValue × Bool). s.1) first), names_of w rows rest)

main_name : (w : ℕ) → Name w main_rows
unfolding form_of insn_of special_of regimm_of system_of system_operation_of
main_name w = names_of w main_rows refl

name_found : (w : ℕ) (rows : List (List ℕ × TextValue)) → Name w rows → is_none (find (λ row. spells row.1 w) rows) ≡ false → is_nameless (insn_of w) ≡ false
name_found w [] names found = cc
name_found w (row ∷ rows) names found =
    elim (eqb_tells w (row.1.word + operand_bits row.1.operands w)) [
      | inl (test, is) ↦ names.0 is
      | inr (test, is) ↦ name_found w rows names.1 (rw test at found)
    ]

-- a text that has an instruction's key is that of a row
found_at : (w : ℕ) (test : List ℕ × TextValue → Bool) (other : List ℕ × TextValue) (rows : List (List ℕ × TextValue)) → is_none (find test rows) ≡ false
    → spells (unwrap_or (find test rows) other).1 w ≡ true → is_none (find (λ row. spells row.1 w) rows) ≡ false
found_at w test other [] known is = cc
found_at w test other (row ∷ rows) known is =
    elim (cases_Bool (spells row.1 w)) [
      | inl here ↦ rw here
      | inr not_here ↦ rw not_here (elim (cases_Bool (test row)) [
        | inl meant ↦ absurd (true≢false (sym (rw meant at is) ∙ not_here))
        | inr other_key ↦ found_at w test other rows (rw other_key at known) (rw other_key at is)
      ])
    ]

has : (w : ℕ) (insn : Insn) → is_none (find (has_key_of insn) main_rows) ≡ false → w ≡ (text_at main_rows insn).word + operand_bits (text_at main_rows insn).operands w
    → is_none (row_of w) ≡ false
unfolding row_of
has w insn known is = found_at w (has_key_of insn) _ main_rows known (eq-eqb _ _ is)

-- an instruction with a name has a row
row_spelled : (w : ℕ) (insn : Insn) → Spells w insn → is_nameless insn ≡ false → is_none (row_of w) ≡ false
unfolding form_of
row_spelled w (Cop op rest) s name = cc
row_spelled w (Reserved value) s name = cc
row_spelled w insn s name = has w insn refl (omega arith)

-- a word has no row just where its instruction has no name
pub nameless_rows : (w : ℕ) → is_none (row_of w) ≡ is_nameless (insn_of w)
unfolding row_of
nameless_rows w = elim (cases_Bool (is_nameless (insn_of w))) [
  | inl nameless ↦ elim (cases_Bool (is_none (row_of w))) [
    | inl none ↦ none ∙ sym nameless
    | inr found ↦ absurd (true≢false (sym nameless ∙ name_found w main_rows (main_name w) found))
  ]
  | inr name ↦ row_spelled w (insn_of w) (spells_insn_of w) name ∙ sym name
]
