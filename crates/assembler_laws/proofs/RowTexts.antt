-- The rows of words, and what is read by them.
use Rattle.std.proofs.Common.{◌≡◌, ℕ, ◌+◌, inl, inr, Bool, true, false, List, [], ◌∷◌, ◌++◌, Some, refl, subst, eqb-true}
use Rattle.std.specs.Prelude.{◌&&◌, not, nat_eq, codes}
use Rattle.std.proofs.lemmas.Bool.{and_parts, cases_Bool, not-true}
use Rattle.std.specs.List.{find, list_all, starts_with}
use Rattle.std.proofs.lemmas.Slice.Eq.{bytes_eq-Decides}
use Rattle.std.specs.Map.{lookup}
use Rattle.std.specs.Str.{bytes_eq}
use Rattle.mips_text.specs.Texts.{TextValue, further_rows, instruction_text}
use Rattle.mips_text.specs.WordRows.{main_rows, operand_bits, row_of, spells}
use Rattle.assembler_laws.proofs.LineTexts.{is_name}
use Rattle.assembler_laws.proofs.WordTexts.{is_one_word}

same_row : (a b : List ℕ × TextValue) → Some a ≡ Some b → a ≡ b
same_row a b is = cc

-- a row that is found passes, and what holds of each row holds of it
find_holds : (p test : List ℕ × TextValue → Bool) (rows : List (List ℕ × TextValue)) (row : List ℕ × TextValue) → list_all p rows ≡ true → find test rows ≡ Some row → (test row ≡ true) × (p row ≡ true)
find_holds p test [] row all found = cc
find_holds p test (r ∷ rows) row all found =
    let parts = and_parts (p r) (list_all p rows) all in
    elim (cases_Bool (test r)) [
      | inl here ↦ subst (λ x. (test x ≡ true) × (p x ≡ true)) (same_row r row (rw here at found)) (here, parts.0)
      | inr later ↦ find_holds p test rows row parts.1 (rw later at found)
    ]

-- no two rows have one name
abbrev are_apart : List (List ℕ × TextValue) → Bool
are_apart [] = true
are_apart (r ∷ rows) = list_all (λ row. not (bytes_eq row.0 r.0)) rows && are_apart rows

-- the name of a row that is found leads to the row's text
named_text : (test : List ℕ × TextValue → Bool) (rows more : List (List ℕ × TextValue)) (row : List ℕ × TextValue) → are_apart rows ≡ true → find test rows ≡ Some row
    → lookup (bytes_eq row.0) (rows ++ more) ≡ Some row.1
named_text test [] more row apart found = cc
named_text test (r ∷ rows) more row apart found =
    let parts = and_parts (list_all (λ other. not (bytes_eq other.0 r.0)) rows) (are_apart rows) apart in
    elim (cases_Bool (test r)) [
      | inl here ↦
          let is : r ≡ row = same_row r row (rw here at found) in
          subst (λ x. lookup (bytes_eq x.0) ((r ∷ rows) ++ more) ≡ Some x.1) is (let same : bytes_eq r.0 r.0 ≡ true = (bytes_eq-Decides r.0 r.0).1 refl in rw same refl)
      | inr later ↦
          let found_later : find test rows ≡ Some row = rw later at found in
          let other : bytes_eq row.0 r.0 ≡ false = not-true (bytes_eq row.0 r.0) (find_holds (λ x. not (bytes_eq x.0 r.0)) test rows row parts.0 found_later).1 in
          rw other (named_text test rows more row parts.1 found_later)
    ]

-- what each main row is: its name is that of an instruction, and it is one word
abbrev is_instruction : List ℕ × TextValue → Bool
is_instruction row = is_name row.0 && (not (starts_with nat_eq row.0 (codes ".")) && is_one_word row.1.operands)

-- the row of a word
pub record IsRowOf (word : ℕ) (row : List ℕ × TextValue) : Type 0 where
  pub name : is_name row.0 ≡ true
  pub no_directive : starts_with nat_eq row.0 (codes ".") ≡ false
  pub one_word : is_one_word row.1.operands ≡ true
  pub text : instruction_text row.0 ≡ Some row.1
  pub whole : word ≡ row.1.word + operand_bits row.1.operands word

pub row_found : (word : ℕ) (row : List ℕ × TextValue) → row_of word ≡ Some row → IsRowOf word row
unfolding row_of instruction_text
row_found word row found =
    let test : List ℕ × TextValue → Bool = λ r. spells r.1 word in
    let holds = find_holds is_instruction test main_rows row refl found in
    let parts = and_parts (is_name row.0) (not (starts_with nat_eq row.0 (codes ".")) && is_one_word row.1.operands) holds.1 in
    let more = and_parts (not (starts_with nat_eq row.0 (codes "."))) (is_one_word row.1.operands) parts.1 in
    record {
      name = parts.0;
      no_directive = not-true (starts_with nat_eq row.0 (codes ".")) more.0;
      one_word = more.1;
      text = named_text test main_rows further_rows row refl found;
      whole = eqb-true word (row.1.word + operand_bits row.1.operands word) holds.0;
    }
