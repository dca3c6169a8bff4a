-- Rows that spell words.
use Rattle.std.proofs.Common.{◌≡◌, ◌-◌, List, [], ◌∷◌, Bool, refl, map, length, take, sym, ap, ◌∙◌, arith}
use Rattle.std.proofs.lemmas.List.{length-map, take-map}
use Rattle.line_text.specs.declared.table.TableRow.{TableRow}
use Rattle.mips_text.specs.Seen.{text_row_seen}
use Rattle.mips_text.specs.Texts.{rows}
use Rattle.mips_text.specs.WordRows.{main_rows}
use Rattle.mips_text.specs.declared.text.Text.{Text}
use Rattle.std.specs.List.{find}
use Rattle.std.specs.Option.{option_map}

-- a view of what is found is what is found in the view
pub find_seen : {A B : Type 0} (view : A → B) (test : B → Bool) (xs : List A) → option_map view (find (λ x. test (view x)) xs) ≡ find test (map view xs)
find_seen view test [] = refl
find_seen view test (x ∷ xs) = grind (arith, find_seen view test xs)

-- the rows of all texts without the last five are the main ones
pub main_seen : (texts : List (TableRow Text)) → map text_row_seen texts ≡ rows → map text_row_seen (take (length texts - 5) texts) ≡ main_rows
main_seen texts is =
    let count : length texts ≡ length rows = sym (length-map texts text_row_seen) ∙ ap length is in
    sym (take-map text_row_seen (length texts - 5) texts) ∙ ap (take (length texts - 5)) is ∙ ap (λ n. take (n - 5) rows) count
