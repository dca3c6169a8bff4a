-- Rows of texts, and what holds of each.
use Rattle.std.proofs.Common.{◌≡◌, ◌<◌, ◌≤◌, ◌∙◌, ℕ, List, Option, Some, None, Bool, true, refl, map, ap, length, sym, arith}
use Rattle.std.proofs.lemmas.Map.Made.{lookup-map_values}
use Rattle.std.proofs.lemmas.Option.{IfSome_then}
use Rattle.std.proofs.lemmas.Simd.{map-map}
use Rattle.std.specs.Prelude.{IfSome, nat_lt}
use Rattle.std.specs.List.{list_all}
use Rattle.std.specs.Map.{lookup}
use Rattle.std.specs.Option.{option_map}
use Rattle.line_text.specs.declared.table.TableRow.{TableRow}
use Rattle.line_text.specs.Table as tables
use Rattle.line_text.specs.Table.{rows_seen}
use Rattle.line_text.proofs.TableLemmas.{lookup_below}
use Rattle.mips_isa.specs.Encoding.{form_of}
use Rattle.mips_text.specs.Seen.{text_row_seen, text_seen}
use Rattle.mips_text.specs.Texts.{TextValue, rows}
use Rattle.mips_text.specs.declared.text.Text.{Text}
use Rattle.mips_text.specs.Limits.{text_word_limit, most_operands}

-- what is found among texts is what is found among them as plain data
pub lookup_seen : (test : List ℕ → Bool) (texts : List (TableRow Text)) → option_map text_seen (lookup test (rows_seen texts)) ≡ lookup test (map text_row_seen texts)
lookup_seen test texts =
    sym (lookup-map_values text_seen test (rows_seen texts))
    ∙ ap (lookup test) (map-map (λ (row : List ℕ × Text). (row.0, text_seen row.1)) tables.row_seen texts)

-- a bound on each row is one on the text that is found
found_below : (size : TextValue → ℕ) (n : ℕ) (test : List ℕ → Bool) (found : Option Text) → list_all (λ row. nat_lt (size row.1) n) rows ≡ true → option_map text_seen found ≡ lookup test rows
    → IfSome found (λ text. size (text_seen text) < n)
found_below size n test None all is = tt
found_below size n test (Some text) all is = rw (← is) at (lookup_below size n test rows all)

-- no opcode above 47 has a row
pub found_small : (test : List ℕ → Bool) (found : Option Text) → option_map text_seen found ≡ lookup test rows → IfSome found (λ text. text.word < text_word_limit)
unfolding form_of
found_small test found is = found_below (λ (text : TextValue). text.word) text_word_limit test found refl is

-- no instruction has more than three operands
pub found_few : (test : List ℕ → Bool) (found : Option Text) → option_map text_seen found ≡ lookup test rows → IfSome found (λ text. length text.operands.now ≤ most_operands)
found_few test found is = IfSome_then found (found_below (λ (text : TextValue). length text.operands) 4 test found refl is) (λ text few. omega arith)
