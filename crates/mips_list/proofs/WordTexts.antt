-- The text of a word by its row.
use Rattle.std.proofs.Common.{◌≡◌, ℕ, Option, Some, false, sym, ap, ◌∙◌}
use Rattle.std.specs.Option.{is_none, option_map}
use Rattle.line_text.specs.declared.table.TableRow.{TableRow}
use Rattle.mips_isa.specs.Encoding.{insn_of}
use Rattle.mips_text.specs.Seen.{text_row_seen}
use Rattle.mips_text.specs.WordRows.{is_nameless, row_of}
use Rattle.mips_text.specs.declared.text.Text.{Text}
use Rattle.mips_text.proofs.NamedWords.{nameless_rows}
use Rattle.mips_list.specs.WordText.{row_text, word_text}

-- a word whose row is found has the row's text
pub word_text_by_row : (word address : ℕ) (found : Option (TableRow Text)) (row : TableRow Text) → option_map text_row_seen found ≡ row_of word → found ≡ Some row
    → word_text word address ≡ row_text (text_row_seen row) word address
unfolding word_text
word_text_by_row word address found row same is =
    let has = sym same ∙ ap (option_map text_row_seen) is in
    let has_name : is_nameless (insn_of word) ≡ false = sym (nameless_rows word) ∙ ap is_none has in
    rw (has_name, has)
