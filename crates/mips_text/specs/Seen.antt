-- What the program holds, as plain data.
use Rattle.std.specs.Prelude.{ℕ, List}
use Rattle.line_text.specs.declared.table.TableRow.{TableRow}
use Rattle.mips_text.specs.Texts.{TextValue}
use Rattle.mips_text.specs.declared.text.Text.{Text}

abbrev pub text_seen : Text → TextValue
text_seen text = record { word = text.word; operands = text.operands.now }

abbrev pub text_row_seen : TableRow Text → List ℕ × TextValue
text_row_seen row = (row.name.now, text_seen row.meaning)
