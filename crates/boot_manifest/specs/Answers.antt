-- What the readers of lines answer.
use Rattle.std.specs.Prelude.{◌≡◌, ℕ, List, true}
use Rattle.std.specs.List.{list_all}
use Rattle.std.specs.Option.{option_copied}
use Rattle.line_text.specs.Characters.{is_text_byte}
use Rattle.boot_manifest.specs.declared.statement.EnvParts.{EnvParts}
use Rattle.boot_manifest.specs.Forms.{EnvWords}

abbrev pub parts_seen : EnvParts → EnvWords
parts_seen parts = record {
  name = parts.name.now;
  base = option_copied parts.base;
  stack = parts.stack.now;
  accept = parts.accept.now;
  file = parts.file.now;
}

-- a word of a text
abbrev pub IsText : List ℕ → Type 0
IsText word = list_all is_text_byte word ≡ true

abbrev pub AreTexts : List (List ℕ) → Type 0
AreTexts words = list_all (list_all is_text_byte) words ≡ true
