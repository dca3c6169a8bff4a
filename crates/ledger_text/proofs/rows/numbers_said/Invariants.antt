use Rattle.std.proofs.Common.{◌≡◌, ◌++◌, drop, length}
use Rattle.std.specs.Prelude.{map}
use Rattle.line_text.specs.WordView.{words_seen}
use Rattle.ledger_text.specs.RowText.{number_said}
use Rattle.ledger_text.proofs.rows.numbers_said.Given as goal

-- the numbers so far and those to come are all of them
abbrev pub invariant-loop-word : goal.invariant-loop-word
invariant-loop-word l = record {
  count : length l.numbers.items ≡ l.word-index;
  all : l.numbers.items ++ map number_said (words_seen (drop l.word-index l.words)) ≡ map number_said (words_seen l.words);
}
