use Rattle.std.proofs.Common.{◌≡◌, ◌≤◌, ◌++◌, length}
use Rattle.line_text.specs.WordView.{words_seen}
use Rattle.ledger_text.specs.Words.{words_left, spaced_words}
use Rattle.ledger_text.proofs.words.few_words.Given as goal

-- the words so far and those that are left are all of them
abbrev pub invariant-words : goal.invariant-words
invariant-words l = record {
  room : length l.words.items ≤ 5;
  told : words_seen l.words.items ++ words_left l.left ≡ spaced_words l.fn.text;
}

abbrev pub decreases-words : goal.decreases-words
decreases-words l = length (words_left l.left)
