use Rattle.std.proofs.Common.{◌≡◌, ◌≤◌, ◌++◌, length}
use Rattle.line_text.specs.Words.{words_of}
use Rattle.line_text.specs.WordView.{words_seen}
use Rattle.line_text.proofs.word_lists.few_words.Given as goal

-- the words so far and those to come are all of them
abbrev pub invariant-loop-word : goal.invariant-loop-word
invariant-loop-word g l = record {
  can : (goal.iterator-loop-word g).can_next l.word-iterator;
  finite : (goal.iterator-loop-word g).is_finite l.word-iterator;
  room : length l.words.items ≤ g.row.MOST;
  told : words_seen l.words.items ++ l.word-iterator ≡ words_of l.line;
}
