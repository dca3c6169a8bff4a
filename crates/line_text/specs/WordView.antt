-- Words of the program, as what they show.
use Rattle.std.specs.Prelude.{ℕ, List, map}
use Rattle.std.specs.Borrow.{Bor}

abbrev pub word_seen : Bor (List ℕ) → List ℕ
word_seen word = word.now

abbrev pub words_seen : List (Bor (List ℕ)) → List (List ℕ)
words_seen words = map word_seen words
