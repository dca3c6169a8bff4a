-- The words that bytes spell.
use Rattle.std.proofs.Common.{arith, ◌≡◌, ◌<◌, ◌+◌, ◌-◌, ◌*◌, ◌++◌, ℕ, zero, suc, List, [], ◌∷◌, length, refl, sym, ◌∙◌}
use mathlib.Core.Path.{ap}
use Rattle.std.proofs.lemmas.List.{append_assoc}
use Rattle.byte_numbers.specs.Numbers.{word_at}
use Rattle.std.proofs.Common.{◌/◌, Bool, true, Err}
use Rattle.std.specs.Prelude.{nat_lt, if◌then◌else◌, Some}
use Rattle.std.proofs.lemmas.Bool.{lt-ltb}
use Rattle.handler_rules.specs.Verification.{first_bad_below, most_words, unless_bad, verified, words_from, words_in}

-- the words of a place on, with one at least, are that at the place and those behind it
next_word : (bytes : List ℕ) (i n : ℕ) → i < n → words_from bytes (i * 4) (n - i) ≡ word_at bytes (i * 4) ∷ words_from bytes ((i + 1) * 4) (n - (i + 1))
next_word bytes i n below =
    let one : n - i ≡ suc (n - (i + 1)) = omega arith in
    let place : i * 4 + 4 ≡ (i + 1) * 4 = omega arith in
    rw (one, sym place) refl

-- there are as many as are asked for
pub length_words : (bytes : List ℕ) (place n : ℕ) → length (words_from bytes place n) ≡ n
length_words bytes place zero = refl
length_words bytes place (suc n) = ap suc (length_words bytes (place + 4) n)

-- one word more of those to come
pub one_more : (bytes so_far : List ℕ) (word i n : ℕ) → i < n → so_far ++ words_from bytes (i * 4) (n - i) ≡ words_in bytes → word ≡ word_at bytes (i * 4)
    → (so_far ++ word ∷ []) ++ words_from bytes ((i + 1) * 4) (n - (i + 1)) ≡ words_in bytes
one_more bytes so_far word i n below all same =
    append_assoc so_far (word ∷ []) (words_from bytes ((i + 1) * 4) (n - (i + 1)))
    ∙ ap (λ (x : ℕ). so_far ++ x ∷ words_from bytes ((i + 1) * 4) (n - (i + 1))) same
    ∙ ap (λ (rest : List ℕ). so_far ++ rest) (sym (next_word bytes i n below)) ∙ all

-- more words than a handler may have
pub too_many : (bytes : List ℕ) → most_words < length bytes / 4 → Err (record { at = most_words }) ≡ verified (words_in bytes)
too_many bytes many =
    let count : length (words_in bytes) ≡ length bytes / 4 = length_words bytes 0 (length bytes / 4) in
    let more : nat_lt most_words (length (words_in bytes)) ≡ true = lt-ltb _ _ (rw count many) in
    sym (ap (λ (t : Bool). unless_bad (words_in bytes) (if t then Some most_words else first_bad_below (words_in bytes) (length (words_in bytes)))) more)
