-- Parts of a file are bytes, numbers of them spell them again, and what stands behind a text.
use Rattle.std.proofs.Common.{◌≡◌, ◌≤◌, ◌<◌, ◌^◌, ℕ, ◌+◌, List, [], ◌∷◌, ◌++◌, length, take, drop, inl, inr, refl, sym, ap, ◌∙◌, arith}
use Rattle.std.specs.Int.{w16, w32, to_le_bytes}
use Rattle.std.proofs.lemmas.Bool.{cases_lt}
use Rattle.std.proofs.lemmas.List.{length-take, length-drop, get_or-drop, get_or-take, get_or_past, drop_at, drop-drop}
use Rattle.std.proofs.lemmas.Nat.{le_bytes_2, le_bytes_4}
use Rattle.byteorder.specs.Endian.{little_number}
use Rattle.byteorder.specs.Numbers.{little_from-lt, little_number-reads_back}
use Rattle.byte_numbers.specs.Numbers.{half_at, word_at}
use Rattle.boot_image.specs.ImageValue.{IsBytes}

IsBytes-drop : (n : ℕ) (bytes : List ℕ) → IsBytes bytes → IsBytes (drop n bytes)
IsBytes-drop n bytes fits i = rw get_or-drop (fits (n + i))

IsBytes-take : (n : ℕ) (bytes : List ℕ) → IsBytes bytes → IsBytes (take n bytes)
IsBytes-take n bytes fits i =
    elim (cases_lt i n) [
      | inl below ↦ rw (get_or-take n bytes i 0 below) (fits i)
      | inr above ↦ rw (get_or_past (take n bytes) i 0 (omega (arith, length-take n bytes))) (omega arith)
    ]

four_bytes : (xs : List ℕ) → IsBytes xs → 4 ≤ length xs → to_le_bytes w32 (little_number 4 xs) ≡ take 4 xs
four_bytes [] fits long = absurd (omega (arith, long))
four_bytes (a ∷ []) fits long = absurd (omega (arith, long))
four_bytes (a ∷ b ∷ []) fits long = absurd (omega (arith, long))
four_bytes (a ∷ b ∷ c ∷ []) fits long = absurd (omega (arith, long))
four_bytes (a ∷ b ∷ c ∷ d ∷ xs) fits long = le_bytes_4 (a ∷ b ∷ c ∷ d ∷ []) _ refl (IsBytes-take 4 (a ∷ b ∷ c ∷ d ∷ xs) fits) (omega arith)

two_bytes : (xs : List ℕ) → IsBytes xs → 2 ≤ length xs → to_le_bytes w16 (little_number 2 xs) ≡ take 2 xs
two_bytes [] fits long = absurd (omega (arith, long))
two_bytes (a ∷ []) fits long = absurd (omega (arith, long))
two_bytes (a ∷ b ∷ xs) fits long = le_bytes_2 (a ∷ b ∷ []) _ refl (IsBytes-take 2 (a ∷ b ∷ xs) fits) (omega arith)

-- a number of the file spells its bytes again
pub word_bytes : (file : List ℕ) (i : ℕ) → IsBytes file → i + 4 ≤ length file → to_le_bytes w32 (word_at file i) ≡ take 4 (drop i file)
unfolding word_at
word_bytes file i fits within = four_bytes (drop i file) (IsBytes-drop i file fits) (omega (arith, length-drop i file))

pub half_bytes : (file : List ℕ) (i : ℕ) → IsBytes file → i + 2 ≤ length file → to_le_bytes w16 (half_at file i) ≡ take 2 (drop i file)
unfolding half_at
half_bytes file i fits within = two_bytes (drop i file) (IsBytes-drop i file fits) (omega (arith, length-drop i file))

pub word_small : (file : List ℕ) (i : ℕ) → IsBytes file → word_at file i < 2 ^ 32
unfolding word_at
word_small file i fits = little_from-lt 0 4 (drop i file) (IsBytes-drop i file fits)

-- what stands behind a text
pub behind : (file : List ℕ) (i : ℕ) (text rest : List ℕ) (j : ℕ) → drop i file ≡ text ++ rest → i + length text ≡ j → drop j file ≡ rest
behind file i text rest j stands ends =
    ap (λ (k : ℕ). drop k file) (sym ends) ∙ sym (drop-drop (length text) i file) ∙ ap (drop (length text)) stands ∙ drop_at text rest (length text) refl

-- a number that was spelled at place k of a text, which stands in the file from i on
pub word_read : (file : List ℕ) (i : ℕ) (text : List ℕ) (k n : ℕ) (rest : List ℕ) (j : ℕ) → drop i file ≡ text → drop k text ≡ to_le_bytes w32 n ++ rest → n < 2 ^ 32 → i + k ≡ j → word_at file j ≡ n
unfolding word_at
word_read file i text k n rest j stands spelled fits place =
    ap (little_number 4) (ap (λ (j : ℕ). drop j file) (sym place) ∙ sym (drop-drop k i file) ∙ ap (drop k) stands ∙ spelled) ∙ little_number-reads_back 4 n rest fits

pub half_read : (file : List ℕ) (i : ℕ) (text : List ℕ) (k n : ℕ) (rest : List ℕ) (j : ℕ) → drop i file ≡ text → drop k text ≡ to_le_bytes w16 n ++ rest → n < 2 ^ 16 → i + k ≡ j → half_at file j ≡ n
unfolding half_at
half_read file i text k n rest j stands spelled fits place =
    ap (little_number 2) (ap (λ (j : ℕ). drop j file) (sym place) ∙ sym (drop-drop k i file) ∙ ap (drop k) stands ∙ spelled) ∙ little_number-reads_back 2 n rest fits
