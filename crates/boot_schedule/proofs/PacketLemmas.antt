-- A packet's line that is read straight through says what its words say.
use Rattle.std.proofs.Common.{◌≡◌, ℕ, suc, ◌+◌, ◌<◌, ◌≤◌, Bool, true, false, not, List, [], ◌∷◌, ◌++◌, Option, Some, None, Ok, length, take, drop, refl, sym, ap, ◌∙◌, subst, arith, inl, inr}
use Rattle.std.specs.Prelude.{All, ◌&&◌, ◌==◌, codes, filter, nat_le, nat_lt, nat_eq}
use Rattle.std.specs.Char.{is_digit}
use Rattle.std.specs.List.{list_all, position_or_len, slice_split, starts_with}
use Rattle.std.proofs.lemmas.Grind.{common_steps}
use Rattle.std.proofs.lemmas.Bool.{and_from, and_parts, cases_Bool, leb-true, ltb-true}
use Rattle.std.proofs.lemmas.Bool.Decides.{Decides-eqb}
use Rattle.std.proofs.lemmas.List.{take-append-drop}
use Rattle.std.proofs.lemmas.Slice.Eq.{starts_is}
use Rattle.std.proofs.lemmas.List.Folds.{list_all-append}
use Rattle.std.proofs.lemmas.List.Splits.{slice_split_at, slice_split_none}
use Rattle.std.proofs.lemmas.List.Sums.{AllPass-from_list_all, list_all-from_AllPass}
use Rattle.hex.specs.Hex.{decode_of, is_hex_digit}
use Rattle.hex.proofs.HexLemmas.{decode_of-ok}
use Rattle.line_text.specs.Characters.{is_blank, is_text_byte}
use Rattle.line_text.specs.Number.{digits_number, number_of, number_within}
use Rattle.line_text.specs.Words.{before_comment, is_word, line_words}
use Rattle.external_event.specs.declared.event.Occurrence.TheVariants.{Packet}
use Rattle.external_event.specs.Packet.{packet_of}
use Rattle.aegis_limits.specs.Limits.{most_run_ticks}
use Rattle.boot_schedule.specs.Saying.{event_at, said}

-- a byte of a word: a text's, no blank and not what a comment begins with
abbrev is_plain : ℕ → Bool
is_plain b = is_text_byte b && not (is_blank b) && not (b == 35)

-- what holds of each element that passes a test
all_of : (p q : ℕ → Bool) → ((b : ℕ) → p b ≡ true → q b ≡ true) → (xs : List ℕ) → list_all p xs ≡ true → list_all q xs ≡ true
all_of p q each [] all = refl
all_of p q each (x ∷ xs) all =
    let both = and_parts (p x) (list_all p xs) all in
    and_from (q x) (list_all q xs) (each x both.0) (all_of p q each xs both.1)

-- digits are bytes of words
digit_plain : (base : ℕ) → base ≤ 16 → (b : ℕ) → is_digit b base ≡ true → is_plain b ≡ true
digit_plain base small b is = grind (arith, common_steps)

hex_plain : (b : ℕ) → is_hex_digit b ≡ true → is_plain b ≡ true
hex_plain b is = grind (arith, common_steps)

-- a number's word has such bytes, one at least
digits_plain : (base count n : ℕ) (ds : List ℕ) → base ≤ 16 → digits_number base count ds ≡ Some n → (list_all is_plain ds ≡ true) × (0 < length ds)
digits_plain base count n ds small is =
    let facts : (list_all (λ c. is_digit c base) ds ≡ true) × (nat_lt 0 (length ds) ≡ true) = grind (arith, common_steps) in
    (all_of (λ c. is_digit c base) is_plain (digit_plain base small) ds facts.0, ltb-true 0 (length ds) facts.1)

number_plain : (n : ℕ) (word : List ℕ) → number_of word ≡ Some n → (list_all is_plain word ≡ true) × (0 < length word)
unfolding number_of
number_plain n word is =
    elim (cases_Bool (starts_with nat_eq word (codes "0x"))) [
      | inl hexadecimal ↦
          let whole = (starts_is Decides-eqb word (codes "0x") (starts_with nat_eq word (codes "0x")) refl).0 hexadecimal in
          let rest = digits_plain 16 8 n (drop 2 word) (omega arith) (rw hexadecimal at is) in
          (subst (λ w. list_all is_plain w ≡ true) (sym whole) rest.0, rw whole (omega arith))
      | inr other ↦ digits_plain 10 10 n word (omega arith) (rw other at is)
    ]

within_is : (least most n : ℕ) (word : List ℕ) → number_within least most word ≡ Some n → (o : Option ℕ) → number_of word ≡ o → number_of word ≡ Some n
within_is least most n word is None none = cc (rw none at is)
within_is least most n word is (Some m) some = grind (arith, common_steps)

hex_word : (word bytes packet : List ℕ) → decode_of word ≡ Ok bytes → packet_of bytes ≡ Some packet → (list_all is_plain word ≡ true) × (0 < length word)
hex_word word bytes packet decoded is =
    let facts = decode_of-ok word bytes decoded in
    let some : nat_le 1 (length bytes) ≡ true = grind (arith, common_steps) in
    (all_of is_hex_digit is_plain hex_plain word (list_all-from_AllPass is_hex_digit word facts.1), omega (arith, facts.2, leb-true 1 (length bytes) some))

-- three words, with a space between two
abbrev three : List ℕ → List ℕ → List ℕ → List ℕ
three a b c = a ++ 32 ∷ (b ++ 32 ∷ c)

all_three : (t : ℕ → Bool) → ((b : ℕ) → is_plain b ≡ true → t b ≡ true) → t 32 ≡ true → (a b c : List ℕ) → list_all is_plain a ≡ true → list_all is_plain b ≡ true → list_all is_plain c ≡ true
    → list_all t (three a b c) ≡ true
all_three t each space a b c first second third =
    list_all-append t a (32 ∷ (b ++ 32 ∷ c))
    ∙ and_from (list_all t a) (t 32 && list_all t (b ++ 32 ∷ c)) (all_of is_plain t each a first)
    (and_from (t 32) (list_all t (b ++ 32 ∷ c)) space
    (list_all-append t b (32 ∷ c) ∙ and_from (list_all t b) (t 32 && list_all t c) (all_of is_plain t each b second) (and_from (t 32) (list_all t c) space (all_of is_plain t each c third))))

no_blank : (a : List ℕ) → list_all is_plain a ≡ true → All (λ b. is_blank b ≡ false) a
no_blank a plain = λ k d within. (let here = AllPass-from_list_all is_plain a plain k d within in grind (arith, common_steps))

-- without a comment the whole line counts
no_comment : (xs : List ℕ) → list_all (λ b. not (b == 35)) xs ≡ true → before_comment xs ≡ xs
no_comment [] none = refl
no_comment (x ∷ xs) none =
    let both = and_parts (not (x == 35)) (list_all (λ b. not (b == 35)) xs) none in
    let next : 1 + position_or_len (λ b. b == 35) xs ≡ suc (position_or_len (λ b. b == 35) xs) = omega arith in
    rw (both.0, next) (ap (λ ys. x ∷ ys) (no_comment xs both.1))

some_word : (a : List ℕ) (parts : List (List ℕ)) → 0 < length a → filter is_word (a ∷ parts) ≡ a ∷ filter is_word parts
some_word [] parts some = absurd (omega (arith, some))
some_word (x ∷ a) parts some = refl

-- they are the words of that line
three_words : (a b c : List ℕ) → list_all is_plain a ≡ true → list_all is_plain b ≡ true → list_all is_plain c ≡ true → 0 < length a → 0 < length b → 0 < length c
    → line_words (three a b c) ≡ Some (a ∷ b ∷ c ∷ [])
three_words a b c first second third some more last =
    let text : list_all is_text_byte (three a b c) ≡ true = all_three is_text_byte (λ x plain. grind (arith, common_steps)) refl a b c first second third in
    let bare = no_comment (three a b c) (all_three (λ x. not (x == 35)) (λ x plain. grind (arith, common_steps)) refl a b c first second third) in
    let parts : slice_split is_blank (three a b c) ≡ a ∷ b ∷ c ∷ [] =
    slice_split_at is_blank a 32 (b ++ 32 ∷ c) (no_blank a first) refl
    ∙ ap (λ more. a ∷ more) (slice_split_at is_blank b 32 c (no_blank b second) refl ∙ ap (λ more. b ∷ more) (slice_split_none is_blank c (no_blank c third))) in
    rw (text, bare, parts, some_word a (b ∷ c ∷ []) some, some_word b (c ∷ []) more, some_word c [] last) refl

-- a line whose time is a number, with the word of packets behind it and bytes behind that
pub line_said : (line bytes packet : List ℕ) (place time : ℕ) (digits : List ℕ) → drop place line ≡ codes " packet " ++ digits → number_within 0 most_run_ticks (take place line) ≡ Some time
    → decode_of digits ≡ Ok bytes → packet_of bytes ≡ Some packet → said line ≡ Ok (event_at time (Packet packet))
line_said line bytes packet place time digits rest number decoded is =
    let front = number_plain time (take place line) (within_is 0 most_run_ticks time (take place line) number (number_of (take place line)) refl) in
    let back = hex_word digits bytes packet decoded is in
    let whole : line ≡ three (take place line) (codes "packet") digits = sym (take-append-drop place line) ∙ ap (λ x. take place line ++ x) rest in
    let words : line_words line ≡ Some (take place line ∷ codes "packet" ∷ digits ∷ []) =
    ap line_words whole ∙ three_words (take place line) (codes "packet") digits front.0 refl back.0 front.1 (omega arith) back.1 in
    rw (words, number, decoded, is) refl
