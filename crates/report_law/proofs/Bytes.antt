-- The bytes of what is written: none is below a limit, so that no line feed stands in a line and no space in a word.
use Rattle.std.proofs.Common.{arith, refl, ◌∙◌, ◌≡◌, ◌<◌, ◌≤◌, ◌+◌, ◌%◌, ◌/◌, ◌^◌, ℕ, zero, suc, List, [], ◌∷◌, ◌++◌, Bool, true, false}
use Rattle.std.specs.Prelude.{◌==◌, nat_le, nat_lt, codes, slice_index}
use Rattle.std.specs.Char.{digit_char}
use Rattle.std.specs.Fmt.{digit_glyph, digits, digits_onto}
use Rattle.std.specs.Int.{byte_at, bytes_high_first, to_be_bytes, w32}
use Rattle.std.specs.List.{AllByRecursion, flat_map, list_all}
use Rattle.std.proofs.Math.Nat.{mod-lt}
use Rattle.std.proofs.lemmas.Bool.{agree_below_at, and_from, and_parts, cond_both, le-leb, leb-true, lt-ltb}
use Rattle.std.proofs.lemmas.List.Folds.{list_all-append}
use Rattle.hex.specs.Hex.{encode_lower, encode_with, lower_digits}
use Rattle.sha2.specs.Sha256.{digest_bytes, final_hash, initial_hash_256, sha256}
use Rattle.line_text.specs.Text.{dec_text, hex_text, is_printable, quoted_byte, quoted_text}
use Rattle.line_text.specs.WrittenLine.{bytes_text, flag_text, quotation}
use Rattle.ledger_text.specs.Words.{is_decimal}

-- no byte is below this
abbrev pub AtLeast : ℕ → List ℕ → Type 0
AtLeast least bytes = list_all (nat_le least) bytes ≡ true

pub both : (m : ℕ) (xs ys : List ℕ) → AtLeast m xs → AtLeast m ys → AtLeast m (xs ++ ys)
both m xs ys first second = list_all-append (nat_le m) xs ys ∙ and_from (list_all (nat_le m) xs) (list_all (nat_le m) ys) first second

pub one : (m b : ℕ) (bs : List ℕ) → m ≤ b → AtLeast m bs → AtLeast m (b ∷ bs)
one m b bs first rest = and_from (nat_le m b) (list_all (nat_le m) bs) (le-leb m b first) rest

pub lower : (m n : ℕ) (bs : List ℕ) → m ≤ n → AtLeast n bs → AtLeast m bs
lower m n [] less are = refl
lower m n (b ∷ bs) less are =
    let parts = and_parts (nat_le n b) (list_all (nat_le n) bs) are in
    one m b bs (omega (arith, less, leb-true n b parts.0)) (lower m n bs less parts.1)

pub of_each : {X : Type 0} (m : ℕ) (f : X → List ℕ) → ((x : X) → AtLeast m (f x)) → (xs : List X) → AtLeast m (flat_map f xs)
of_each m f each [] = refl
of_each m f each (x ∷ xs) = both m (f x) (flat_map f xs) (each x) (of_each m f each xs)

-- numbers
glyph_high : (d : ℕ) → 48 ≤ digit_glyph false d
glyph_high d = cond_both (nat_lt d 10) (48 + d) (87 + d) (λ (c : ℕ). 48 ≤ c) (λ is. omega arith) (λ is. omega arith)

glyph_decimal : (d : ℕ) → d < 10 → is_decimal (digit_glyph false d) ≡ true
glyph_decimal d small =
    rw (lt-ltb d 10 small) (and_from (nat_le 48 (48 + d)) (nat_le (48 + d) 57) (le-leb 48 (48 + d) (omega arith)) (le-leb (48 + d) 57 (omega (arith, small))))

decimal_onto : (k n : ℕ) (acc : List ℕ) → list_all is_decimal acc ≡ true → list_all is_decimal (digits_onto k 10 false n acc) ≡ true
decimal_onto zero n acc are = are
decimal_onto (suc k) n acc are =
    let c = digit_glyph false (n % 10) in
    let small : n % 10 < 10 = mod-lt n (omega arith) in
    let more : list_all is_decimal (c ∷ acc) ≡ true = and_from (is_decimal c) (list_all is_decimal acc) (glyph_decimal (n % 10) small) are in
    cond_both (n / 10 == 0) (c ∷ acc) (digits_onto k 10 false (n / 10) (c ∷ acc)) (λ (ds : List ℕ). list_all is_decimal ds ≡ true) (λ last. more) (λ other. decimal_onto k (n / 10) (c ∷ acc) more)

pub dec_decimal : (n : ℕ) → list_all is_decimal (dec_text n) ≡ true
unfolding dec_text digits
dec_decimal n = decimal_onto 64 n [] refl

decimal_high : (bs : List ℕ) → list_all is_decimal bs ≡ true → AtLeast 48 bs
decimal_high [] are = refl
decimal_high (b ∷ bs) are =
    let parts = and_parts (is_decimal b) (list_all is_decimal bs) are in
    let its = and_parts (nat_le 48 b) (nat_le b 57) parts.0 in
    one 48 b bs (leb-true 48 b its.0) (decimal_high bs parts.1)

pub dec_high : (n : ℕ) → AtLeast 48 (dec_text n)
dec_high n = decimal_high (dec_text n) (dec_decimal n)

pub hex_high : (k n : ℕ) → AtLeast 48 (hex_text k n)
unfolding hex_text
hex_high zero n = refl
hex_high (suc k) n =
    both 48 (hex_text k (n / 16)) (digit_char (n % 16) ∷ []) (hex_high k (n / 16)) (one 48 (digit_char (n % 16)) [] (glyph_high (n % 16)) refl)

-- bytes between quotation marks, and in digits
byte_plain : (b : ℕ) → AtLeast 32 (quoted_byte b)
byte_plain b =
    cond_both (b == 34) (codes "\\\"") _ (AtLeast 32) (λ is. refl)
    (λ no. cond_both (b == 92) (codes "\\\\") _ (AtLeast 32) (λ is. refl)
    (λ no. cond_both (b == 10) (codes "\\n") _ (AtLeast 32) (λ is. refl)
    (λ no. cond_both (is_printable b) (b ∷ []) (codes "\\x" ++ hex_text 2 b) (AtLeast 32) (λ is. printed is)
    (λ no. both 32 (codes "\\x") (hex_text 2 b) refl (lower 32 48 (hex_text 2 b) (omega arith) (hex_high 2 b))))))
  where
    printed : is_printable b ≡ true → AtLeast 32 (b ∷ [])
    printed is = one 32 b [] (leb-true 32 b (and_parts (nat_le 32 b) (nat_le b 126) is).0) refl

pub quotation_plain : (bytes : List ℕ) → AtLeast 32 (quotation bytes)
unfolding quoted_text
quotation_plain bytes =
    one 32 34 (quoted_text bytes ++ 34 ∷ []) (omega arith) (both 32 (quoted_text bytes) (34 ∷ []) (of_each 32 quoted_byte byte_plain bytes) refl)

pub bytes_high : (bytes : List ℕ) → AtLeast 48 (bytes_text bytes)
bytes_high bytes = of_each 48 (hex_text 2) (hex_high 2) bytes

pub flag_high : (flag : Bool) → AtLeast 48 (flag_text flag)
flag_high true = refl
flag_high false = refl

-- fingerprints
abbrev IsByte : ℕ → Type 0
IsByte b = b < 256

byte_small : (k n : ℕ) → IsByte (byte_at k n)
byte_small zero n = mod-lt n (omega arith)
byte_small (suc k) n = mod-lt (n / 256 ^ suc k) (omega arith)

high_first : (k n : ℕ) → AllByRecursion IsByte (bytes_high_first k n)
high_first zero n = tt
high_first (suc k) n = (byte_small k n, high_first k n)

two_parts : (xs ys : List ℕ) → AllByRecursion IsByte xs → AllByRecursion IsByte ys → AllByRecursion IsByte (xs ++ ys)
two_parts [] ys first second = second
two_parts (x ∷ xs) ys (here, first) second = (here, two_parts xs ys first second)

digest_small : (h : List ℕ) (n : ℕ) → AllByRecursion IsByte (digest_bytes h n)
unfolding digest_bytes
digest_small h zero = tt
digest_small h (suc n) = two_parts (digest_bytes h n) (to_be_bytes w32 (slice_index h n)) (digest_small h n) (high_first 4 (slice_index h n))

digit_high : (i : ℕ) → i < 16 → 48 ≤ slice_index lower_digits i
digit_high i small = leb-true 48 (slice_index lower_digits i) (agree_below_at (λ (k : ℕ). nat_le 48 (slice_index lower_digits k)) (λ k. true) 16 i refl small)

encoded_high : (bytes : List ℕ) → AllByRecursion IsByte bytes → AtLeast 48 (encode_with lower_digits bytes)
unfolding encode_with
encoded_high [] are = refl
encoded_high (b ∷ bytes) (small, are) =
    one 48 (slice_index lower_digits (b / 16)) (slice_index lower_digits (b % 16) ∷ encode_with lower_digits bytes) (digit_high (b / 16) (omega (arith, small)))
    (one 48 (slice_index lower_digits (b % 16)) (encode_with lower_digits bytes) (digit_high (b % 16) (mod-lt b (omega arith))) (encoded_high bytes are))

pub fingerprint_high : (m : List ℕ) → AtLeast 48 (encode_lower (sha256 m))
unfolding sha256
fingerprint_high m = encoded_high (digest_bytes (final_hash initial_hash_256 m) 8) (digest_small (final_hash initial_hash_256 m) 8)
