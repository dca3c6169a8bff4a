-- A hexadecimal text is written from its last digit on.
use Rattle.std.proofs.Common.{◌≡◌, ℕ, suc, ◌+◌, ◌-◌, ◌/◌, ◌%◌, ◌<◌, ◌≤◌, List, [], ◌∷◌, ◌++◌, length, drop, set, refl, arith, append_assoc}
use Rattle.std.proofs.lemmas.List.{drop-set}
use Rattle.std.specs.Char.{digit_char}
use Rattle.line_text.specs.Text.{hex_text}

pub hex_more : (k n : ℕ) → hex_text (suc k) n ≡ hex_text k (n / 16) ++ digit_char (n % 16) ∷ []
unfolding hex_text
hex_more k n = refl

-- a digit taken from the rest and put before those that stand
pub hex_step : (digits done place rest : ℕ) (text : List ℕ) → done < digits → digits ≤ 8 → place + done ≡ 8 → length text ≡ 8 →
    hex_text (digits - done) rest ++ drop place text
    ≡ hex_text (digits - (done + 1)) (rest / 16) ++ drop (place - 1) (set text (place - 1) (digit_char (rest % 16)))
hex_step digits done place rest text left most placed whole =
    let here : place - 1 < length text = omega arith in
    let back : place - 1 + 1 ≡ place = omega arith in
    let one : digits - done ≡ suc (digits - (done + 1)) = omega arith in
    rw (one, hex_more (digits - (done + 1)) rest, drop-set text (place - 1) (digit_char (rest % 16)) here, back, append_assoc) refl
