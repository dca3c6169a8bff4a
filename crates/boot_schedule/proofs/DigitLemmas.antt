-- The table of digits, and the byte of two.
use Rattle.std.proofs.Common.{◌≡◌, ℕ, zero, suc, ◌+◌, ◌*◌, ◌<◌, ◌≤◌, Bool, true, ◌&&◌, List, Option, None, Some, Ok, get_or, ap, arith, inl, inr}
use Rattle.std.specs.Prelude.{◌==◌}
use Rattle.std.specs.Option.{unwrap_or}
use Rattle.std.specs.Result.{result_ok}
use Rattle.std.proofs.lemmas.Bool.{and_parts, cases_eq, eqb-true}
use Rattle.std.proofs.lemmas.Grind.{common_steps}
use Rattle.hex.specs.Hex.{digit_or_error, hex_digit_value, pair_value, ◌>>=◌}

-- two functions agree below n, which computes
unfoldable pub agree_below : (ℕ → ℕ) → (ℕ → ℕ) → ℕ → Bool
agree_below f g zero = true
agree_below f g (suc n) = f n == g n && agree_below f g n

agree_at : (f g : ℕ → ℕ) (n : ℕ) → agree_below f g n ≡ true → (b : ℕ) → b < n → f b ≡ g b
unfolding agree_below
agree_at f g zero all b below = absurd (omega arith)
agree_at f g (suc n) all b below =
    let both = and_parts (f n == g n) (agree_below f g n) all in
    elim (cases_eq b n) [
      | inl same ↦ rw same (eqb-true (f n) (g n) both.0)
      | inr other ↦ agree_at f g n both.1 b (omega arith)
    ]

-- a table of 256 numbers that agrees with a function
pub from_table : (table : List ℕ) (f : ℕ → ℕ) (b : ℕ) → b < 256 → agree_below (λ k. get_or table k 0) f 256 ≡ true → get_or table b 0 ≡ f b
from_table table f b below all = agree_at (λ k. get_or table k 0) f 256 all b below

-- a digit's value, or more than two digits make
abbrev pub value_or : ℕ → ℕ
value_or b = unwrap_or (hex_digit_value b) 256

pub value_most : (b : ℕ) → value_or b ≤ 256
value_most b = grind (arith, common_steps)

both_read : (high low place byte : ℕ) (a b : Option ℕ) → result_ok (digit_or_error high 0 a >>= (λ h. digit_or_error low 1 b >>= (λ l. Ok (h * 16 + l)))) ≡ Some byte
    → (digit_or_error high place a >>= (λ h. digit_or_error low (place + 1) b >>= (λ l. Ok (h * 16 + l)))) ≡ Ok byte
both_read high low place byte (Some h) (Some l) is = ap (λ (o : Option ℕ). Ok (unwrap_or o 0)) is
both_read high low place byte (Some h) None is = cc is
both_read high low place byte None b is = cc is

-- two digits read alike at each place
pub pair_read : (high low place byte : ℕ) → result_ok (pair_value high low 0) ≡ Some byte → pair_value high low place ≡ Ok byte
pair_read high low place byte is = both_read high low place byte (hex_digit_value high) (hex_digit_value low) is
