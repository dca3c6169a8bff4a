-- Bits that are both of two numbers, and bits of either.
use Rattle.std.proofs.Common.{◌≡◌, ℕ, arith}
use Rattle.std.proofs.lemmas.Nat.Bits.{bit_at_and, bit_at_or, same_from_bits}
use Rattle.std.specs.Prelude.{bit_and, bit_or}

pub and_of_or : (a b c : ℕ) → bit_and (bit_or a b) c ≡ bit_or (bit_and a c) (bit_and b c)
and_of_or a b c = same_from_bits _ _ (λ i. omega (arith, bit_at_and (bit_or a b) c i, bit_at_or a b i, bit_at_or (bit_and a c) (bit_and b c) i, bit_at_and a c i, bit_at_and b c i))

pub and_with_or : (c a b : ℕ) → bit_and c (bit_or a b) ≡ bit_or (bit_and c a) (bit_and c b)
and_with_or c a b = same_from_bits _ _ (λ i. omega (arith, bit_at_and c (bit_or a b) i, bit_at_or a b i, bit_at_or (bit_and c a) (bit_and c b) i, bit_at_and c a i, bit_at_and c b i))

-- what is within a number is within that and another
pub within_left : (v m n : ℕ) → bit_and v m ≡ v → bit_and v (bit_or m n) ≡ v
within_left v m n is = same_from_bits _ _ (λ i. let within = bit_at_and v m i in omega (arith, rw is at within, bit_at_and v (bit_or m n) i, bit_at_or m n i))

pub within_right : (v m n : ℕ) → bit_and v n ≡ v → bit_and v (bit_or m n) ≡ v
within_right v m n is = same_from_bits _ _ (λ i. let within = bit_at_and v n i in omega (arith, rw is at within, bit_at_and v (bit_or m n) i, bit_at_or m n i))

-- the bits of three numbers, in another order
pub swap_last : (a b c : ℕ) → bit_and (bit_and a b) c ≡ bit_and (bit_and a c) b
swap_last a b c = same_from_bits _ _ (λ i. omega (arith, bit_at_and (bit_and a b) c i, bit_at_and a b i, bit_at_and (bit_and a c) b i, bit_at_and a c i))

pub zero_right : (a : ℕ) → bit_and a 0 ≡ 0
zero_right a = same_from_bits _ _ (λ i. omega (arith, bit_at_and a 0 i))

pub or_zero : (a : ℕ) → bit_or a 0 ≡ a
or_zero a = same_from_bits _ _ (λ i. omega (arith, bit_at_or a 0 i))

pub zero_or : (a : ℕ) → bit_or 0 a ≡ a
zero_or a = same_from_bits _ _ (λ i. omega (arith, bit_at_or 0 a i))

pub or_assoc : (a b c : ℕ) → bit_or (bit_or a b) c ≡ bit_or a (bit_or b c)
or_assoc a b c = same_from_bits _ _ (λ i. omega (arith, bit_at_or (bit_or a b) c i, bit_at_or a b i, bit_at_or a (bit_or b c) i, bit_at_or b c i))
