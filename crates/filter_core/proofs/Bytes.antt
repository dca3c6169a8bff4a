-- The bytes of numbers.
use Rattle.std.proofs.Common.{◌≡◌, ℕ, zero, suc, ◌+◌, ◌-◌, ◌*◌, ◌/◌, ◌%◌, ◌^◌, ◌<◌, List, [], ◌∷◌, ◌++◌, slice_index, refl, sym, ap, ◌∙◌, arith, inl, inr}
use Rattle.std.proofs.Math.Nat.{add-mul-mod_self_right, mul-add-div_right, mul-add-mod_self_right, pow-suc}
use Rattle.std.proofs.lemmas.Bool.{cases_eq}
use Rattle.std.proofs.lemmas.Nat.{and_mod, and_shr, div-mul-add, pow-add, pow_pos}
use Rattle.std.specs.Int.{byte_at, bytes_high_first}
use Rattle.std.specs.Prelude.{bit_and}
use Rattle.byteorder.specs.Endian.{big_from}
use Rattle.byteorder.specs.Numbers.{big_from-lt, big_number-reads_back}
use Rattle.byteorder.proofs.Bytes.{pow256}

-- a byte of the bits of two numbers
pub byte_and : (k x y : ℕ) → byte_at k (bit_and x y) ≡ bit_and (byte_at k x) (byte_at k y)
byte_and zero x y = and_mod x y 8
byte_and (suc k) x y =
    let size = pow256 (suc k) in
    rw (size, and_shr x y (8 * suc k)) (and_mod (x / 2 ^ (8 * suc k)) (y / 2 ^ (8 * suc k)) 8)

-- the highest byte of a number
byte_top : (n h r : ℕ) → r < 256 ^ n → h < 256 → byte_at n (h * 256 ^ n + r) ≡ h
byte_top zero h r below small = omega arith
byte_top (suc n) h r below small = let e = div-mul-add h (256 ^ suc n) r below in omega (arith, e)

-- a lower one
byte_low : (k n h r : ℕ) → k < n → byte_at k (h * 256 ^ n + r) ≡ byte_at k r
byte_low zero n h r below =
    let next : n ≡ suc (n - 1) = omega arith in
    let size : 256 ^ n ≡ 256 ^ (n - 1) * 256 = ap (λ (e : ℕ). 256 ^ e) next ∙ pow-suc 256 (n - 1) in
    let moved : h * 256 ^ n + r ≡ r + h * 256 ^ (n - 1) * 256 = ap (λ (s : ℕ). h * s + r) size ∙ omega arith in
    ap (λ (x : ℕ). x % 256) moved ∙ add-mul-mod_self_right r (h * 256 ^ (n - 1)) 256
byte_low (suc j) n h r below =
    let m : ℕ = n - suc j - 1 in
    let parts : n ≡ m + 1 + suc j = omega arith in
    let size : 256 ^ n ≡ 256 ^ m * 256 * 256 ^ suc j =
    ap (λ (e : ℕ). 256 ^ e) parts ∙ pow-add 256 (m + 1) (suc j) ∙ ap (λ (s : ℕ). s * 256 ^ suc j) (pow-add 256 m 1) in
    let moved : h * 256 ^ n + r ≡ h * 256 ^ m * 256 * 256 ^ suc j + r = ap (λ (s : ℕ). h * s + r) size ∙ omega arith in
    let some : 0 < 256 ^ suc j = rw (pow256 (suc j)) (pow_pos (8 * suc j)) in
    ap (λ (x : ℕ). x / 256 ^ suc j % 256) moved
    ∙ ap (λ (x : ℕ). x % 256) (mul-add-div_right some (h * 256 ^ m * 256) r)
    ∙ mul-add-mod_self_right (h * 256 ^ m) 256 (r / 256 ^ suc j)

-- numbers with the same bytes
same_high_first : (n a b : ℕ) → ((k : ℕ) → k < n → byte_at k a ≡ byte_at k b) → bytes_high_first n a ≡ bytes_high_first n b
same_high_first zero a b same = refl
same_high_first (suc n) a b same = rw (same n (omega arith)) (ap (λ (bs : List ℕ). byte_at n b ∷ bs) (same_high_first n a b (λ k below. same k (omega arith))))

pub same_from_bytes : (n a b : ℕ) → a < 256 ^ n → b < 256 ^ n → ((k : ℕ) → k < n → byte_at k a ≡ byte_at k b) → a ≡ b
same_from_bytes n a b fits other same =
    sym (big_number-reads_back n a [] fits) ∙ ap (λ (bs : List ℕ). big_from 0 n (bs ++ [])) (same_high_first n a b same) ∙ big_number-reads_back n b [] other

-- the bytes of a number that is spelled by bytes
pub byte_of_big : (i n : ℕ) (xs : List ℕ) → ((k : ℕ) → slice_index xs k < 256) → (k : ℕ) → k < n → byte_at k (big_from i n xs) ≡ slice_index xs (i + (n - 1 - k))
byte_of_big i zero xs small k below = absurd (omega arith)
byte_of_big i (suc n) xs small k below =
    elim (cases_eq k n) [
      | inl top ↦
          let place : i ≡ i + (suc n - 1 - k) = omega (arith, top) in
          ap (λ (j : ℕ). byte_at j (big_from i (suc n) xs)) top
          ∙ byte_top n (slice_index xs i) (big_from (suc i) n xs) (big_from-lt (suc i) n xs small) (small i)
          ∙ ap (slice_index xs) place
      | inr other ↦
          let lower : k < n = omega (arith, other) in
          let place : suc i + (n - 1 - k) ≡ i + (suc n - 1 - k) = omega arith in
          byte_low k n (slice_index xs i) (big_from (suc i) n xs) lower ∙ byte_of_big (suc i) n xs small k lower ∙ ap (slice_index xs) place
    ]
