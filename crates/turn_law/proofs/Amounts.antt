-- Products, as numbers that aren't computed.
use Rattle.std.proofs.Common.{arith, refl, ◌∙◌, ap, ◌≡◌, ◌≤◌, ◌+◌, ℕ, add-one, mul-suc}
use Rattle.std.specs.Prelude.{◌*◌}
use Rattle.std.proofs.lemmas.Nat.{mul-le}
use Rattle.std.proofs.Math.Nat.{suc-mul}
use Rattle.turn_law.specs.TurnLaw.{longest_turn, turn_bound}

-- so many quanta
unfoldable pub quanta : ℕ → ℕ → ℕ
quanta q n = n * q

pub quanta_more : (q n : ℕ) → quanta q (n + 1) ≡ quanta q n + q
unfolding quanta
quanta_more q n = ap (λ (m : ℕ). m * q) (add-one n) ∙ suc-mul n q

pub quanta_most : (q n m : ℕ) → n ≤ m → quanta q n ≤ quanta q m
unfolding quanta
quanta_most q n m less = mul-le n q m q less (omega arith)

pub longest_is : (q : ℕ) → quanta q 9 + q ≡ longest_turn q
unfolding quanta
longest_is q = omega arith

-- so many of the longest turns
unfoldable pub turns : ℕ → ℕ → ℕ
turns q n = longest_turn q * n

pub turns_more : (q n : ℕ) → turns q (n + 1) ≡ turns q n + longest_turn q
unfolding turns
turns_more q n = ap (λ (m : ℕ). longest_turn q * m) (add-one n) ∙ mul-suc (longest_turn q) n

pub turns_most : (q n m : ℕ) → n ≤ m → turns q n ≤ turns q m
unfolding turns
turns_most q n m less = mul-le (longest_turn q) n (longest_turn q) m (omega arith) less

-- so many times around all slots
unfoldable pub rounds : ℕ → ℕ → ℕ
rounds count n = count * n

pub rounds_more : (count n : ℕ) → rounds count (n + 1) ≡ rounds count n + count
unfolding rounds
rounds_more count n = ap (λ (m : ℕ). count * m) (add-one n) ∙ mul-suc count n

pub rounds_most : (count n m : ℕ) → n ≤ m → rounds count n ≤ rounds count m
unfolding rounds
rounds_most count n m less = mul-le count n count m (omega arith) less

-- the bound of a turn, in these
pub bound_is : (q count owed t : ℕ) → turn_bound q count owed t ≡ t + turns q (rounds count (owed + 1))
unfolding turns rounds
bound_is q count owed t = refl
