-- Draws one after another, and the bytes that are made of them.
use Rattle.std.proofs.Common.{◌≡◌, ℕ, zero, suc, ◌+◌, ◌*◌, ◌/◌, ◌%◌, ◌^◌, List, [], ◌∷◌, ◌++◌, map, ap, arith, refl, add-one, sym}
use Rattle.std.specs.List.{range_with_len}
use Rattle.std.proofs.lemmas.List.FromFn.{map-range_with_len_more}
use Rattle.exos_text.specs.Draws.{drawn, next}
use Rattle.exos_text.specs.LoadSchedule.{load_packet}

-- some draws, and then more
drawn_on : (more first all x : ℕ) → first + more ≡ all → drawn more (drawn first x) ≡ drawn all x
unfolding drawn
drawn_on zero first all x are = let same : first ≡ all = omega arith in ap (λ n. drawn n x) same
drawn_on (suc more) first zero x are = absurd (omega arith)
drawn_on (suc more) first (suc all) x are = ap next (drawn_on more first all x (omega arith))

-- the draws of one packet more, of 64 bytes
pub drawn_packets : (number seed : ℕ) → drawn 64 (drawn (1 + 64 * number) seed) ≡ drawn (1 + 64 * (number + 1)) seed
drawn_packets number seed = drawn_on 64 (1 + 64 * number) (1 + 64 * (number + 1)) seed (omega arith)

-- one draw more
pub drawn_next : (n x : ℕ) → next (drawn n x) ≡ drawn (n + 1) x
unfolding drawn
drawn_next n x = rw add-one refl

-- a packet's byte, but for the first, of the draw of this number
abbrev pub byte_of : ℕ → ℕ → ℕ
byte_of x n = drawn n x / 2 ^ 24

-- the first byte, and so many others
abbrev pub bytes_of : ℕ → ℕ → List ℕ
bytes_of x count = drawn 1 x / 2 ^ 16 % 32 ∷ map (byte_of x) (range_with_len 2 count)

pub bytes_more : (x count : ℕ) → bytes_of x count ++ drawn (count + 1 + 1) x / 2 ^ 24 ∷ [] ≡ bytes_of x (count + 1)
bytes_more x count = ap (λ (bytes : List ℕ). drawn 1 x / 2 ^ 16 % 32 ∷ bytes) (sym (map-range_with_len_more (byte_of x) 2 count (count + 1 + 1) (omega arith)))

pub drawn_one : (x : ℕ) → next x ≡ drawn 1 x
unfolding drawn
drawn_one x = refl

-- all of them are the packet
pub packet_is : (x : ℕ) → bytes_of x 63 ≡ load_packet x
unfolding load_packet
packet_is x = refl
