-- Bits of 64, one of which is written.
use Rattle.std.proofs.Common.{◌<◌, ℕ, true, false}
use Rattle.std.specs.Int.{w64}
use Rattle.std.proofs.lemmas.Nat.Bits.{bit_at_set_same, bit_at_set_other, bit_at_clear_same, bit_at_clear_other}
use Rattle.std.specs.Int.RustNames.{bit_or}
use Rattle.std.specs.Prelude.{bit_and, ◌*◌, ◌^◌, ◌%◌, ◌-◌}
use Rattle.r3k_tlb.specs.Index.{IsBitSet}

pub bit_is_set : (n i : ℕ) → i < 64 → IsBitSet n i true (bit_or n (1 * 2 ^ i % 2 ^ 64))
bit_is_set n i within = record { here = bit_at_set_same w64 n i within; others = λ k _ other. bit_at_set_other w64 n i within k other }

pub bit_is_clear : (n i : ℕ) → i < 64 → IsBitSet n i false (bit_and n (2 ^ 64 - 1 - 1 * 2 ^ i % 2 ^ 64))
bit_is_clear n i within = record { here = bit_at_clear_same w64 n i within; others = λ k below other. bit_at_clear_other w64 n i within k below other }
