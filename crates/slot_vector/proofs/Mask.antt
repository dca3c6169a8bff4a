-- The mask of the slots that an environment has a part in, a slot further.
use Rattle.std.proofs.Common.{arith, ap, ◌∙◌, ◌≡◌, ◌≤◌, ◌<◌, ◌+◌, ◌-◌, ◌*◌, ◌^◌, ℕ, suc, length, List, Option, None, drop, get_or}
use Rattle.std.proofs.Math.Seq.{drop-cons}
use Rattle.std.proofs.Math.Nat.{pow-suc}
use Rattle.world_model.specs.declared.hold.Hold.{Hold}
use Rattle.world_model.specs.Book.{has_part}
use Rattle.slot_vector.specs.Slices.{bit, mask_of}

pub mask_before : (e : ℕ) (slots : List (Option Hold)) (left : ℕ) → 0 < left → left ≤ length slots → mask_of e (drop (left - 1) slots) ≡ bit (has_part e (get_or slots (left - 1) None)) + 2 * mask_of e (drop left slots)
mask_before e slots left some within =
    let same : suc (left - 1) ≡ left = omega arith in
    ap (mask_of e) (drop-cons slots (left - 1) None (omega arith))
    ∙ ap (λ (n : ℕ). bit (has_part e (get_or slots (left - 1) None)) + 2 * mask_of e (drop n slots)) same

-- a mask of one slot more stays below its power
pub below_before : (count left mask low : ℕ) → 0 < left → left ≤ count → low ≤ 1 → mask < 2 ^ (count - left) → mask * 2 + low < 2 ^ (count - (left - 1))
below_before count left mask low some within small below =
    let longer : count - (left - 1) ≡ suc (count - left) = omega arith in
    let double : 2 ^ (count - (left - 1)) ≡ 2 ^ (count - left) * 2 = ap (λ (n : ℕ). 2 ^ n) longer ∙ pow-suc 2 (count - left) in
    omega (arith, double, below, small)
