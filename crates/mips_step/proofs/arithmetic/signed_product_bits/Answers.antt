use Rattle.std.proofs.lemmas.Grind.{common_steps}
use Rattle.std.proofs.Common.{rules, arith, ◌<◌, ◌*ℤ◌, ℕ, ◌≤◌, ◌^◌, FitsSigned}
use Rattle.std.specs.Int.{w64}
use Rattle.std.specs.Prelude.{unsigned_abs}
use Rattle.std.proofs.lemmas.Int.{to_z-of_z, fits_signed_mul}
use Rattle.mips_exec.specs.Word.{signed}
use Rattle.mips_step.proofs.arithmetic.signed_product_bits.Goals as goal

abs_signed : (a : ℕ) → a < 2 ^ 32 → unsigned_abs (signed a) ≤ 2 ^ 31
abs_signed a h = grind arith

-- the product of two signed words fits in 64 bits
product_fits : (a b : ℕ) → a < 2 ^ 32 → b < 2 ^ 32 → FitsSigned w64 (signed a *ℤ signed b)
product_fits a b h k = search (rules, fits_signed_mul, abs_signed)

pub returns : goal.returns
returns c = grind (arith, common_steps, product_fits, to_z-of_z)
