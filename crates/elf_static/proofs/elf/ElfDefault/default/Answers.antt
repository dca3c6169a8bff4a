-- The smallest program is within the limits.
use Rattle.std.proofs.Common.{refl, arith}
use Rattle.elf_static.proofs.elf.ElfDefault.default.Goals as goal

pub invariant_of-result : goal.invariant_of-result
invariant_of-result c = rw (c.push.ensures.items, c.new-segments.ensures) (record {
  most = omega arith;
  segments = (record { filled = omega arith; given = omega arith; above = omega arith; below = omega arith }, tt);
  apart = (tt, tt);
  aligned = refl;
  entered = (0, _, omega arith, refl, (omega arith, omega arith));
})
