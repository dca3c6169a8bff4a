-- The smallest program is within the limits.
use Rattle.std.proofs.Common.{length, ap, refl, arith, subst, ◌∙◌}
use Rattle.elf_static.specs.AcceptedElf.{IsAcceptedElf}
use Rattle.boot_image.specs.ImageFaults.{is_name}
use Rattle.boot_image.proofs.image.ProgramDefault.default.Goals as goal

pub invariant_of-result : goal.invariant_of-result
unfolding is_name
invariant_of-result c = rw c.default-body.ensures (record {
  name = refl;
  name_length = refl;
  stack = omega arith;
  accept = omega arith;
  body = subst IsAcceptedElf (c.body.view_is ∙ c.default-body.ensures) c.body.invariant;
  mappings = omega (arith, ap length c.law_smallest.ensures);
})
