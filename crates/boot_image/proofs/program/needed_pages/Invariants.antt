-- The sum over the programs so far.
use Rattle.std.proofs.Common.{◌≡◌, ◌≤◌, ◌*◌, take}
use Rattle.std.specs.Prelude.{sum_by}
use Rattle.boot_image.specs.ImageValue.{guaranteed_mappings}
use Rattle.boot_image.proofs.program.needed_pages.Given as goal

-- The pages of the programs so far.
abbrev pub invariant-loop-program : goal.invariant-loop-program
invariant-loop-program l = record {
  sum : l.needed ≡ sum_by guaranteed_mappings (take l.program-index l.programs);
  few : l.needed ≤ 256 * l.program-index;
}
