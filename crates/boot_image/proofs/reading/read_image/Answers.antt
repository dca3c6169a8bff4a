-- The image that is answered is within the limits.
use Rattle.std.proofs.Common.{◌≡◌, ◌≤◌, ◌∙◌, None, arith, ap, map, sym}
use Rattle.std.specs.Prelude.{sum_by}
use Rattle.boot_image.specs.ImageValue.{guaranteed_mappings, headers, image_of, pages_in, program_at}
use Rattle.boot_image.specs.ImageFaults.{first_fault, mappings_fault}
use Rattle.boot_image.proofs.Acceptance.{parts_accepted}
use Rattle.boot_image.proofs.reading.read_image.Goals as goal

pub invariant_of-result : goal.invariant_of-result
unfolding image_of
invariant_of-result c =
    let file = c.args.file.now in
    let header = c.in_ok-header.ensures.answer in
    let slots = c.in_ok-slots.ensures.answer in
    let programs = c.in_ok-programs.ensures.programs in
    let list : c.in_ok-programs.programs.list.items ≡ map (program_at file) (headers file) = (rw header.1 at programs.list) c.in_default.is in
    let room : first_fault (mappings_fault file) (headers file) ≡ None = sym (rw header.1 at programs.crowded) ∙ c.in_default.is in
    let pages : sum_by guaranteed_mappings (map (program_at file) (headers file)) ≤ pages_in file
    = omega (arith, c.needed_pages.ensures, ap (sum_by guaranteed_mappings) (c.deref.ensures.value ∙ list), rw header.1 at c.if-needed_pages-header.false) in
    rw (header.1, slots.1, list) (parts_accepted file (λ i. omega (arith, c.type_inv.file i)) header.0 slots.0 (rw header.1 at c.in_ok-programs.ensures.none) room pages)
