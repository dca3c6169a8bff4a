use Rattle.std.proofs.Common.{append_assoc, ◌∙◌}
use Rattle.elf_static.proofs.Rest.{first_of}
use Rattle.elf_static.proofs.writing.push_bodies.Goals as goal

pub loop-part-preserved : goal.loop-part-preserved
loop-part-preserved c =
    let left = first_of c.args.parts.now c.loop-part.part-index c.part-item.result c.loop-part-test.true c.part-item.is in
    rw (rw c.deref.ensures.value at c.in_ok-extend_from_slice.ensures.items) (append_assoc c.loop-part.file.items _ _ ∙ (rw left at c.loop-part.invariant))
