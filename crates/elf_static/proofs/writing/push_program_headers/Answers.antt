use Rattle.std.proofs.Common.{◌≡◌, append_assoc, length, ◌∙◌, arith, rules}
use Rattle.elf_static.proofs.Rest.{bodies_length_left, first_of}
use Rattle.elf_static.proofs.writing.push_program_headers.Goals as goal

pub push_program_header-requires : goal.push_program_header-requires
push_program_header-requires c = omega (arith, c.loop-part.invariant.room, bodies_length_left c.args.parts.now c.loop-part.part-index c.part-item.result c.loop-part-test.true c.part-item.is)

pub overflow_cast-offset : goal.overflow_cast-offset
overflow_cast-offset c =
    let counted : c.len.result ≡ length c.part-item.result.bytes.items = search rules in
    rw counted (omega (arith, c.loop-part.invariant.room, bodies_length_left c.args.parts.now c.loop-part.part-index c.part-item.result c.loop-part-test.true c.part-item.is))

pub overflow_add-offset : goal.overflow_add-offset
overflow_add-offset c =
    let counted : c.len.result ≡ length c.part-item.result.bytes.items = search rules in
    rw counted (omega (arith, c.loop-part.invariant.room, bodies_length_left c.args.parts.now c.loop-part.part-index c.part-item.result c.loop-part-test.true c.part-item.is))

pub loop-part-preserved : goal.loop-part-preserved
loop-part-preserved c =
    let parts = c.args.parts.now in
    let i = c.loop-part.part-index in
    let left = first_of parts i c.part-item.result c.loop-part-test.true c.part-item.is in
    let counted : c.len.result ≡ length c.part-item.result.bytes.items = search rules in
    rw counted (record {
      room = omega (arith, c.loop-part.invariant.room, bodies_length_left parts i c.part-item.result c.loop-part-test.true c.part-item.is);
      text = rw c.in_ok-push_program_header.ensures (append_assoc c.loop-part.file.items _ _ ∙ (rw left at c.loop-part.invariant.text));
    })
