use Rattle.std.proofs.Common.{◌≡◌, ◌+◌, ◌≤◌, length, refl, arith}
use Rattle.aegis_limits.specs.Limits.{page_size}
use Rattle.frame_store.specs.Pages.{page_at}
use Rattle.packet_ring.specs.Ring.{buffer_offset}
use Rattle.packet_ring.proofs.Joining.{has_room, put_joined, short}
use Rattle.packet_ring.proofs.delivery.deliver.Goals as goal

pub overflow_cast-bytes : goal.overflow_cast-bytes
overflow_cast-bytes c = rw c.bytes-bytes.ensures.bytes (omega (arith, short c.args.packet.now c.bytes-bytes.ensures.rule))

pub put-requires-clause-within : goal.put-requires-clause-within
put-requires-clause-within c = rw (c.bytes-bytes.ensures.bytes, c.offset-2.ensures) (has_room c.args.buffer c.args.packet.now c.bytes-bytes.ensures.rule)

pub returns-clause-frames : goal.returns-clause-frames
returns-clause-frames c =
    let size : length (page_at c.args.frames.now c.args.page) ≡ page_size = rw c.page-page.ensures.bytes at c.page-page.ensures.size in
    let room : buffer_offset c.args.buffer + 4 + length c.args.packet.now ≤ length (page_at c.args.frames.now c.args.page) = omega (arith, size, has_room c.args.buffer c.args.packet.now c.bytes-bytes.ensures.rule) in
    rw (c.put.ensures, c.set_word.ensures, c.offset.ensures, c.offset-2.ensures, c.bytes-bytes.ensures.bytes)
    (put_joined c.args.frames.now c.args.page c.args.buffer _ c.args.packet.now c.requires refl room refl)
