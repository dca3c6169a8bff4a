-- The part that was copied is what the file has for the page.
use Rattle.std.proofs.Common.{◌+◌, ◌-◌, arith}
use Rattle.aegis_limits.specs.Limits.{page_size}
use Rattle.elf_static.specs.SegmentSeen.{segment_seen}
use Rattle.segment_pages.proofs.PageBytes.{part_copied}
use Rattle.segment_pages.proofs.bytes.put_part.Goals as goal

pub returns : goal.returns
returns c =
    let at = c.min-at.result in
    let passed = c.min-passed.result in
    let count = c.min-count.result in
    part_copied (segment_seen c.args.segment.now) c.args.start page_size at passed count (at + count - at) (passed + count - passed) c.args.page.now c.copy_from_slice.new.self
    (record {
      place = omega (arith, c.min-at.ensures, c.saturating_sub.ensures);
      first = omega (arith, c.min-passed.ensures, c.saturating_sub-2.ensures);
      many = omega (arith, c.min-count.ensures);
    })
    c.told-page (omega arith) (omega arith) c.copy_from_slice.ensures.after
