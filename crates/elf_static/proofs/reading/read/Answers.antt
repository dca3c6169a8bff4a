use Rattle.std.proofs.Common.{sym}
use Rattle.elf_static.specs.SegmentSeen.{segments_seen}
use Rattle.elf_static.proofs.Acceptance.{parts_accepted}
use Rattle.elf_static.proofs.reading.read.Goals as goal

pub invariant_of-result : goal.invariant_of-result
invariant_of-result c =
    let answer = c.in_ok-segments.ensures.answer in
    parts_accepted c.args.file.now c.in_ok-table.table.count c.in_ok-table.table.first c.word_at-entry.result (segments_seen c.in_ok-segments.segments.items)
    c.in_ok-table.ensures.most answer.0 answer.1 (rw (sym c.deref.ensures.0) (sym c.if-not-is_entry.ensures))

pub returns-clause-accepted : goal.returns-clause-accepted
returns-clause-accepted c =
    let answer = c.in_ok-segments.ensures.answer in
    parts_accepted c.args.file.now c.in_ok-table.table.count c.in_ok-table.table.first c.word_at-entry.result (segments_seen c.in_ok-segments.segments.items)
    c.in_ok-table.ensures.most answer.0 answer.1 (rw (sym c.deref.ensures.0) (sym c.if-not-is_entry.ensures))
