use Rattle.std.proofs.Common.{◌≡◌, ◌+◌, ◌-◌, ◌≤◌, List, ◌++◌, Option, None, length, ap, sym, ◌∙◌, arith}
use Rattle.std.specs.Prelude.{option_to_list}
use Rattle.std.proofs.lemmas.List.{append-nil}
use Rattle.elf_static.specs.ElfValue.{SegmentValue, headers_from, kept_at, segments_of}
use Rattle.elf_static.specs.ElfFaults.{header_fault, headers_fault}
use Rattle.elf_static.specs.SegmentSeen.{segments_seen}
use Rattle.elf_static.proofs.HeaderSteps.{headers_from_step, kept_more, seen_more}
use Rattle.elf_static.proofs.segments.read_segments.Goals as goal
use Rattle.elf_static.proofs.segments.read_segments.Goals.{in-Some, in_default}

pub loop-preserved : goal.loop-preserved
loop-preserved c =
    let file = c.args.file.now in
    let header = c.loop.header in
    let earlier = segments_seen c.loop.segments.items in
    let left = headers_from (c.args.table.count - (c.loop.counter + 1)) (header + 32) in
    let step = headers_from_step c.args.table.count c.loop.counter header c.loop-test.true in
    let none : header_fault file earlier header ≡ None = rw (sym c.deref.ensures.0) c.in_ok-segment.ensures.answer.0 in
    let pushed : c.match-branch-2.segments.items ≡ c.loop.segments.items ++ option_to_list c.in_ok-segment.field-0 = elim c.match-branch-2.branch [
      | in-Some w ↦ rw (w.segments-is, w.in-Some.is) w.push.ensures.items
      | in_default w ↦ rw (w.segments-is, w.in_default.is) (sym (append-nil c.loop.segments.items))
    ] in
    let few : length c.match-branch-2.segments.items ≤ c.loop.counter + 1 = elim c.match-branch-2.branch [
      | in-Some w ↦ rw w.segments-is (omega (arith, w.push.ensures.len, c.loop.invariant.few))
      | in_default w ↦ rw w.segments-is (omega (arith, c.loop.invariant.few))
    ] in
    let later = ap segments_seen pushed ∙ seen_more c.loop.segments.items c.in_ok-segment.field-0
    ∙ ap (λ (kept : Option SegmentValue). earlier ++ option_to_list kept) c.in_ok-segment.ensures.answer.1 in
    record {
      fault = ap (λ (segments : List SegmentValue). headers_fault file segments left) later ∙ (rw (step, none) at c.loop.invariant.fault);
      list = ap (λ (segments : List SegmentValue). segments ++ segments_of file left) later ∙ kept_more earlier (kept_at file header) (segments_of file left)
          ∙ (rw step at c.loop.invariant.list);
      place = omega (arith, c.loop.invariant.place);
      few = few;
    }
