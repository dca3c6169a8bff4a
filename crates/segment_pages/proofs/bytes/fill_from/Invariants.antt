-- So far the page has what the segments so far have.
use Rattle.std.proofs.Common.{◌≡◌, ◌<◌, ℕ, ◌+◌, get_or, fold, take}
use Rattle.aegis_limits.specs.Limits.{page_size}
use Rattle.elf_static.specs.SegmentSeen.{segments_seen}
use Rattle.segment_pages.specs.Pages.{byte_over}
use Rattle.segment_pages.proofs.bytes.fill_from.Given as goal

abbrev pub invariant-loop-segment : goal.invariant-loop-segment
invariant-loop-segment l = (k : ℕ) → k < page_size
    → get_or l.page k 0 ≡ fold (byte_over (l.start + k)) 0 (take l.segment-index (segments_seen l.segments))
