use Rattle.std.proofs.Common.{◌≡◌, ◌++◌}
use Rattle.std.specs.List.{flat_map, range_with_len}
use Rattle.elf_static.specs.SegmentSeen.{segment_seen}
use Rattle.mips_list.specs.Listed.{word_line}
use Rattle.mips_list.proofs.listing.push_words.Given as goal

abbrev pub invariant-loop-k : goal.invariant-loop-k
invariant-loop-k l = l.out.items ≡ l.fn.out.items ++ flat_map (word_line (segment_seen l.segment)) (range_with_len 0 l.k)
