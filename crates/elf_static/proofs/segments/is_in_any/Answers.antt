use Rattle.std.proofs.Common.{◌∙◌, rules, tests}
use Rattle.std.proofs.lemmas.Iterator.{YieldsList-from_slice}
use Rattle.std.proofs.lemmas.Iterator.Search.{any_from_yields_List}
use Rattle.elf_static.specs.declared.segment.Segment.{Segment}
use Rattle.elf_static.specs.ElfFaults.{is_covered}
use Rattle.elf_static.specs.SegmentSeen.{segment_seen}
use Rattle.elf_static.proofs.HeaderSteps.{list_any_seen}
use Rattle.elf_static.proofs.segments.is_in_any.Goals as goal

pub returns : goal.returns
returns c =
    any_from_yields_List (λ (segment : Segment). is_covered c.args.address (segment_seen segment)) _ _ _ c.any.ensures.ran
    (YieldsList-from_slice c.args.segments.now cc) (λ x b q k. search (rules, tests))
    ∙ list_any_seen (is_covered c.args.address) c.args.segments.now
