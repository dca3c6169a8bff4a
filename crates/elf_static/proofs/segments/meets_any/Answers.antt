use Rattle.std.proofs.Common.{◌∙◌, rules, tests}
use Rattle.std.proofs.lemmas.Iterator.{YieldsList-from_slice}
use Rattle.std.proofs.lemmas.Iterator.Search.{any_from_yields_List}
use Rattle.elf_static.specs.declared.segment.Segment.{Segment}
use Rattle.elf_static.specs.ElfFaults.{meets}
use Rattle.elf_static.specs.SegmentSeen.{segment_seen}
use Rattle.elf_static.proofs.HeaderSteps.{list_any_seen}
use Rattle.elf_static.proofs.segments.meets_any.Goals as goal

pub returns : goal.returns
returns c =
    let segment = segment_seen c.args.segment.now in
    any_from_yields_List (λ (other : Segment). meets segment (segment_seen other)) _ _ _ c.any.ensures.ran
    (YieldsList-from_slice c.args.others.now cc) (λ x b q k. search (rules, tests))
    ∙ list_any_seen (meets segment) c.args.others.now
