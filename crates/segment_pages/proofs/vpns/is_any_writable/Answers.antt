-- One segment that has a byte in the page and allows stores is enough.
use Rattle.std.proofs.Common.{◌∙◌, rules, tests}
use Rattle.std.specs.Prelude.{Bool, ◌&&◌}
use Rattle.std.proofs.lemmas.Iterator.{YieldsList-from_slice}
use Rattle.std.proofs.lemmas.Iterator.Search.{any_from_yields_List}
use Rattle.elf_static.specs.declared.segment.Segment.{Segment}
use Rattle.elf_static.specs.ElfValue.{SegmentValue}
use Rattle.elf_static.specs.SegmentSeen.{segment_seen}
use Rattle.elf_static.proofs.HeaderSteps.{list_any_seen}
use Rattle.segment_pages.specs.Pages.{touches}
use Rattle.segment_pages.proofs.vpns.is_any_writable.Goals as goal

pub returns : goal.returns
returns c =
    let test : SegmentValue → Bool = λ segment. touches c.args.vpn segment && segment.writable in
    any_from_yields_List (λ (segment : Segment). test (segment_seen segment)) _ _ _ c.any.ensures.ran
    (YieldsList-from_slice c.args.segments.now cc) (λ x b q k. search (rules, tests))
    ∙ list_any_seen test c.args.segments.now
