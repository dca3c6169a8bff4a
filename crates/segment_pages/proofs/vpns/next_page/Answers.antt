-- The first page that the segments touch begins the list of the program's pages.
use Rattle.std.proofs.Common.{List, ap, subst, ◌∙◌}
use Rattle.elf_static.specs.SegmentSeen.{segments_seen}
use Rattle.elf_static.specs.ElfValue.{SegmentValue, ElfValue}
use Rattle.segment_pages.specs.FirstPage.{IsFirstPage}
use Rattle.segment_pages.proofs.FirstPages.{pages_begin, pages_end}
use Rattle.segment_pages.proofs.vpns.next_page.Goals as goal

pub returns-clause-some : goal.returns-clause-some
returns-clause-some c =
    let seen = ap segments_seen c.as_slice.ensures.value ∙ ap (λ (p : ElfValue). p.segments) c.program.view_is in
    let found : IsFirstPage c.args.first c.args.program.now.segments c.first_of_all.result =
    subst (λ (segments : List SegmentValue). IsFirstPage c.args.first segments c.first_of_all.result) seen c.first_of_all.ensures in
    pages_begin c.args.program.now c.args.first c.first_of_all.result found

pub returns-clause-none : goal.returns-clause-none
returns-clause-none c =
    let seen = ap segments_seen c.as_slice.ensures.value ∙ ap (λ (p : ElfValue). p.segments) c.program.view_is in
    let found : IsFirstPage c.args.first c.args.program.now.segments c.first_of_all.result =
    subst (λ (segments : List SegmentValue). IsFirstPage c.args.first segments c.first_of_all.result) seen c.first_of_all.ensures in
    pages_end c.args.program.now c.args.first c.first_of_all.result found
