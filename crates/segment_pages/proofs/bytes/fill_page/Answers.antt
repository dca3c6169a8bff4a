-- Each byte of the page is that of its address.
use Rattle.std.proofs.Common.{◌+◌, ◌*◌, List, fold, ap, ◌∙◌}
use Rattle.aegis_limits.specs.Limits.{page_size}
use Rattle.elf_static.specs.SegmentSeen.{segments_seen}
use Rattle.elf_static.specs.ElfValue.{SegmentValue, ElfValue}
use Rattle.segment_pages.specs.Pages.{byte_over}
use Rattle.segment_pages.proofs.PageBytes.{page_is}
use Rattle.segment_pages.proofs.bytes.fill_page.Goals as goal

pub returns : goal.returns
returns c =
    let seen = ap segments_seen c.as_slice.ensures.value ∙ ap (λ (p : ElfValue). p.segments) c.program.view_is in
    page_is c.args.program.now c.args.vpn c.fill_from.new.page c.fill_from.array_long
    (λ k below. c.fill_from.ensures k below ∙ ap (λ (segments : List SegmentValue). fold (byte_over (page_size * c.args.vpn + k)) 0 segments) seen)
