use Rattle.std.proofs.Common.{◌≡◌, ◌≤◌, ◌∙◌, ap, length, subst, sym}
use Rattle.boot_image.specs.ImageValue.{ProgramValue}
use Rattle.aegis_limits.specs.Limits.{most_stack_pages}
use Rattle.feed_boot.proofs.Pages.{record_fit}
use Rattle.feed_boot.proofs.record.law_fit.Goals as goal

pub returns : goal.returns
returns c =
    let whole : length c.args.program.now.name ≡ 8 = ap (λ (p : ProgramValue). length p.name) (sym c.program.view_is) ∙ c.program.invariant.name_length in
    let few : c.args.program.now.stack ≤ most_stack_pages = subst (λ (p : ProgramValue). p.stack ≤ most_stack_pages) c.program.view_is c.program.invariant.stack in
    record_fit c.args.program.now c.args.entry c.args.accept c.requires.entry c.requires.accept c.ranges.entry.fits c.ranges.accept.fits whole few
