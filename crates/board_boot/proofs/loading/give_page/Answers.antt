-- The page was free, and was filled from the body.
use Rattle.segment_pages.specs.Pages.{page_bytes}
use Rattle.run_model.specs.Boot.{body_page}
use Rattle.board_model.proofs.Giving.{given_guaranteed, given_page}
use Rattle.board_model.proofs.Keeping.{mapped_one}
use Rattle.board_boot.proofs.loading.give_page.Goals as goal

pub returns-clause-mapped : goal.returns-clause-mapped
returns-clause-mapped c =
    rw (c.guarantee.ensures.mapping, c.is_writable.ensures)
    (mapped_one c.args.number _ c.args.pages.now (body_page c.args.body.now c.args.vpn) _ c.keep_page-page.ensures.lowest)

pub returns-clause-seen : goal.returns-clause-seen
returns-clause-seen c =
    let kept = c.keep_page-page.ensures in
    rw (c.guarantee.ensures.mapping, c.fill_frame.ensures, c.is_writable.ensures)
    (given_page _ _ c.args.number c.args.vpn _ _ _ _ c.requires.guaranteed kept.there kept.was_free c.requires.same)

pub returns-clause-guaranteed : goal.returns-clause-guaranteed
returns-clause-guaranteed c =
    let kept = c.keep_page-page.ensures in
    rw (c.guarantee.ensures.mapping, c.is_writable.ensures, kept.after)
    (given_guaranteed c.args.frames.now _ _ c.args.vpn _ _ (page_bytes c.args.body.now c.args.vpn) _ c.requires.guaranteed kept.there kept.was_free c.requires.above)
