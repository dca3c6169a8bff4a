-- The page was free, and was made zero.
use Rattle.frame_store.specs.Pages.{zero_page}
use Rattle.run_model.specs.Boot.{open_page}
use Rattle.board_model.proofs.Giving.{given_guaranteed, given_page}
use Rattle.board_model.proofs.Keeping.{mapped_one}
use Rattle.board_boot.proofs.loading.give_zero_page.Goals as goal

pub returns-clause-mapped : goal.returns-clause-mapped
returns-clause-mapped c =
    rw c.guarantee.ensures.mapping
    (mapped_one c.args.number _ c.args.pages.now (open_page c.args.vpn zero_page) _ c.keep_page-page.ensures.lowest)

pub returns-clause-seen : goal.returns-clause-seen
returns-clause-seen c =
    let kept = c.keep_page-page.ensures in
    rw (c.zero.ensures, c.guarantee.ensures.mapping)
    (given_page _ _ c.args.number c.args.vpn _ _ _ _ c.requires.guaranteed kept.there kept.was_free c.requires.same)

pub returns-clause-guaranteed : goal.returns-clause-guaranteed
returns-clause-guaranteed c =
    let kept = c.keep_page-page.ensures in
    rw (c.guarantee.ensures.mapping, kept.after)
    (given_guaranteed c.args.frames.now _ _ c.args.vpn _ _ zero_page _ c.requires.guaranteed kept.there kept.was_free c.requires.above)
