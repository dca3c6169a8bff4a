-- The pages have one size, and so all bytes are copied.
use Rattle.std.proofs.Common.{sym, ap, ◌∙◌, length}
use Rattle.board_model.proofs.Copying.{copied_whole}
use Rattle.board_acts.proofs.backup.copy_to_backup.Goals as goal

pub returns-in-Some-clause-frames : goal.returns-in-Some-clause-frames
returns-in-Some-clause-frames c =
    let sized = sym (ap length c.page-page.ensures.bytes) ∙ c.page-page.ensures.size ∙ sym c.page-backup.ensures.size ∙ ap length c.page-backup.ensures.bytes in
    rw (c.copy_page.ensures, c.in-Some.is) (copied_whole c.args.frames.now c.args.page c.in-Some.backup sized)
