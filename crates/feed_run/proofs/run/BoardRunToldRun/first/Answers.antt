-- The log has the items that weren't read.
use Rattle.run_model.specs.Run.{feed}
use Rattle.aegis_tick.specs.OnCourse.{system_of}
use Rattle.feed_run.proofs.Unread.{first_of}
use Rattle.feed_run.proofs.run.BoardRunToldRun.first.Goals as goal

pub returns : goal.returns
returns c =
    let r = c.args.self.now in
    first_of c.law_views.ensures (feed (system_of r.course) r.watched r.course.board.time) r.log c.first.result c.requires.unread c.first.ensures
