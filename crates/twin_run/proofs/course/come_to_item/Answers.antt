use Rattle.std.proofs.Common.{inl}
use Rattle.feed_log.specs.Progress.{unread}
use Rattle.twin_run.proofs.Runs.{not_empty}
use Rattle.twin_run.proofs.course.come_to_item.Goals as goal

pub returns-after-loop-run-clause-came : goal.returns-after-loop-run-clause-came
returns-after-loop-run-clause-came g c = record {
  same = c.loop-run.invariant.2;
  under_way = c.loop-run.invariant.1;
  next = inl (not_empty (unread (g.R.ToldRun.progress c.loop-run.run)) c.first.result c.first.ensures c.loop-run-test.ensures);
}
