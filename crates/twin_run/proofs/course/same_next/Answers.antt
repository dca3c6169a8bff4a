use Rattle.std.proofs.Common.{◌∙◌, subst, sym}
use Rattle.feed_log.specs.Log.{shown}
use Rattle.feed_log.specs.Progress.{IsFirst, unread}
use Rattle.twin_run.proofs.Runs.{apart_unlike, next_same, none_same}
use Rattle.twin_run.proofs.course.same_next.Goals as goal

pub returns-in-Some-Some : goal.returns-in-Some-Some
returns-in-Some-Some g c =
    let p = g.R.ToldRun.progress c.args.left.now in
    let q = g.R.ToldRun.progress c.args.right.now in
    let both = c.in-Some-Some in
    next_same p q (shown both.item) (shown both.other) both.count both.other_count c.law_views.ensures
    (subst (IsFirst (unread p)) both.is-0 c.first.ensures) (subst (IsFirst (unread q)) both.is-1 c.first-2.ensures)
    (sym c.is_alike.ensures ∙ c.if-is_alike.true) c.min.result c.min.ensures

pub returns-in_default : goal.returns-in_default
returns-in_default g c =
    let p = g.R.ToldRun.progress c.args.left.now in
    let q = g.R.ToldRun.progress c.args.right.now in
    let both = c.in-Some-Some in
    none_same p q
    (apart_unlike p q (shown both.item) (shown both.other) both.count both.other_count
    (subst (IsFirst (unread p)) both.is-0 c.first.ensures) (subst (IsFirst (unread q)) both.is-1 c.first-2.ensures)
    (sym c.is_alike.ensures ∙ c.if-is_alike.false))
