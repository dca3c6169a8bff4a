-- Of the first entry some items are read.
use Rattle.std.proofs.Common.{List, drop, slice_set, refl, ◌∙◌, ap, arith}
use Rattle.std.specs.List.{flat_map}
use Rattle.feed_log.specs.Views.{ItemSeen}
use Rattle.feed_log.specs.Log.{Run, run_items}
use Rattle.feed_log.proofs.Runs.{lowered}
use Rattle.feed_log.proofs.log.FeedLog.skip_first.Goals as goal

pub returns-then-most-times-clause-after : goal.returns-then-most-times-clause-after
returns-then-most-times-clause-after c =
    let runs = c.self.inside.entries.items in
    let at = c.self.inside.unread in
    let most = c.args.most in
    let left = ap (λ (r : Run). flat_map run_items (drop at (slice_set runs at r))) c.lower.ensures in
    let read = lowered runs at most c.in-Some.entry.now (omega (arith, c.in-Some.ensures.variant.0 refl)) c.in-Some.ensures.value (omega (arith, c.if-most-times.true, c.times-times.ensures.times)) in
    left ∙ read ∙ ap (λ (items : List ItemSeen). drop most items) c.self.view_is
