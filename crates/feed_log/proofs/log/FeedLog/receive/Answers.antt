-- A row of items more is told here.
use Rattle.std.proofs.Common.{◌≡◌, ◌++◌, List, Bool, drop, replicate, sym, ◌∙◌, ap}
use Rattle.std.specs.Prelude.{◌||◌}
use Rattle.std.specs.List.{list_any}
use Rattle.feed_log.specs.Views.{ItemSeen}
use Rattle.feed_log.specs.Log.{begins_seen, shown}
use Rattle.feed_log.proofs.Runs.{begun, received}
use Rattle.feed_log.proofs.log.FeedLog.receive.Goals as goal

pub loop-item-preserved : goal.loop-item-preserved
loop-item-preserved c =
    let times = c.in-Some.times in
    let item = shown c.in-Some.item in
    let first = c.in-Some.ensures in
    let row = replicate times item in
    let now = c.loop-item.invariant in (
      ap (λ (log : List ItemSeen). log ++ c.skip.new.self) c.in_ok-append.ensures.log
          ∙ ap (λ (rest : List ItemSeen). (c.loop-item.self ++ row) ++ rest) c.skip.ensures
          ∙ received c.loop-item.self c.loop-item.other item times first
          ∙ now.0,
      now.1
          ∙ begun c.loop-item.begins c.loop-item.other item times first
          ∙ (λ k. (c.loop-item.begins || sym c.begins_slice-begins.ensures k) || list_any begins_seen (sym c.skip.ensures k)),
    )
