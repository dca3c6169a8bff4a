-- Each turn of the loop tells one event more.
use Rattle.std.proofs.Common.{◌≡◌, ◌∷◌, [], List, map, take, ◌∙◌, ap, subst}
use Rattle.board_model.specs.Shown.{Shown}
use Rattle.external_event.specs.declared.event.Occurrence.{Occurrence}
use Rattle.external_event.specs.EventValue.{EventValue}
use Rattle.board_model.specs.Showing.{world_of}
use Rattle.world_model.specs.Event.{happen}
use Rattle.world_model.specs.Book.{is_idle_book}
use Rattle.world_model.specs.World.{World, Reply, after}
use Rattle.feed_telling.specs.Tell.{AreTold}
use Rattle.aegis_tick.specs.Agenda.{occurrences}
use Rattle.feed_run.specs.Phases.{PhasesTold}
use Rattle.feed_run.proofs.Joined.{both_told, one_event_more, one_told}
use Rattle.feed_run.proofs.phases.tell_events.Goals as goal

pub loop-one-preserved : goal.loop-one-preserved
loop-one-preserved c =
    let e = c.args.watched in
    let es = c.args.events.now in
    let i = c.loop-one.one-index in
    let x = c.one-item.result in
    let w = world_of c.args.board.now in
    let u = world_of c.loop-one.board in
    let v = world_of c.event.new.board in
    let now = c.loop-one.invariant in
    let room = c.in_ok-make_room.ensures.same in
    let same = c.event.ensures.same in
    let before : world_of c.make_room.new.board ≡ u = c.in_ok-make_room.ensures.world in
    let first = map happen (occurrences (take i es)) in
    let one : c.one.inside.what ≡ x.what = ap (λ (y : EventValue). y.what) c.one.view_is in
    let told = one_told e (happen x.what) u v c.loop-one.log c.tell_event.new.log
    (c.event.ensures.world ∙ ap (λ (t : World). after t (happen x.what t)) before)
    (subst (λ (t : World). AreTold c.loop-one.log c.tell_event.new.log ((happen x.what t).items e)) before
    (subst (λ (what : Occurrence). AreTold c.loop-one.log c.tell_event.new.log ((happen what (world_of c.make_room.new.board)).items e)) one
    (subst (λ (b : Shown). AreTold c.loop-one.log c.tell_event.new.log ((happen c.one.inside.what (world_of b)).items e)) c.of.ensures c.in_ok-tell_event.ensures))) in
    record {
      told = subst (λ (phases : List (World → Reply)). PhasesTold e phases w v c.args.log.now c.tell_event.new.log) (one_event_more es i x c.loop-one-test.true c.one-item.is)
          (both_told e first (happen x.what ∷ []) w u v c.args.log.now c.loop-one.log c.tell_event.new.log now.told told);
      idle = c.event.ensures.idle ∙ ap (λ (t : World). is_idle_book t.book) before ∙ now.idle;
      time = same.time ∙ ap (λ (b : Shown). b.time) room ∙ now.time;
      whole = same.whole ∙ ap (λ (b : Shown). b.roster.spare) room ∙ now.whole;
      numbers = same.numbers ∙ ap (λ (b : Shown). b.claims.next) room ∙ now.numbers;
    }
