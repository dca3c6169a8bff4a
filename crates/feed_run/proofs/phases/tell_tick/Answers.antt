-- The phases of the tick, one after another.
use Rattle.std.proofs.Common.{◌≡◌, ◌∷◌, [], ◌++◌, List, map, subst}
use Rattle.board_model.specs.Showing.{world_of}
use Rattle.world_model.specs.Deadlines.{takings}
use Rattle.world_model.specs.Event.{happen}
use Rattle.world_model.specs.Tick.{serve_phases, step, tick_phases, timer, turn}
use Rattle.world_model.specs.World.{World, Reply}
use Rattle.aegis_tick.specs.Agenda.{occurrences}
use Rattle.feed_telling.proofs.Telling.{on_ok}
use Rattle.feed_run.specs.Phases.{PhasesTold}
use Rattle.feed_run.proofs.Joined.{both_told, tick_joined}
use Rattle.feed_run.proofs.phases.tell_tick.Goals as goal

pub returns-clause-told : goal.returns-clause-told
returns-clause-told c =
    let e = c.args.watched in
    let w = world_of c.args.board.now in
    let events = map happen (occurrences c.args.events.now) in
    let v1 = world_of c.tell_events.new.board in
    let v2 = world_of c.make_room.new.board in
    let v3 = world_of c.tell_deadlines.new.board in
    let v4 = world_of c.tell_its_turn.new.board in
    let v5 = world_of c.tell_second_half.new.board in
    let a = c.args.log.now in
    let a1 = c.tell_events.new.log in
    let a3 = c.tell_deadlines.new.log in
    let a4 = c.tell_its_turn.new.log in
    let a5 = c.tell_second_half.new.log in
    let happened = c.in_ok-tell_events.ensures.told in
    let room : v2 ≡ v1 = c.in_ok-make_room.ensures.world in
    let served : PhasesTold e (serve_phases (takings v1)) v1 v3 a1 a3 = subst (λ (v : World). PhasesTold e (serve_phases (takings v)) v v3 a1 a3) room c.in_ok-tell_deadlines.ensures.told in
    let turned = c.in_ok-tell_its_turn.ensures.told in
    on_ok c.tell_second_half.result
    (λ halved.
    let late = both_told e (turn ∷ []) (step ∷ timer ∷ []) v3 v4 v5 a3 a4 a5 turned halved in
    let rest = both_told e (serve_phases (takings v1)) (turn ∷ step ∷ timer ∷ []) v1 v3 v5 a1 a3 a5 served late in
    let ticked : PhasesTold e (tick_phases (takings v1)) v1 v5 a1 a5 = subst (λ (phases : List (World → Reply)). PhasesTold e phases v1 v5 a1 a5) (tick_joined (takings v1)) rest in
    subst (λ (v : World). PhasesTold e (events ++ tick_phases (takings v)) w v5 a a5) happened.world
    (both_told e events (tick_phases (takings v1)) w v1 v5 a a1 a5 happened ticked))
    c.tell_second_half.ensures.told
