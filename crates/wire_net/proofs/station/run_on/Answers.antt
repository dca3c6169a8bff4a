-- For no tick it stays as it is, and so does an idle one; else it is at the tick from which it runs on.
use Rattle.std.proofs.Common.{ℕ, sym, ◌∙◌, subst}
use Rattle.board_model.specs.Showing.{world_of}
use Rattle.wire_net.specs.Station.{AreSilent}
use Rattle.wire_net.proofs.Ahead.{idle_is_silent, none_are_silent, stretch_is_silent}
use Rattle.wire_net.proofs.station.run_on.Goals as goal
use Rattle.wire_net.proofs.station.run_on.Goals.{then-most-eq0-via-then-most-eq0, then-most-eq0-via-else-most-eq0+then-idle}

pub returns-then-most-eq0-clause-silent : goal.returns-then-most-eq0-clause-silent
returns-then-most-eq0-clause-silent c =
    let w = world_of c.args.board.now in
    let most = c.ticks_before-most.result in
    elim c.then-most-eq0.branch [
      | then-most-eq0-via-then-most-eq0 w' ↦ none_are_silent c.args.from most w w'.if-most-eq0.true
      | then-most-eq0-via-else-most-eq0+then-idle w' ↦ idle_is_silent c.args.from most w (sym w'.idle.ensures ∙ w'.if-idle.true)
    ]

pub returns-clause-silent : goal.returns-clause-silent
returns-clause-silent c =
    let before = c.args.board.now in
    let went = c.stretch.ensures.stretch in
    let ticks = c.stretch.result.made in
    subst (λ (t : ℕ). AreSilent t ticks (world_of before) (world_of c.stretch.new.self)) (c.requires.between.time (sym c.idle.ensures ∙ c.if-idle.false))
    (stretch_is_silent ticks before c.stretch.new.self went.world went.steady)
