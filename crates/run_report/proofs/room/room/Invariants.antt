use Rattle.std.proofs.Common.{◌≡◌, ◌+◌}
use Rattle.std.specs.Prelude.{sum}
use Rattle.world_model.specs.Table.{listed}
use Rattle.run_report.specs.Room.{environment_room, frame_room, within_usize}
use Rattle.run_report.proofs.room.room.Given as goal

abbrev pub invariant-loop-env : goal.invariant-loop-env
invariant-loop-env g l =
    let w = g.V.WorldView.world l.view in
    l.room ≡ within_usize (frame_room w + sum (listed (λ e. environment_room (w.solos e)) l.env))
