use Rattle.std.proofs.Common.{◌≡◌, ◌+◌, take}
use Rattle.std.specs.Prelude.{sum_by}
use Rattle.run_report.specs.Room.{lines_room, packet_room, within_usize}
use Rattle.run_report.proofs.room.environment_room.Given as goal

abbrev pub invariant-loop-place : goal.invariant-loop-place
invariant-loop-place g l =
    let s = (g.V.WorldView.world l.view).solos l.env in
    l.room ≡ within_usize (lines_room s + sum_by packet_room (take l.place s.sent))
