-- What is for the machine of the deliveries so far has arrived.
use Rattle.std.proofs.Common.{◌≡◌, take}
use Rattle.board_model.specs.Showing.{world_of}
use Rattle.aegis_tick.specs.Course.{world_with}
use Rattle.wire_net.specs.Delivery.{arriving}
use Rattle.wire_net.proofs.station.arrive_all.Given as goal

abbrev pub invariant-loop-delivery : goal.invariant-loop-delivery
invariant-loop-delivery l = record {
  world : world_of l.board ≡ world_with (arriving l.machine (take l.delivery-index l.due)) (world_of l.fn.board);
  time : l.board.time ≡ l.fn.board.time;
  whole : l.board.roster.spare ≡ l.fn.board.roster.spare;
  numbers : l.board.claims.next ≡ l.fn.board.claims.next;
}
