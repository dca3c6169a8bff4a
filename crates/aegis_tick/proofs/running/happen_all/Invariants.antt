-- The events so far have happened.
use Rattle.std.proofs.Common.{◌≡◌, ◌≤◌, ◌+◌, ◌*◌, length, take}
use Rattle.board_model.specs.Showing.{world_of}
use Rattle.aegis_calls.specs.Rows.{tick_rows}
use Rattle.aegis_tick.specs.Agenda.{occurrences}
use Rattle.aegis_tick.specs.Course.{world_with}
use Rattle.aegis_tick.proofs.running.happen_all.Given as goal

abbrev pub invariant-loop-one : goal.invariant-loop-one
invariant-loop-one l = record {
  world : world_of l.board ≡ world_with (occurrences (take l.one-index l.events)) (world_of l.fn.board);
  tlb : l.board.tlb ≡ l.fn.board.tlb;
  time : l.board.time ≡ l.fn.board.time;
  whole : l.board.roster.spare ≡ l.fn.board.roster.spare;
  numbers : l.board.claims.next ≡ l.fn.board.claims.next;
  room : tick_rows * length l.events ≤ l.fn.board.ledger.spare → l.fn.board.ledger.spare ≤ l.board.ledger.spare + tick_rows * l.one-index;
}
