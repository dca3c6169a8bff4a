-- The events so far have happened, and are told.
use Rattle.std.proofs.Common.{◌≡◌, map, take}
use Rattle.board_model.specs.Showing.{world_of}
use Rattle.world_model.specs.Book.{is_idle_book}
use Rattle.world_model.specs.Event.{happen}
use Rattle.aegis_tick.specs.Agenda.{occurrences}
use Rattle.feed_run.specs.Phases.{PhasesTold}
use Rattle.feed_run.proofs.phases.tell_events.Given as goal

abbrev pub invariant-loop-one : goal.invariant-loop-one
invariant-loop-one l = record {
  told : PhasesTold l.watched (map happen (occurrences (take l.one-index l.events))) (world_of l.fn.board) (world_of l.board) l.fn.log l.log;
  idle : is_idle_book (world_of l.board).book ≡ is_idle_book (world_of l.fn.board).book;
  time : l.board.time ≡ l.fn.board.time;
  whole : l.board.roster.spare ≡ l.fn.board.roster.spare;
  numbers : l.board.claims.next ≡ l.fn.board.claims.next;
}
