-- The pages so far are taken, and told; the others may be taken.
use Rattle.std.proofs.Common.{◌≡◌, ◌≤◌, ◌+◌, map, take, drop}
use Rattle.board_model.specs.Showing.{world_of}
use Rattle.revocation_book.specs.Takings.{AreTakable}
use Rattle.world_model.specs.Book.{is_idle_book}
use Rattle.world_model.specs.Deadlines.{takes}
use Rattle.world_model.specs.PageCalls.{revocations}
use Rattle.feed_run.specs.Phases.{PhasesTold}
use Rattle.feed_run.proofs.phases.tell_takings.Given as goal

abbrev pub invariant-loop-place : goal.invariant-loop-place
invariant-loop-place l = record {
  told : PhasesTold l.watched (map takes (take l.place l.takings)) (world_of l.fn.board) (world_of l.board) l.fn.log l.log;
  may : AreTakable (revocations (world_of l.board).book) l.board.time (drop l.place l.takings);
  idle : is_idle_book (world_of l.board).book ≡ is_idle_book (world_of l.fn.board).book;
  time : l.board.time ≡ l.fn.board.time;
  whole : l.board.roster.spare ≡ l.fn.board.roster.spare;
  numbers : l.board.claims.next ≡ l.fn.board.claims.next;
  room : l.fn.board.ledger.spare ≤ l.board.ledger.spare + l.place;
}
