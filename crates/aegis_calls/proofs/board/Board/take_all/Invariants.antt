-- What is left is taken from what is left of the board.
use Rattle.std.proofs.Common.{◌≡◌, ◌≤◌, drop, fold, length}
use Rattle.revocation_book.specs.RevocationBook.{books_of}
use Rattle.revocation_book.specs.Takings.{AreTakable}
use Rattle.board_model.specs.Doing.{after_taking}
use Rattle.aegis_calls.proofs.board.Board.take_all.Given as goal

abbrev pub invariant-loop-place : goal.invariant-loop-place
invariant-loop-place l = record {
  rest : fold after_taking l.self (drop l.place l.takings) ≡ fold after_taking l.fn.self l.takings;
  may : AreTakable (books_of l.self.pages l.self.revocations) l.self.time (drop l.place l.takings);
  room : length (drop l.place l.takings) ≤ l.self.ledger.spare;
}
