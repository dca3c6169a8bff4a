-- What is taken from the environments so far is in the list.
use Rattle.std.proofs.Common.{◌≡◌}
use Rattle.revocation_book.specs.RevocationBook.{books_of}
use Rattle.revocation_book.specs.Takings.{takings_below}
use Rattle.revocation_book.proofs.revocations.Revocations.takings.Given as goal

abbrev pub invariant-loop-env : goal.invariant-loop-env
invariant-loop-env l = l.takings ≡ takings_below (books_of l.pages l.self) l.time l.env
