-- The victims so far are taken, and they are no more than are outstanding.
use Rattle.std.proofs.Common.{◌≡◌, ◌≤◌, ◌++◌, length}
use Rattle.revocation_book.specs.RevocationBook.{backups_at, books_of}
use Rattle.revocation_book.specs.Takings.{paired, victims_below}
use Rattle.revocation_book.proofs.revocations.Revocations.push_takings.Given as goal

abbrev pub invariant-loop-page : goal.invariant-loop-page
invariant-loop-page l = record {
  counted : l.taken ≡ length (victims_below (books_of l.pages l.self) l.env l.page);
  few : l.taken ≤ l.pending.outstanding;
  told : l.takings ≡ l.fn.takings ++ paired l.env (victims_below (books_of l.pages l.self) l.env l.page) (backups_at l.self l.env);
}
