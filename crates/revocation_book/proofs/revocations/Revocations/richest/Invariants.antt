-- The richest so far, and how much it has.
use Rattle.std.proofs.Common.{◌≡◌}
use Rattle.revocation_book.specs.RevocationBook.{books_of}
use Rattle.revocation_book.specs.Richest.{revocable_of, richest_below}
use Rattle.revocation_book.proofs.revocations.Revocations.richest.Given as goal

abbrev pub invariant-loop-env : goal.invariant-loop-env
invariant-loop-env l = record {
  so_far : l.richest ≡ richest_below (books_of l.pages l.self) l.but l.env;
  has : l.most ≡ revocable_of (books_of l.pages l.self) l.richest;
}
