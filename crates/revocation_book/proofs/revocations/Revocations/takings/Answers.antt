-- What is taken from the environments so far and the next is no more than there are pages.
use Rattle.std.proofs.Common.{◌≤◌, ◌+◌, suc, length, length-append, ap, arith}
use Rattle.revocation_book.specs.RevocationBook.{books_of}
use Rattle.revocation_book.specs.Takings.{Books, takings_below, takings_of}
use Rattle.revocation_book.proofs.revocations.Revocations.takings.Goals as goal

pub push_takings-requires-clause-room : goal.push_takings-requires-clause-room
push_takings-requires-clause-room c =
    let b : Books = books_of c.args.pages.now c.args.self.now in
    let few = c.law_few_takings.ensures b c.args.time (suc c.loop-env.env) in
    let both = length-append (takings_below b c.args.time c.loop-env.env) (takings_of b c.args.time c.loop-env.env) in
    let room : length c.loop-env.takings + length (takings_of b c.args.time c.loop-env.env) ≤ length c.args.pages.now = omega (arith, few, both, ap length c.loop-env.invariant) in
    room
