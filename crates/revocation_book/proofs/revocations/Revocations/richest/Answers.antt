-- All environments are walked over.
use Rattle.std.proofs.Common.{arith, ◌≡◌, ◌∙◌}
use Rattle.aegis_limits.specs.Limits.{environment_numbers}
use Rattle.revocation_book.specs.RevocationBook.{books_of}
use Rattle.revocation_book.proofs.Richest.{all_walked}
use Rattle.revocation_book.proofs.revocations.Revocations.richest.Goals as goal

pub returns : goal.returns
returns c =
    let all : c.loop-env.env ≡ environment_numbers = omega arith in
    c.loop-env.invariant.so_far ∙ all_walked (books_of c.args.pages.now c.args.self.now) c.args.but c.loop-env.env all
