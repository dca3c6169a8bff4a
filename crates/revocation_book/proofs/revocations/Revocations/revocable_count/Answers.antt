-- The pages that it owns are its backups and those that may be taken.
use Rattle.std.proofs.Common.{arith, ap, length}
use Rattle.revocation_book.proofs.Richest.{owned_split}
use Rattle.revocation_book.proofs.revocations.Revocations.revocable_count.Goals as goal

pub overflow_sub-result : goal.overflow_sub-result
overflow_sub-result c =
    let split = owned_split c.args.pages.now c.args.self.now c.args.env c.requires.owned (rw c.backups_of.ensures at c.count.ensures.distinct) in
    omega (arith, split, c.owned_count.ensures, c.count.ensures.count, ap length c.backups_of.ensures)

pub returns : goal.returns
returns c =
    let split = owned_split c.args.pages.now c.args.self.now c.args.env c.requires.owned (rw c.backups_of.ensures at c.count.ensures.distinct) in
    omega (arith, split, c.owned_count.ensures, c.count.ensures.count, ap length c.backups_of.ensures)
