-- A page that isn't loaded yet stands once.
use Rattle.revocation_book.proofs.Distinct.{distinct_loaded, may_load}
use Rattle.revocation_book.proofs.backups.Backups.load.Goals as goal

pub invariant_of-self : goal.invariant_of-self
invariant_of-self c =
    let backups = c.self.inside.pages.items in
    rw c.push.ensures.items (distinct_loaded backups c.args.page c.self.invariant (may_load backups c.args.page (rw (← c.self.view_is) at c.requires)))
