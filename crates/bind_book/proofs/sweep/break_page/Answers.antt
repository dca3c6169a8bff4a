use Rattle.bind_book.specs.Stripe.{leads_to_page}
use Rattle.bind_book.proofs.Swept.{swept_none}
use Rattle.bind_book.proofs.sweep.break_page.Goals as goal

pub loop-place-init : goal.loop-place-init
loop-place-init c = swept_none c.args.version (leads_to_page c.args.page c.args.but) c.args.rows.now
