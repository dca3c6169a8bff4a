use Rattle.page_book.specs.Rows.{row_in}
use Rattle.bind_book.specs.Stripe.{goes_with}
use Rattle.bind_book.proofs.Swept.{swept_none}
use Rattle.bind_book.proofs.sweep.clear_env.Goals as goal

pub loop-place-init : goal.loop-place-init
loop-place-init c = swept_none c.args.version (goes_with (row_in c.args.pages.now) c.args.gone) c.args.rows.now
