-- A page that isn't there is nobody's.
use Rattle.std.proofs.Common.{ap, sym}
use Rattle.page_book.specs.Row.{is_owned_by}
use Rattle.feed_board.proofs.Paging.{free_behind}
use Rattle.feed_board.proofs.pages.owns.Goals as goal

pub returns-in-None : goal.returns-in-None
returns-in-None c = sym (ap (is_owned_by c.args.env) (free_behind c.args.pages.now c.args.page (cc c.in-None.ensures)))
