-- The pages so far are released already, and those that are left are to be.
use Rattle.std.proofs.Common.{◌≡◌, ◌++◌, map, take, drop}
use Rattle.page_book.specs.Row.{released}
use Rattle.page_book.proofs.pages.Pages.release_env.Given as goal

abbrev pub invariant-loop-page : goal.invariant-loop-page
invariant-loop-page l = take l.page l.self ++ map (released l.env) (drop l.page l.self) ≡ map (released l.env) l.fn.self
