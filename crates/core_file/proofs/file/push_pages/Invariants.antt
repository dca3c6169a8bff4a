-- The bytes so far, and those of the pages that are left.
use Rattle.std.proofs.Common.{◌≡◌, ◌++◌, drop}
use Rattle.core_file.specs.Core.{pages_text}
use Rattle.core_file.specs.Seen.{pages_shown}
use Rattle.core_file.proofs.file.push_pages.Given as goal

abbrev pub invariant-loop-page : goal.invariant-loop-page
invariant-loop-page l = l.file.items ++ pages_text (pages_shown (drop l.page-index l.pages)) ≡ l.fn.file.items ++ pages_text (pages_shown l.pages)
