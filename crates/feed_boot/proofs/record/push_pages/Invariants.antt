use Rattle.std.proofs.Common.{◌≡◌, ◌++◌, take}
use Rattle.std.specs.List.{flat_map}
use Rattle.feed_log.specs.Views.{page_text}
use Rattle.feed_boot.proofs.record.push_pages.Given as goal

abbrev pub invariant-loop-place : goal.invariant-loop-place
invariant-loop-place g l = l.out.items ≡ l.fn.out.items ++ flat_map page_text (take l.place ((g.V.WorldView.world l.view).solos l.env).kept)
