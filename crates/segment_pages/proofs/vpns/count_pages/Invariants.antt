-- The pages that were counted and those from here on are all pages.
use Rattle.std.proofs.Common.{◌≡◌, ◌≤◌, ◌+◌, length}
use Rattle.segment_pages.specs.Pages.{pages_from, vpns}
use Rattle.segment_pages.proofs.vpns.count_pages.Given as goal

abbrev pub invariant-loop-vpn : goal.invariant-loop-vpn
invariant-loop-vpn l = record {
  counted : l.count + length (pages_from l.program l.first) ≡ length (vpns l.program);
  most : l.count ≤ l.most;
}

abbrev pub decreases-loop-vpn : goal.decreases-loop-vpn
decreases-loop-vpn l = length (pages_from l.program l.first)
