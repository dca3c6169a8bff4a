-- It is found where one of the rows so far leads to the page.
use Rattle.std.proofs.Common.{◌≡◌, take}
use Rattle.std.specs.List.{list_any}
use Rattle.r3k_tlb.specs.Rows.{has_page}
use Rattle.r3k_tlb.proofs.tlb.Tlb.leads_to_page.Given as goal

abbrev pub invariant-loop-row : goal.invariant-loop-row
invariant-loop-row l = l.found ≡ list_any (has_page l.page) (take l.row-index l.row-items)
