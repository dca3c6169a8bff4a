use Rattle.r3k_tlb.specs.Rows.{has_page}
use Rattle.r3k_tlb.proofs.Emptying.{none_to_empty}
use Rattle.r3k_tlb.proofs.tlb.Tlb.drop_page.Goals as goal

pub returns-else-leads_to_page : goal.returns-else-leads_to_page
returns-else-leads_to_page c = none_to_empty (has_page c.args.page) c.args.self.now (rw c.leads_to_page.ensures at c.if-leads_to_page.false)
