-- The run of a claim's handler.
use Rattle.std.specs.Prelude.{ℕ, List}
use Rattle.filter_tree.specs.declared.claim.Claim.{Claim}
use Rattle.frame_store.specs.Pages.{page_at}
use Rattle.handler_rules.specs.Running.{HandlerRun, handler_run}

-- the run of a handler of these words over a packet for a claim and the claim's ring page, in physical memory
abbrev pub claim_run : List (List ℕ) → Claim → List ℕ → List ℕ → HandlerRun
claim_run frames claim packet words = handler_run words packet claim.id (page_at frames claim.page)
