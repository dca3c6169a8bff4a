-- What a step leaves of the ring page that is lent to it.
use Rattle.std.proofs.Common.{◌≡◌, Option, rules}
use Rattle.mips_exec.specs.Access.{Write}
use Rattle.mips_exec.specs.Step.{Wrote}
use Rattle.safe_handler.specs.declared.lent.HandlerBus.{HandlerBus}
use Rattle.safe_handler.specs.Lent.{IsKept, IsStored}
use Rattle.handler_rules.specs.Memory.{page_after}

-- it is the same page that was lent
pub wrote_lent : (old new : HandlerBus) (w : Option Write) → Wrote IsKept IsStored old w new → old.page.ghost_name ≡ new.page.ghost_name
wrote_lent old new w kept = search rules

-- with what was written
pub wrote_page : (old new : HandlerBus) (w : Option Write) → Wrote IsKept IsStored old w new → new.page.now ≡ page_after old.page.now w
wrote_page old new w kept = search rules
