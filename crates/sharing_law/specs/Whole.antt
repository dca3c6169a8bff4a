-- Pages are whole: each page that is guaranteed has its 4,096 bytes, and where what happens from outside is within its
-- limits, each page that is allocated.
use Rattle.std.specs.Prelude.{◌≡◌, ℕ, suc, length, true, Some, slice_get}
use Rattle.aegis_limits.specs.Limits.{page_size}
use Rattle.external_event.specs.declared.event.Occurrence.{Occurrence}
use Rattle.external_event.specs.EventValue.{is_occurrence}
use Rattle.world_model.specs.Event.{Schedule}
use Rattle.world_model.specs.Page.{KeptPage}
use Rattle.world_model.specs.PageCalls.{page_bytes}
use Rattle.run_model.specs.Run.{System, moment}
use Rattle.sharing_law.specs.Change.{IsOwnedAt}
use Rattle.sharing_law.specs.Delivery.{IsCopied}

-- all that happens in a schedule is within its limits, as a packet's length
abbrev pub AreEventsWithinLimits : Schedule → Type 0
AreEventsWithinLimits schedule = (tick k : ℕ) (what : Occurrence) → slice_get (schedule tick) k ≡ Some what
    → is_occurrence what ≡ true

abbrev pub PagesAreWhole : Type 0
PagesAreWhole = (system : System) (t k page owner : ℕ) → AreEventsWithinLimits system.schedule
    → IsOwnedAt system t k page owner
    → length (page_bytes (moment system t k) page) ≡ page_size

-- So a copy of a page that is taken is this page, byte by byte.
abbrev pub CopiesAreWhole : Type 0
CopiesAreWhole = (system : System) (t k page owner : ℕ) → AreEventsWithinLimits system.schedule
    → (copied : IsCopied system t k page owner)
    → page_bytes (moment system t (suc k)) page ≡ page_bytes (moment system t k) copied.taken

-- Each guaranteed page of each environment is whole at each moment, whatever happens from outside.
abbrev pub GuaranteedAreWhole : Type 0
GuaranteedAreWhole = (system : System) (t k e n : ℕ) (page : KeptPage)
    → slice_get ((moment system t k).solos e).kept n ≡ Some page → length page.bytes ≡ page_size
