-- A book that lists nothing but what another lists: what happens in a tick up to its step.
use Rattle.std.proofs.Common.{◌≡◌, ℕ, List, [], ◌∷◌, map, Some, refl, sym, ◌∙◌, subst}
use Rattle.bind_book.specs.declared.binding.Binding.{Binding}
use Rattle.revocation_book.specs.declared.revocation.Taking.{Taking}
use Rattle.world_model.specs.Book.{Book}
use Rattle.world_model.specs.Deadlines.{settles, takes}
use Rattle.external_event.specs.declared.event.Occurrence.{Occurrence}
use Rattle.world_model.specs.Event.{happen}
use Rattle.world_model.specs.Tick.{serve_phases}
use Rattle.world_model.specs.World.{World, after, run_phases}
use Rattle.sharing_law.specs.Agreement.{AreBoundAllocated, IsAllocated}
use Rattle.sharing_law.proofs.Given.{rests_same}
use Rattle.sharing_law.proofs.Happening.{happen_lists}
use Rattle.sharing_law.proofs.Replies.{Remains, freed_remains}
use Rattle.sharing_law.proofs.Turning.{IsAlike, ListsSame, same_lists}

-- each binding that it lists was listed, and its page has the row that it had
pub record ListsLess (old new : Book) : Type 0 where
  pub each : (i row : ℕ) (b : Binding) → new.binds i row ≡ Some b → Remains old new i row b

pub less_same : (old new : Book) → ListsSame old new → ListsLess old new
less_same old new same = record { each = λ i row b is. record { listed = (λ k. sym same.binds k i row) ∙ is; page = λ k. same.pages k b.page } }

pub less_then : (a b c : Book) → ListsLess a b → ListsLess b c → ListsLess a c
less_then a b c first next = record {
  each = λ i row x is.
      let late = next.each i row x is in
      let early = first.each i row x late.listed in
      record { listed = early.listed; page = late.page ∙ early.page };
}

pub less_alike : (base w v : World) → ListsLess base.book w.book → IsAlike w v → ListsLess base.book v.book
less_alike base w v less alike = less_then base.book w.book v.book less (less_same w.book v.book alike.lists)

pub allocated_less : (w v : World) → ListsLess w.book v.book → AreBoundAllocated w → AreBoundAllocated v
allocated_less w v less allocated e row b at = let left = less.each e row b at in subst IsAllocated (sym left.page) (allocated e row b left.listed)

-- what happens from outside
pub events_list : (happens : List Occurrence) (w : World) → ListsLess w.book (run_phases w (map happen happens)).book
events_list [] w = less_same w.book w.book (same_lists w.book)
events_list (what ∷ happens) w =
    let v = after w (happen what w) in
    less_then w.book v.book (run_phases v (map happen happens)).book (less_same w.book v.book (happen_lists what w)) (events_list happens v)

-- a page that is taken
pub taking_lists : (x : Taking) (w : World) → ListsLess w.book (takes x w).book
taking_lists x w = record { each = λ i row b is. let left = freed_remains w.book x.page i row b is in record { listed = left.listed; page = left.page } }

-- the end of deadlines
pub settled_alike : (w : World) → IsAlike w (after w (settles w))
settled_alike w = record { solos = λ i. rests_same (w.solos i); lists = record { version = refl; pages = refl; binds = refl; claims = refl; next = refl; backups = refl; kept = refl; lines = refl; count = refl } }

-- and so once they are served
pub served_list : (xs : List Taking) (w : World) → ListsLess w.book (run_phases w (serve_phases xs)).book
served_list [] w = let v = after w (settles w) in less_same w.book v.book (settled_alike w).lists
served_list (x ∷ xs) w =
    let v = after w (takes x w) in
    less_then w.book v.book (run_phases v (serve_phases xs)).book (taking_lists x w) (served_list xs v)
