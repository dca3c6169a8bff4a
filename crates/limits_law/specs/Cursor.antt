-- The cursor, and the sizes of the book.
use Rattle.std.specs.Prelude.{◌≡◌, ◌<◌, ◌≤◌, ℕ, length}
use Rattle.aegis_limits.specs.Limits.{most_slots}
use Rattle.boot_image.specs.Accepted.{IsAccepted}
use Rattle.boot_image.specs.ImageValue.{ImageValue}
use Rattle.world_model.specs.Book.{Book}
use Rattle.run_model.specs.Run.{System, moment}

-- The cursor is at one of the slots. They are those of the image, 64 at most; and so are the pages.
pub record IsSized (image : ImageValue) (b : Book) : Type 0 where
  pub cursor : b.cursor < b.slot_count
  pub slots : b.slot_count ≡ length image.slots
  pub most : b.slot_count ≤ most_slots
  pub pages : b.page_count ≡ image.pages

-- So it is at each moment of each run of an accepted image.
abbrev pub CursorsAreWithin : Type 0
CursorsAreWithin = (system : System) (t k : ℕ) → IsAccepted system.image
    → IsSized system.image (moment system t k).book
