-- At boot nothing reaches an environment that accepts nobody.
use Rattle.std.proofs.Common.{◌≡◌, ℕ, zero, suc, List, [], ◌∷◌, false, Option, None, Some, refl, sym, ◌∙◌}
use Rattle.std.specs.Prelude.{◌+◌, slice_get}
use Rattle.aegis_limits.specs.declared.version.Version.{Version}
use Rattle.boot_image.specs.ImageValue.{ImageValue, ProgramValue, guaranteed_mappings}
use Rattle.page_book.specs.declared.row.PageRow.{PageRow}
use Rattle.page_book.specs.declared.row.PageRow.TheVariants.{Guaranteed}
use Rattle.page_book.specs.Row.{is_owned_by}
use Rattle.page_book.specs.Rows.{lowest_free}
use Rattle.world_model.specs.Book.{Book}
use Rattle.world_model.specs.Item.{absorb_all}
use Rattle.world_model.specs.Solo.{absent}
use Rattle.run_model.specs.Boot.{boot_world, book_of_image, keep_lowest, keep_pages, record_items, with_all_kept, with_kept}
use Rattle.quiet_law.proofs.Clear.{IsClear, set_owned}
use Rattle.quiet_law.proofs.Ticks.{IsStill}

-- guaranteed pages are nobody's to free
lowest_owned : (e other : ℕ) (o : Option ℕ) (pages : ℕ → PageRow) → ((n : ℕ) → is_owned_by e (pages n) ≡ false) → (n : ℕ) → is_owned_by e (keep_lowest other o pages n) ≡ false
lowest_owned e other None pages was = was
lowest_owned e other (Some page) pages was = set_owned e page (Guaranteed other) pages refl was

kept_owned : (e other count n : ℕ) (pages : ℕ → PageRow) → ((page : ℕ) → is_owned_by e (pages page) ≡ false) → (page : ℕ) → is_owned_by e (keep_pages other count n pages page) ≡ false
kept_owned e other count zero pages was = was
kept_owned e other count (suc n) pages was =
    let before = keep_pages other count n pages in lowest_owned e other (lowest_free before count) before (kept_owned e other count n pages was)

kept_clear : (e other : ℕ) (p : ProgramValue) (b : Book) → IsClear e b → IsClear e (with_kept other p b)
kept_clear e other p b clear = record { owned = kept_owned e other b.page_count (guaranteed_mappings p) b.pages clear.owned; bound = clear.bound; claims = clear.claims; lines = clear.lines }

all_kept_clear : (e other : ℕ) (programs : List ProgramValue) (b : Book) → IsClear e b → IsClear e (with_all_kept other programs b)
all_kept_clear e other [] b clear = clear
all_kept_clear e other (p ∷ programs) b clear = all_kept_clear e (other + 1) programs (with_kept other p b) (kept_clear e other p b clear)

-- what the image says of a book stays
pub record IsAsImaged (image : ImageValue) (b : Book) : Type 0 where
  pub quantum : b.quantum ≡ image.quantum
  pub runner : b.runner ≡ None
  pub excess : b.excess ≡ (λ e. 0)
  pub time : b.time ≡ 0

all_kept_imaged : (image : ImageValue) (other : ℕ) (programs : List ProgramValue) (b : Book) → IsAsImaged image b → IsAsImaged image (with_all_kept other programs b)
all_kept_imaged image other [] b is = is
all_kept_imaged image other (p ∷ programs) b is = all_kept_imaged image (other + 1) programs (with_kept other p b) (record { quantum = is.quantum; runner = is.runner; excess = is.excess; time = is.time })

pub boot_imaged : (image : ImageValue) → IsAsImaged image (boot_world image).book
boot_imaged image = all_kept_imaged image 0 image.programs (book_of_image image) (record { quantum = refl; runner = refl; excess = refl; time = refl })

-- its Solo
record_sees : (v : Version) (e : ℕ) (o : Option ProgramValue) (page : ℕ) → (absorb_all (absent e) (record_items v e o)).seen page ≡ None
record_sees v e None page = refl
record_sees v e (Some p) page = refl

record_rings : (v : Version) (e : ℕ) (o : Option ProgramValue) → (absorb_all (absent e) (record_items v e o)).rings ≡ []
record_rings v e None = refl
record_rings v e (Some p) = refl

pub boot_still : (image : ImageValue) (e : ℕ) → ((boot_world image).solos e).mask ≡ 0 → IsStill e (boot_world image)
boot_still image e deaf = record {
  clear = all_kept_clear e 0 image.programs (book_of_image image) (record { owned = λ page. refl; bound = λ row. refl; claims = refl; lines = λ line. refl });
  nothing = (let o = slice_get image.programs e in record { deaf = deaf; sees = record_sees image.version e o; rings = record_rings image.version e o });
  within = λ r is its. (let never : None ≡ Some r = sym (boot_imaged image).runner ∙ is in cc);
}
