-- An environment whose pages are being given to it, one after another.
use Rattle.std.specs.Prelude.{◌≡◌, ◌≢◌, ◌+◌, ℕ, List, ◌++◌, length}
use Rattle.frame_store.specs.Pages.{page_at, zero_page}
use Rattle.env_frames.specs.declared.mapping.Mapping.{Mapping}
use Rattle.page_book.specs.declared.row.PageRow.{PageRow}
use Rattle.page_book.specs.declared.row.PageRow.TheVariants.{Free}
use Rattle.page_book.specs.Rows.{free_pages, row_in}
use Rattle.world_model.specs.Page.{KeptPage}
use Rattle.world_model.specs.Table.{listed}
use Rattle.run_model.specs.Boot.{keep_pages, mappings_over, open_page}
use Rattle.board_model.specs.Shown.{Shown}

-- physical memory has a page for each row
abbrev pub HasPages : List (List ℕ) → List PageRow → Type 0
HasPages frames pages = length frames ≡ length pages

-- the pages that weren't free stayed as they were, and none came or went
pub record AreLeft (pages : List PageRow) (old new : List (List ℕ)) : Type 0 where
  pub size : length new ≡ length old
  pub left : (n : ℕ) → row_in pages n ≢ Free → page_at new n ≡ page_at old n

-- So many of the lowest free pages were guaranteed to an environment, and those that weren't free stayed as they were.
pub record AreGiven (e count : ℕ) (old new : List PageRow) (before after : List (List ℕ)) : Type 0 where
  pub rows : row_in new ≡ keep_pages e (length old) count (row_in old)
  pub size : length new ≡ length old
  pub free : free_pages old ≡ free_pages new + count
  pub left : AreLeft old before after

-- the guaranteed mappings of an environment, once these pages were given to it behind those that it had
abbrev pub with_mapped : ℕ → List PageRow → List KeptPage → List Mapping → List Mapping
with_mapped e pages given mappings = mappings ++ mappings_over e (length pages) (row_in pages) given

-- so many pages of zeros, from a VPN on
abbrev pub zeros_from : ℕ → ℕ → List KeptPage
zeros_from vpn count = listed (λ i. open_page (vpn + i) zero_page) count

-- a board on which no program stands yet, with so many pages, and room for so many environments
pub record IsBare (pages envs : ℕ) (b : Shown) : Type 0 where
  pub pages_are : length b.frames ≡ pages
  pub free : free_pages b.pages ≡ pages
  pub spare : b.roster.spare ≡ envs
  pub time : b.time ≡ 0
