-- The world that an image boots.
use Rattle.std.specs.Prelude.{ℕ, zero, suc, ◌+◌, ◌-◌, List, [], ◌∷◌, ◌++◌, length, map, true, Option, Some, None, slice_get}
use Rattle.std.specs.Option.{option_flatten, option_map}
use Rattle.aegis_limits.specs.Limits.{stack_end}
use Rattle.aegis_limits.specs.declared.version.Version.{Version}
use Rattle.frame_store.specs.Pages.{zero_page}
use Rattle.elf_static.specs.ElfValue.{ElfValue}
use Rattle.segment_pages.specs.Pages.{is_writable, page_bytes, vpns}
use Rattle.boot_image.specs.ImageValue.{ImageValue, ProgramValue, guaranteed_mappings}
use Rattle.env_frames.specs.Context.{context_number}
use Rattle.env_frames.specs.declared.mapping.Mapping.{Mapping}
use Rattle.page_book.specs.declared.row.PageRow.{PageRow}
use Rattle.page_book.specs.declared.row.PageRow.TheVariants.{Free, Guaranteed}
use Rattle.page_book.specs.Rows.{lowest_free}
use Rattle.kernel_journal.specs.declared.row.Row.{Row}
use Rattle.world_model.specs.declared.hold.Hold.{Hold}
use Rattle.world_model.specs.Table.{listed, set_at}
use Rattle.world_model.specs.SlotCalls.{slot_row}
use Rattle.world_model.specs.Book.{Book, own_hold}
use Rattle.world_model.specs.Page.{KeptPage}
use Rattle.world_model.specs.Solo.{absent, nothing_bound}
use Rattle.world_model.specs.Item.{Item, Boot, absorb_all}
use Rattle.world_model.specs.World.{World, only}

-- a guaranteed page that may be stored to
abbrev pub open_page : ℕ → List ℕ → KeptPage
open_page vpn bytes = record { vpn = vpn; writable = true; bytes = bytes }

-- the page of a program's body at a VPN
abbrev pub body_page : ElfValue → ℕ → KeptPage
body_page body vpn = record { vpn = vpn; writable = is_writable body vpn; bytes = page_bytes body vpn }

-- the page of a program's stack at this place
abbrev pub stack_page : ProgramValue → ℕ → KeptPage
stack_page p i = open_page (stack_end - p.stack + i) zero_page

-- the context page, then the pages of the program's body, then those of its stack
abbrev pub kept_of : ProgramValue → List KeptPage
kept_of p = open_page context_number zero_page ∷ map (body_page p.body) (vpns p.body) ++ listed (stack_page p) p.stack

-- what is given to an environment at boot: its record, where the image has one
abbrev pub record_items : Version → ℕ → Option ProgramValue → List Item
record_items v e None = []
record_items v e (Some p) = Boot v e p.name p.body.entry p.accept (kept_of p) ∷ []

abbrev pub boot_items : ImageValue → ℕ → List Item
boot_items image e = record_items image.version e (slice_get image.programs e)

-- at boot an owner holds its slot
abbrev pub boot_slot : List (Option ℕ) → ℕ → Option Hold
boot_slot owners k = option_map own_hold (option_flatten (slice_get owners k))

-- an empty slot has no row
abbrev pub own_row : ℕ → Option Hold → List Row
own_row k None = []
own_row k (Some hold) = slot_row 0 k (Some hold) ∷ []

-- a row for each slot below k that has an owner
abbrev pub own_rows : List (Option ℕ) → ℕ → List Row
own_rows owners zero = []
own_rows owners (suc k) = own_rows owners k ++ own_row k (boot_slot owners k)

abbrev pub boot_book : Version → ℕ → ℕ → List (Option ℕ) → Book
boot_book v pages quantum owners = record {
  version = v;
  slot_count = length owners;
  slots = boot_slot owners;
  quantum = quantum;
  cursor = length owners - 1;
  runner = None;
  excess = λ e. 0;
  page_count = pages;
  pages = λ page. Free;
  kept = λ e. [];
  binds = λ e. nothing_bound;
  lines = λ line. None;
  claims = [];
  next_claim = 0;
  pending = λ e. None;
  backups = λ e. [];
  time = 0;
}

-- the world of a board on which no program stands yet
abbrev pub bare_world : Version → ℕ → ℕ → List (Option ℕ) → World
bare_world v pages quantum owners = record {
  book = boot_book v pages quantum owners;
  count = 0;
  solos = absent;
  rows = own_rows owners (length owners);
}

-- the book of an image before any page is guaranteed
abbrev pub book_of_image : ImageValue → Book
book_of_image image = boot_book image.version image.pages image.quantum image.slots

-- the pages once the lowest free one of those below count, if there is one, is guaranteed to an environment
abbrev pub keep_lowest : ℕ → Option ℕ → (ℕ → PageRow) → ℕ → PageRow
keep_lowest e None pages = pages
keep_lowest e (Some page) pages = set_at page (Guaranteed e) pages

-- so many of the lowest free pages, one after another
abbrev pub keep_pages : ℕ → ℕ → ℕ → (ℕ → PageRow) → ℕ → PageRow
keep_pages e count zero pages = pages
keep_pages e count (suc n) pages = keep_lowest e (lowest_free (keep_pages e count n pages) count)
    (keep_pages e count n pages)

-- the mapping of a guaranteed page, which gets the lowest free page, if there is one
abbrev pub mapped_to : KeptPage → Option ℕ → List Mapping
mapped_to p None = []
mapped_to p (Some page) = record { vpn = p.vpn; page = page; writable = p.writable } ∷ []

-- the mappings of guaranteed pages: each gets the page that is the lowest free one once those before it have theirs
abbrev pub mappings_over : ℕ → ℕ → (ℕ → PageRow) → List KeptPage → List Mapping
mappings_over e count pages [] = []
mappings_over e count pages (p ∷ kept) =
    let lowest = lowest_free pages count in
    mapped_to p lowest ++ mappings_over e count (keep_lowest e lowest pages) kept

-- the book once the pages of a program are guaranteed to an environment, by rising VPN
abbrev pub with_kept : ℕ → ProgramValue → Book → Book
with_kept e p b = record b {
  pages = keep_pages e b.page_count (guaranteed_mappings p) b.pages;
  kept = set_at e (mappings_over e b.page_count b.pages (kept_of p)) b.kept;
}

-- the book once those of environments from this one on are
abbrev pub with_all_kept : ℕ → List ProgramValue → Book → Book
with_all_kept e [] b = b
with_all_kept e (p ∷ programs) b = with_all_kept (e + 1) programs (with_kept e p b)

abbrev pub boot_world : ImageValue → World
boot_world image = record (bare_world image.version image.pages image.quantum image.slots) {
  book = with_all_kept 0 image.programs (book_of_image image);
  count = length image.programs;
  solos = λ e. absorb_all (absent e) (boot_items image e);
}

-- the world with the next environment on it, which is given its record
abbrev pub with_program : World → ProgramValue → World
with_program w p = record w {
  book = with_kept w.count p w.book;
  count = w.count + 1;
  solos = λ e. absorb_all (w.solos e) (only w.count (record_items w.book.version w.count (Some p)) e);
}
