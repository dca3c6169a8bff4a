-- Physical memory as one list of bytes, which pages are cut from.
use Rattle.std.specs.Prelude.{ℕ, ◌≡◌, ◌≤◌, ◌*◌, List, [], ◌∷◌, length, take, drop, zero, suc}
use Rattle.std.specs.List.{concat}
use Rattle.aegis_limits.specs.Limits.{least_pages, most_pages, page_size}
use Rattle.frame_store.specs.Pages.{with_bytes, with_page}

-- bytes, cut into so many pages of one size
abbrev pub pages_of : ℕ → ℕ → List ℕ → List (List ℕ)
pages_of size zero bytes = []
pages_of size (suc count) bytes = take size bytes ∷ pages_of size count (drop size bytes)

-- the bytes of so many pages, and no more
pub record IsMemory (pages : ℕ) (bytes : List ℕ) : Type 0 where
  pub least : least_pages ≤ pages
  pub most : pages ≤ most_pages
  pub whole : length bytes ≡ pages * page_size

-- the pages after bytes were put into memory from the beginning of one of them on
abbrev pub with_bytes_from : List (List ℕ) → ℕ → List ℕ → List (List ℕ)
with_bytes_from pages n bytes = pages_of page_size (length pages) (with_bytes (concat pages) (n * page_size) bytes)

-- bytes as long as a page, put where this page begins, are this page; the others stay
abbrev pub IsOnePage : List (List ℕ) → ℕ → Type 0
IsOnePage pages n =
    (bytes : List ℕ) → length bytes ≡ page_size → with_bytes_from pages n bytes ≡ with_page pages n bytes
