-- Physical memory with a file loaded at address 0.
use Rattle.std.specs.Prelude.{ℕ, ◌*◌, List, map, take, drop}
use Rattle.std.specs.List.{range_with_len}
use Rattle.aegis_limits.specs.Limits.{page_size}
use Rattle.frame_store.specs.Pages.{with_bytes, zero_page}

-- the pages of physical memory
abbrev pub bare_pages : ℕ
bare_pages = 64

-- a page with its part of the file, and zeros behind the file's end
unfoldable pub file_page : List ℕ → ℕ → List ℕ
file_page file n = with_bytes zero_page 0 (take page_size (drop (n * page_size) file))

-- all pages
abbrev pub loaded : List ℕ → List (List ℕ)
loaded file = map (file_page file) (range_with_len 0 bare_pages)
