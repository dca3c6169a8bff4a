-- Physical memory as a list of pages.
use Rattle.std.specs.Prelude.{ℕ, ◌+◌, List, [], ◌++◌, length, take, drop, replicate, slice_index_or, slice_set}
use Rattle.aegis_limits.specs.Limits.{page_size}
use Rattle.byteorder.specs.Endian.{little_number, little_bytes}

-- a page of zeros
abbrev pub zero_page : List ℕ
zero_page = replicate page_size 0

-- so many pages of zeros
abbrev pub zeroed : ℕ → List (List ℕ)
zeroed pages = replicate pages zero_page

-- the bytes of the page with this number
abbrev pub page_at : List (List ℕ) → ℕ → List ℕ
page_at pages n = slice_index_or pages n []

-- a page after bytes were put at an offset
abbrev pub with_bytes : List ℕ → ℕ → List ℕ → List ℕ
with_bytes page offset bytes = take offset page ++ bytes ++ drop (offset + length bytes) page

-- the pages after one of them got these bytes for its own; the others stay
abbrev pub with_page : List (List ℕ) → ℕ → List ℕ → List (List ℕ)
with_page pages n bytes = slice_set pages n bytes

-- the pages after bytes were put into one of them at an offset
abbrev pub after_put : List (List ℕ) → ℕ → ℕ → List ℕ → List (List ℕ)
after_put pages n offset bytes = with_page pages n (with_bytes (page_at pages n) offset bytes)

-- the word at an offset of a page, its lowest byte first
abbrev pub word_at : List ℕ → ℕ → ℕ
word_at page offset = little_number 4 (drop offset page)

-- the four bytes of a word, the lowest first
abbrev pub word_bytes : ℕ → List ℕ
word_bytes value = little_bytes 4 value
