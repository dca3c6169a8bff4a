-- A set of pages, in words with a bit for each page.
use Rattle.std.specs.Prelude.{◌≡◌, ◌<◌, ◌/◌, ◌%◌, ℕ, Bool, List, if◌then◌else◌, Option, Some, None, slice_index_or}
use Rattle.std.specs.Int.{bit_at}
use Rattle.aegis_limits.specs.Limits.{most_pages}

-- 1 if it is so
abbrev pub one_if : Bool → ℕ
one_if is = if is then 1 else 0

-- 1 if the page is in the set, and else 0
abbrev pub mark : List ℕ → ℕ → ℕ
mark words page = bit_at (slice_index_or words (page / 64) 0) (page % 64)

-- the page is in the set, and no lower one is
pub record IsLeastMark (words : List ℕ) (page : ℕ) : Type 0 where
  pub below : page < most_pages
  pub marked : mark words page ≡ 1
  pub least : (k : ℕ) → k < page → mark words k ≡ 0

-- what the lowest page of the set is, if there is one
abbrev pub IsLeast : List ℕ → Option ℕ → Type 0
IsLeast words None = (k : ℕ) → k < most_pages → mark words k ≡ 0
IsLeast words (Some page) = IsLeastMark words page
