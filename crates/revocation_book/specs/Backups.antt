-- The backups of an environment, in the order in which they were loaded.
use Rattle.std.specs.Prelude.{◌≡◌, ℕ, ◌==◌, nat_le, Bool, false, not, List, [], ◌∷◌, ◌++◌, filter, length, if◌then◌else◌, Option, Some, None}
use Rattle.std.specs.List.{list_any}
use Rattle.revocation_book.specs.declared.revocation.LoadNo.{LoadNo}
use Rattle.revocation_book.specs.declared.revocation.LoadNo.TheVariants.{Loaded, Full}

-- the backups that an environment has at most
abbrev pub most_backups : ℕ
most_backups = 64

-- whether a page is one of them
abbrev pub is_loaded : List ℕ → ℕ → Bool
is_loaded backups page = list_any (λ b. b == page) backups

-- none of them stands twice
abbrev pub AreDistinct : List ℕ → Type 0
AreDistinct [] = Unit {0}
AreDistinct (page ∷ pages) = (is_loaded pages page ≡ false) × AreDistinct pages

-- why a page isn't loaded as one more
abbrev pub load_refusal : List ℕ → ℕ → Option LoadNo
load_refusal backups page =
    if is_loaded backups page then Some Loaded else (if nat_le most_backups (length backups) then Some Full else None)

-- one more, which is the last
abbrev pub loaded : ℕ → List ℕ → List ℕ
loaded page backups = backups ++ page ∷ []

-- without one, if it is one of them
abbrev pub unloaded : ℕ → List ℕ → List ℕ
unloaded page backups = filter (λ b. not (b == page)) backups
