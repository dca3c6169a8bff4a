-- Who is asked for a page under pressure.
use Rattle.std.specs.Prelude.{◌≡◌, ◌≢◌, ◌≤◌, ◌<◌, ℕ, zero, suc, ◌==◌, ◌&&◌, nat_lt, not, length, if◌then◌else◌, Option, Some, None}
use Rattle.aegis_limits.specs.Limits.{environment_numbers}
use Rattle.revocation_book.specs.Takings.{Books, victims_below}

-- how many pages may be taken from an environment
abbrev pub revocable_pages : Books → ℕ → ℕ
revocable_pages b e = length (victims_below b e b.page_count)

abbrev pub revocable_of : Books → Option ℕ → ℕ
revocable_of b None = 0
revocable_of b (Some e) = revocable_pages b e

-- an environment, if it has more than the richest so far
abbrev pub richer : Books → ℕ → Option ℕ → ℕ → Option ℕ
richer b but so_far e =
    if not (e == but) && nat_lt (revocable_of b so_far) (revocable_pages b e) then Some e else so_far

-- of the environments below a number, but for one, that with the most revocable pages, the lowest of equals; none where
-- they have none
abbrev pub richest_below : Books → ℕ → ℕ → Option ℕ
richest_below b but zero = None
richest_below b but (suc e) = richer b but (richest_below b but e) e

unfoldable pub richest : Books → ℕ → Option ℕ
richest b but = richest_below b but environment_numbers

-- the environment has the most revocable pages of all but one, and is the lowest that has as many
pub record IsRichest (b : Books) (but envs e : ℕ) : Type 0 where
  pub other : e ≢ but
  pub below : e < envs
  pub some : 0 < revocable_pages b e
  pub most : (i : ℕ) → i < envs → i ≢ but → revocable_pages b i ≤ revocable_pages b e
  pub lowest : (i : ℕ) → i < e → i ≢ but → revocable_pages b i < revocable_pages b e

-- who the richest is, if there is one
abbrev pub AreRichest : Books → ℕ → ℕ → Option ℕ → Type 0
AreRichest b but envs None = (i : ℕ) → i < envs → i ≢ but → revocable_pages b i ≡ 0
AreRichest b but envs (Some e) = IsRichest b but envs e

abbrev pub RichestHasMost : Type 0
RichestHasMost = (b : Books) (but : ℕ) → AreRichest b but environment_numbers (richest b but)
