-- The limits that an image's version gives.
use Rattle.std.specs.Prelude.{ℕ, ◌≤◌}
use Rattle.aegis_limits.specs.declared.version.Version.{Version}
use Rattle.aegis_limits.specs.declared.version.Version.TheVariants.{One, Two}
use Rattle.aegis_limits.specs.Limits.{most_pages, most_environments, most_stripe_rows}

-- the number by which a file names its version
abbrev pub version_number : Version → ℕ
version_number One = 1
version_number Two = 2

-- the most pages of physical memory
abbrev pub most_pages_of : Version → ℕ
most_pages_of One = 1024
most_pages_of Two = 4096

-- the most environments
abbrev pub most_environments_of : Version → ℕ
most_environments_of One = 16
most_environments_of Two = 32

-- the rows of an environment's stripe, in which its bindings stand
unfoldable pub stripe_rows : Version → ℕ
stripe_rows One = 256
stripe_rows Two = 128

-- each version's limits are within the widest
pub record AreWithin (v : Version) : Type 0 where
  pub pages : most_pages_of v ≤ most_pages
  pub environments : most_environments_of v ≤ most_environments
  pub rows_least : 1 ≤ stripe_rows v
  pub rows_most : stripe_rows v ≤ most_stripe_rows
