-- What the code has of pages and runs, by their definitions.
use Rattle.std.specs.Prelude.{◌≡◌, ◌≤◌, ◌<◌, ◌+◌, ◌*◌, ◌^◌, ℕ, List, [], ◌∷◌, length, map, sum_by, Option, None}
use Rattle.aegis_limits.specs.Limits.{page_size, vpn_end}
use Rattle.core_file.specs.declared.pages.SeenPage.{SeenPage}
use Rattle.core_file.specs.declared.runs.Run.{Run}
use Rattle.core_file.specs.Core.{pages_start}
use Rattle.core_file.specs.Pages.{PageValue}

abbrev pub page_seen : SeenPage → PageValue
page_seen p = record { vpn = p.vpn; writable = p.writable; bytes = p.bytes.now }

abbrev pub pages_shown : List SeenPage → List PageValue
pages_shown pages = map page_seen pages

-- nothing is there from a VPN on up to another
abbrev pub IsClear : {A : Type 0} → (ℕ → Option A) → ℕ → ℕ → Type 0
IsClear look first end = (vpn : ℕ) → first ≤ vpn → vpn < end → look vpn ≡ None

-- how many pages some runs have
abbrev pub pages_in : List Run → ℕ
pages_in runs = sum_by (λ (run : Run). run.count) runs

-- each of them lies below the end of users' addresses
abbrev pub AreUserPages : List Run → Type 0
AreUserPages [] = Unit {0}
AreUserPages (run ∷ runs) = (run.first + run.count ≤ vpn_end) × AreUserPages runs

-- runs of which a file can be written: places in it, addresses and sizes are words
pub record FitsWords (runs : List Run) : Type 0 where
  pub within : AreUserPages runs
  pub room : pages_start (1 + length runs) + page_size * pages_in runs < 2 ^ 32
