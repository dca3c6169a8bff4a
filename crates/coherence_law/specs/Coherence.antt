-- The rows of the TLB in whole runs.
use Rattle.std.specs.Prelude.{◌≡◌, ◌≤◌, ◌<◌, ℕ, true, length, All, Some}
use Rattle.aegis_limits.specs.Limits.{vpn_end}
use Rattle.boot_image.specs.Accepted.{IsAccepted}
use Rattle.env_frames.specs.declared.mapping.Mapping.{Mapping}
use Rattle.r3k_tlb.specs.declared.row.Row.{Row}
use Rattle.r3k_tlb.specs.Row.{emptied_row, fits}
use Rattle.r3k_tlb.specs.Rows.{row_at, row_count}
use Rattle.r3k_cp0.specs.Random.{first_random, random_end}
use Rattle.tlb_model.specs.Cache.{Cache, row_for}
use Rattle.tlb_course.specs.Accesses.{mapping_for}
use Rattle.tlb_course.specs.Course.{cache_after}
use Rattle.world_model.specs.World.{World, is_living}
use Rattle.run_model.specs.Run.{System, world_after}

-- A row holds the mapping that a living environment has at a VPN, the guaranteed one, else that of its binding; and it
-- leads to a page that is there.
pub record IsMappingOfLiving (w : World) (row : Row) : Type 0 where
  pub env : ℕ
  pub lives : is_living w env ≡ true
  pub mapping : Mapping
  pub mapped : mapping_for w.book env mapping.vpn ≡ Some mapping
  pub there : mapping.page < w.book.page_count
  pub words : row ≡ row_for env mapping

-- a row is emptied, or holds such a mapping
pub data IsRowOfLiving (w : World) (row : Row) : Type 0 where
  Emptied : (row ≡ emptied_row) → IsRowOfLiving w row
  Held : IsMappingOfLiving w row → IsRowOfLiving w row

-- There are 64 rows, and Random names one that refills may take. Each row is emptied, or of an environment that lives.
-- And no two rows fit one process and user's VPN.
pub record HasCoherentRows (w : World) (c : Cache) : Type 0 where
  pub count : length c.rows ≡ row_count
  pub random : (first_random ≤ c.random) × (c.random < random_end)
  pub living : All (IsRowOfLiving w) c.rows
  pub apart : (i j e vpn : ℕ) → vpn < vpn_end → fits vpn e (row_at c.rows i) ≡ true
      → fits vpn e (row_at c.rows j) ≡ true → i ≡ j

-- So it is after each tick of each run.
abbrev pub CourseIsCoherent : Type 0
CourseIsCoherent =
    (system : System) (t : ℕ) → IsAccepted system.image → HasCoherentRows (world_after system t) (cache_after system t)
