-- That each row of the TLB is of an environment that lives.
use Rattle.std.specs.Prelude.{◌≡◌, ℕ, true, List, All, Some}
use Rattle.env_frames.specs.declared.mapping.Mapping.{Mapping}
use Rattle.r3k_tlb.specs.declared.row.Row.{Row}
use Rattle.r3k_tlb.specs.Row.{emptied_row}
use Rattle.tlb_course.specs.Accesses.{mapping_for}
use Rattle.tlb_model.specs.Cache.{row_for}
use Rattle.world_model.specs.World.{World, is_living}

-- A row holds the mapping that a living environment has at a VPN: the guaranteed one, else that of its binding.
pub record HoldsOfLiving (w : World) (row : Row) : Type 0 where
  pub env : ℕ
  pub lives : is_living w env ≡ true
  pub mapping : Mapping
  pub mapped : mapping_for w.book env mapping.vpn ≡ Some mapping
  pub words : row ≡ row_for env mapping

-- a row is emptied, or holds such a mapping
pub data IsOfLiving (w : World) (row : Row) : Type 0 where
  Emptied : (row ≡ emptied_row) → IsOfLiving w row
  Held : HoldsOfLiving w row → IsOfLiving w row

-- each row is
abbrev pub AreOfLiving : World → List Row → Type 0
AreOfLiving w rows = All (IsOfLiving w) rows
