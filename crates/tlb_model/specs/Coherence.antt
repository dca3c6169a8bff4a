-- That no row of the TLB outlives its mapping, for any look-up. `Living` of aegis_calls has it of the world, for readers.
use Rattle.std.specs.Prelude.{◌≡◌, ◌<◌, ℕ, List, All, Option, Some}
use Rattle.aegis_limits.specs.Limits.{vpn_end, environment_numbers}
use Rattle.env_frames.specs.declared.mapping.Mapping.{Mapping}
use Rattle.r3k_tlb.specs.declared.row.Row.{Row}
use Rattle.r3k_tlb.specs.Row.{emptied_row}
use Rattle.tlb_model.specs.Cache.{row_for}

-- A row holds the mapping that an environment has there by this look-up, to a page of so many.
pub record Holds (leads : ℕ → ℕ → Option Mapping) (pages : ℕ) (row : Row) : Type 0 where
  pub env : ℕ
  pub numbered : env < environment_numbers
  pub mapping : Mapping
  pub below : mapping.vpn < vpn_end
  pub there : mapping.page < pages
  pub mapped : leads env mapping.vpn ≡ Some mapping
  pub words : row ≡ row_for env mapping

-- a row is emptied, or holds what the look-up says
pub data IsCoherent (leads : ℕ → ℕ → Option Mapping) (pages : ℕ) (row : Row) : Type 0 where
  Emptied : (row ≡ emptied_row) → IsCoherent leads pages row
  Held : Holds leads pages row → IsCoherent leads pages row

-- each row is
abbrev pub AreCoherent : (ℕ → ℕ → Option Mapping) → ℕ → List Row → Type 0
AreCoherent leads pages rows = All (IsCoherent leads pages) rows
