-- The laws of coherent rows.
use Rattle.std.specs.Prelude.{◌≡◌, ◌<◌, ℕ, Bool, false, List, Option, Some}
use Rattle.std.specs.List.{list_any}
use Rattle.aegis_limits.specs.Limits.{vpn_end, environment_numbers}
use Rattle.env_frames.specs.declared.mapping.Mapping.{Mapping}
use Rattle.r3k_tlb.specs.declared.row.Row.{Row}
use Rattle.r3k_tlb.specs.Row.{row_page, row_pid, row_vpn}
use Rattle.r3k_tlb.specs.Rows.{first_fitting, with_row_at}
use Rattle.tlb_model.specs.Cache.{row_for}
use Rattle.tlb_model.specs.Flushes.{Flush, all_flushed, is_flushed}
use Rattle.tlb_model.specs.Coherence.{AreCoherent}

-- A row is that of the mapping to which an environment's VPN leads. `Holds` has the same of a row whose pair isn't known.
pub record FittingRow (leads : ℕ → ℕ → Option Mapping) (pages e vpn : ℕ) (row : Row) : Type 0 where
  pub mapping : Mapping
  pub mapped : leads e vpn ≡ Some mapping
  pub number : mapping.vpn ≡ vpn
  pub there : mapping.page < pages
  pub words : row ≡ row_for e mapping

-- a row that fits is that of the mapping to which the VPN leads
abbrev pub RowsSayWhatLeads : Type 0
RowsSayWhatLeads = (leads : ℕ → ℕ → Option Mapping) (pages : ℕ) (rows : List Row) (vpn e : ℕ) (row : Row)
    → AreCoherent leads pages rows → vpn < vpn_end → e < environment_numbers → first_fitting vpn e rows ≡ Some row
    → FittingRow leads pages e vpn row

abbrev pub RefilledAreCoherent : Type 0
RefilledAreCoherent = (leads : ℕ → ℕ → Option Mapping) (pages : ℕ) (rows : List Row) (i e : ℕ) (m : Mapping)
    → AreCoherent leads pages rows → e < environment_numbers → m.vpn < vpn_end → m.page < pages → leads e m.vpn ≡ Some m
    → AreCoherent leads pages (with_row_at rows i (row_for e m))

-- every mapping stays
abbrev pub AreKept : (ℕ → ℕ → Option Mapping) → (ℕ → ℕ → Option Mapping) → Type 0
AreKept old new = (e : ℕ) (m : Mapping) → old e m.vpn ≡ Some m → new e m.vpn ≡ Some m

abbrev pub GrownAreCoherent : Type 0
GrownAreCoherent = (old new : ℕ → ℕ → Option Mapping) (pages : ℕ) (rows : List Row)
    → AreCoherent old pages rows → AreKept old new → AreCoherent new pages rows

-- whether a row is emptied
abbrev pub is_any_flushed : List Flush → Row → Bool
is_any_flushed fs row = list_any (λ f. is_flushed f row) fs

-- every mapping stays, but for those whose rows are emptied
abbrev pub AreKeptBut : List Flush → (ℕ → ℕ → Option Mapping) → (ℕ → ℕ → Option Mapping) → Type 0
AreKeptBut fs old new = (e : ℕ) (m : Mapping) → e < environment_numbers → m.vpn < vpn_end → old e m.vpn ≡ Some m
    → is_any_flushed fs (row_for e m) ≡ false → new e m.vpn ≡ Some m

abbrev pub EmptiedAreCoherent : Type 0
EmptiedAreCoherent = (old new : ℕ → ℕ → Option Mapping) (fs : List Flush) (pages : ℕ) (rows : List Row)
    → AreCoherent old pages rows → AreKeptBut fs old new → AreCoherent new pages (all_flushed fs rows)

-- what the words of a mapping's row say
pub record RowWords (e : ℕ) (m : Mapping) : Type 0 where
  pub vpn : row_vpn (row_for e m) ≡ m.vpn
  pub env : row_pid (row_for e m) ≡ e
  pub page : row_page (row_for e m) ≡ m.page

abbrev pub RowsHaveTheirWords : Type 0
RowsHaveTheirWords = (e : ℕ) (m : Mapping) → e < environment_numbers → RowWords e m
