-- The mapping that an access goes through.
use Rattle.std.specs.Prelude.{◌≡◌, ℕ, ◌<◌, List, length, Option, Some, Result, Ok, Err}
use Rattle.mips_exec.specs.declared.exception.Exc.{Exc}
use Rattle.frame_store.specs.Pages.{page_at}
use Rattle.env_frames.specs.declared.mapping.Mapping.{Mapping}
use Rattle.world_model.specs.Page.{Mapped}
use Rattle.guest_memory.specs.Look.{look}

-- what is reached through a mapping
abbrev pub reached : List (List ℕ) → Mapping → Mapped
reached frames m = record { writable = m.writable; bytes = page_at frames m.page }

-- the VPN has this mapping, and leads to its page
pub record LeadsThrough (frames : List (List ℕ)) (lookup : ℕ → Option Mapping) (vpn : ℕ) (m : Mapping) : Type 0 where
  pub there : m.page < length frames
  pub mapping : lookup vpn ≡ Some m
  pub leads : look frames lookup vpn ≡ Some (reached frames m)

-- an access is served through this mapping, or raises this
abbrev pub Located : List (List ℕ) → (ℕ → Option Mapping) → ℕ → Result Mapped Exc → Result Mapping Exc → Type 0
Located frames lookup vpn answer (Ok m) = LeadsThrough frames lookup vpn m × (answer ≡ Ok (reached frames m))
Located frames lookup vpn answer (Err exc) = answer ≡ Err exc
