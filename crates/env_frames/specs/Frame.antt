-- An environment's frame: the registers that are kept of it, and where its VPNs lead.
use Rattle.std.specs.Prelude.{ℕ, ◌<◌, List, [], length, map, find, slice_index, ◌==◌, Option, Some, None}
use Rattle.std.specs.Option.{option_map}
use Rattle.mips_exec.specs.declared.registers.Cpu.{Cpu}
use Rattle.mips_exec.specs.declared.exception.Exc.{Exc}
use Rattle.mips_exec.specs.Cpu.{blank_cpu}
use Rattle.frame_store.specs.Pages.{after_put}
use Rattle.env_frames.specs.declared.context.Handlers.{Handlers}
use Rattle.env_frames.specs.Context.{exception_area, exception_bytes, no_handlers}
use Rattle.env_frames.specs.declared.mapping.Mapping.{Mapping}

-- the kept registers, the handlers, the mask of those whose yields and transfers it accepts, and the guaranteed
-- mappings by rising VPN
pub record EnvValue : Type 0 where
  pub cpu : Cpu
  pub handlers : Handlers
  pub mask : ℕ
  pub mappings : List Mapping

-- the guaranteed mapping at a VPN
abbrev pub mapping_at : List Mapping → ℕ → Option Mapping
mapping_at mappings vpn = find (λ m. m.vpn == vpn) mappings

-- the VPNs
abbrev pub numbers : List Mapping → List ℕ
numbers mappings = map (λ m. m.vpn) mappings

-- the page of physical memory that an environment sees at this number
abbrev pub page_of : List Mapping → ℕ → Option ℕ
page_of mappings vpn = option_map (λ m. m.page) (mapping_at mappings vpn)

-- physical memory with bytes in an area of the context page, which is this page
abbrev pub left_in : ℕ → List ℕ → Option ℕ → List (List ℕ) → List (List ℕ)
left_in area bytes None frames = frames
left_in area bytes (Some page) frames = after_put frames page area bytes

-- what an exception leaves in physical memory: its words in the context page of the environment
abbrev pub raised_in : Exc → Cpu → Option ℕ → List (List ℕ) → List (List ℕ)
raised_in exc cpu page frames = left_in exception_area (exception_bytes exc cpu) page frames

-- an environment that is gone has nothing
abbrev pub gone_env : EnvValue
gone_env = record { cpu = blank_cpu; handlers = no_handlers; mask = 0; mappings = [] }

-- each number is below each one after it
abbrev pub IsRising : List ℕ → Type 0
IsRising xs = (i j : ℕ) → i < j → j < length xs → slice_index xs i < slice_index xs j

-- the VPN is above that of each mapping
abbrev pub IsAbove : List Mapping → ℕ → Type 0
IsAbove mappings vpn = (k : ℕ) → k < length (numbers mappings) → slice_index (numbers mappings) k < vpn
