-- The accesses of an environment's step, and where its VPNs lead by the book.
use Rattle.std.specs.Prelude.{ℕ, Bool, List, ◌++◌, Option, is_some}
use Rattle.mips_exec.specs.Step.{view_of}
use Rattle.env_frames.specs.declared.mapping.Mapping.{Mapping}
use Rattle.env_frames.specs.Frame.{mapping_at}
use Rattle.guest_memory.specs.Look.{mapping_in}
use Rattle.world_model.specs.Book.{Book}
use Rattle.world_model.specs.Page.{answers_by}
use Rattle.world_model.specs.Solo.{Solo, sight}
use Rattle.tlb_model.specs.Lookups.{data_vpns, fetch_vpns}

-- the VPNs of the accesses of a step, in their order: that of the fetch, and where it is served that of the load or store
abbrev pub step_vpns : Solo → List ℕ
step_vpns s = fetch_vpns s.cpu.pc ++ data_vpns s.cpu (view_of (answers_by (sight s)) s.cpu).fetch

-- the mapping of an environment's VPN: the guaranteed one, else that of its binding
abbrev pub mapping_for : Book → ℕ → ℕ → Option Mapping
mapping_for b e vpn = mapping_in b.version (b.kept e) (b.binds e) vpn

-- whether it is a guaranteed one
abbrev pub is_kept : Book → ℕ → ℕ → Bool
is_kept b e vpn = is_some (mapping_at (b.kept e) vpn)
