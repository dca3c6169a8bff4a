-- How the accesses of a step are looked up in the TLB, and which of them are refilled.
use Rattle.std.specs.Prelude.{ℕ, zero, suc, ◌/◌, ◌%◌, ◌==◌, nat_lt, if◌then◌else◌, Bool, true, false, List, [], ◌∷◌, Option, Some, None, Result, Ok, Err, find, is_none}
use Rattle.aegis_limits.specs.Limits.{page_size}
use Rattle.mips_isa.specs.Encoding.{insn_of}
use Rattle.mips_exec.specs.declared.registers.Cpu.{Cpu}
use Rattle.mips_exec.specs.declared.reach.Access.{Access}
use Rattle.mips_exec.specs.declared.reach.Access.TheVariants.{Load, Store}
use Rattle.mips_exec.specs.declared.reach.Spot.{Spot}
use Rattle.mips_exec.specs.declared.exception.Exc.{Exc}
use Rattle.mips_exec.specs.Access.{access, is_aligned, place_of}
use Rattle.mips_exec.specs.Exception.{is_miss}
use Rattle.mips_exec.specs.Step.{Step, Retired, Called, Trapped}
use Rattle.env_frames.specs.declared.mapping.Mapping.{Mapping}
use Rattle.mips_exec.specs.AccessKind.{user_end}
use Rattle.r3k_tlb.specs.declared.row.Row.{Row}
use Rattle.r3k_tlb.specs.Rows.{first_fitting}
use Rattle.tlb_model.specs.Cache.{Cache, refilled, with_forwarded, with_random_fallen}

-- ---- the accesses that go by the TLB: aligned ones, at users' addresses

abbrev pub vpn_if : Bool → ℕ → List ℕ
vpn_if true address = address / page_size ∷ []
vpn_if false address = []

abbrev pub user_vpn : ℕ → List ℕ
user_vpn address = vpn_if (nat_lt address user_end) address

-- of the fetch
abbrev pub fetch_vpns : ℕ → List ℕ
fetch_vpns pc = if pc % 4 == 0 then user_vpn pc else []

-- of the load or store
abbrev pub spot_vpns : Spot → List ℕ
spot_vpns spot = if is_aligned spot then user_vpn (place_of spot) else []

abbrev pub access_vpns : Option Access → List ℕ
access_vpns None = []
access_vpns (Some (Load spot)) = spot_vpns spot
access_vpns (Some (Store spot value)) = spot_vpns spot

-- which comes where the fetch is served
abbrev pub data_vpns : Cpu → Result ℕ Exc → List ℕ
data_vpns cpu (Ok word) = access_vpns (access (insn_of word) cpu)
data_vpns cpu (Err exc) = []

-- ---- misses and refills

-- whether no row is for an environment's VPN
abbrev pub has_no_row : List Row → ℕ → ℕ → Bool
has_no_row rows e vpn = is_none (first_fitting vpn e rows)

-- the first of these VPNs for which there is no row
abbrev pub first_missing : List Row → ℕ → List ℕ → Option ℕ
first_missing rows e vpns = find (has_no_row rows e) vpns

-- the mapping of a miss, if there is a miss and its VPN leads somewhere
abbrev pub mapping_of_miss : (ℕ → Option Mapping) → Option ℕ → Option Mapping
mapping_of_miss leads None = None
mapping_of_miss leads (Some vpn) = leads vpn

-- the mapping by which the first miss is refilled: where VPNs lead, whose they are, and those of the accesses
abbrev pub next_refill : (ℕ → Option Mapping) → ℕ → List ℕ → List Row → Option Mapping
next_refill leads e vpns rows = mapping_of_miss leads (first_missing rows e vpns)

-- Where there is one, its row is refilled, and then all accesses are looked up again.
abbrev pub settled_by : (Cache → Cache) → (ℕ → Bool) → ℕ → Option Mapping → Cache → Cache
settled_by again kept e None c = c
settled_by again kept e (Some m) c = again (refilled (kept m.vpn) e m c)

-- the TLB once the accesses are looked up, with at most so many refills: which VPNs are guaranteed, where each leads,
-- whose they are, and those of the accesses
abbrev pub settled : ℕ → (ℕ → Bool) → (ℕ → Option Mapping) → ℕ → List ℕ → Cache → Cache
settled zero kept leads e vpns c = c
settled (suc n) kept leads e vpns c =
    settled_by (settled n kept leads e vpns) kept e (next_refill leads e vpns c.rows) c

-- ---- the step

-- whether a step ends in a miss, which the environment gets as an exception
abbrev pub is_missed : Step → Bool
is_missed (Retired cpu write) = false
is_missed Called = false
is_missed (Trapped exc) = is_miss exc.code

-- The last attempt: Random falls, and a miss is forwarded.
abbrev pub attempted : ℕ → Step → Cache → Cache
attempted e step c = with_random_fallen (if is_missed step then with_forwarded e c else c)
