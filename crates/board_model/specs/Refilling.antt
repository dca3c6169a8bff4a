-- How the accesses of the runner's step are looked up in the TLB, and refilled, on a board. For proofs: nobody has to believe it.
use Rattle.std.specs.Prelude.{◌≡◌, ◌≤◌, ◌<◌, ℕ, Bool, List, length, is_some, Option, Some, None}
use Rattle.env_frames.specs.declared.mapping.Mapping.{Mapping}
use Rattle.env_frames.specs.Frame.{mapping_at}
use Rattle.r3k_tlb.specs.declared.row.Row.{Row}
use Rattle.r3k_tlb.specs.Rows.{row_count, with_row_at}
use Rattle.r3k_cp0.specs.Random.{first_random, random_end}
use Rattle.tlb_model.specs.declared.fills.Fills.{Fills}
use Rattle.tlb_model.specs.Cache.{Cache, refilled, row_for, with_fills, with_forward, with_refill}
use Rattle.tlb_model.specs.Lookups.{attempted, next_refill, settled}
use Rattle.tlb_laws.specs.Laws.{vpns_over}
use Rattle.board_model.specs.Shown.{Shown, mappings_of}
use Rattle.mips_exec.specs.declared.exception.Outcome.{Outcome}
use Rattle.mips_exec.specs.Step.{outcome_of}
use Rattle.board_model.specs.Doing.{after_machine_step, lookup_of, step_seen}

-- the VPNs of the accesses of the runner's step
abbrev pub vpns_of : Shown → ℕ → List ℕ
vpns_of b e = vpns_over b.frames (lookup_of b e) b.cpu

-- whether a VPN is guaranteed to an environment
abbrev pub is_kept_by : List Mapping → ℕ → Bool
is_kept_by mappings vpn = is_some (mapping_at mappings vpn)

-- the mapping by which its next miss is refilled
abbrev pub refill_of : Shown → ℕ → Option Mapping
refill_of b e = next_refill (lookup_of b e) e (vpns_of b e) b.tlb.rows

abbrev pub with_refilled : Shown → ℕ → Mapping → Shown
with_refilled b e m = record b { tlb = refilled (is_kept_by (mappings_of b.roster.list e) m.vpn) e m b.tlb }

-- the board whose TLB saw the last attempt of the runner's step
abbrev pub with_attempt : Shown → ℕ → Shown
with_attempt b e = record b { tlb = attempted e (step_seen b e) b.tlb }

-- once all its accesses are looked up
abbrev pub settled_of : Shown → ℕ → Cache
settled_of b e = settled 2 (is_kept_by (mappings_of b.roster.list e)) (lookup_of b e) e (vpns_of b e) b.tlb

abbrev pub with_lookups : Shown → ℕ → Shown
with_lookups b e = record b { tlb = attempted e (step_seen b e) (settled_of b e) }

-- A miss at a VPN that leads by this mapping, or nowhere: the row that is refilled, and what is counted of refills, and
-- of all misses.
abbrev pub rows_after_miss : ℕ → ℕ → Option Mapping → List Row → List Row
rows_after_miss random e None rows = rows
rows_after_miss random e (Some m) rows = with_row_at rows random (row_for e m)

abbrev pub fills_after_refill : Bool → ℕ → Option Mapping → List Fills → List Fills
fills_after_refill kept e None fills = fills
fills_after_refill kept e (Some m) fills = with_fills (with_refill kept) e fills

abbrev pub fills_after_miss : Bool → ℕ → Option Mapping → List Fills → List Fills
fills_after_miss kept e None fills = with_fills with_forward e fills
fills_after_miss kept e (Some m) fills = with_fills (with_refill kept) e fills

-- An attempt of the runner's step ended in a refill.
pub record IsRefilled (b : Shown) (e : ℕ) (now : Shown) : Type 0 where
  pub mapping : Mapping
  pub next : refill_of b e ≡ Some mapping
  pub board : now ≡ with_refilled b e mapping

-- It ended so, and there is nothing to refill.
pub record IsAttempted (b : Shown) (e : ℕ) (now : Shown) (came : Outcome) : Type 0 where
  pub next : refill_of b e ≡ None
  pub board : now ≡ after_machine_step (with_attempt b e) e (step_seen b e)
  pub outcome : came ≡ outcome_of (step_seen b e)

-- There are as many rows as ever, and Random names one of them.
pub record HasTlb (b : Shown) : Type 0 where
  pub count : length b.tlb.rows ≡ row_count
  pub least : first_random ≤ b.tlb.random
  pub within : b.tlb.random < random_end
