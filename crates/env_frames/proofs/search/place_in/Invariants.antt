-- What lies below low is below the VPN, and what lies from high on is above it.
use Rattle.std.proofs.Common.{ℕ, ◌-◌, ◌<◌, ◌≤◌, length}
use Rattle.std.specs.Prelude.{slice_index}
use Rattle.env_frames.specs.Frame.{numbers}
use Rattle.env_frames.proofs.search.place_in.Given as goal

abbrev pub invariant-loop-low : goal.invariant-loop-low
invariant-loop-low l = record {
  low_le : l.low ≤ l.high;
  high_le : l.high ≤ length l.mappings;
  below : (k : ℕ) → k < l.low → slice_index (numbers l.mappings) k < l.vpn;
  above : (k : ℕ) → l.high ≤ k → k < length l.mappings → l.vpn < slice_index (numbers l.mappings) k;
}

abbrev pub decreases-loop-low : goal.decreases-loop-low
decreases-loop-low l = l.high - l.low
