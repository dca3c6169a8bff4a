-- The events of the load, one after another, and their order.
use Rattle.std.proofs.Common.{◌≡◌, ◌∙◌, ℕ, zero, suc, ◌+◌, ◌*◌, ◌≤◌, Bool, true, map, ap, arith, refl}
use Rattle.std.specs.Prelude.{nat_le, ◌&&◌}
use Rattle.std.specs.List.{range_with_len}
use Rattle.external_event.specs.Order.{are_in_order}
use Rattle.exos_text.specs.LoadSchedule.{load_event, load_events}

-- a number of events from one on are in order, after a time that isn't later than the first
in_order_from : (seed before first count : ℕ) → before ≤ 1000 * first → are_in_order before (map (load_event seed) (range_with_len first count)) ≡ true
unfolding load_event
in_order_from seed before first zero early = refl
in_order_from seed before first (suc count) early =
    let is : nat_le before (1000 * first) ≡ true = grind (arith, early) in
    let others = in_order_from seed (1000 * first) (first + 1) count (omega arith) in
    ap (λ (b : Bool). b && are_in_order (1000 * first) (map (load_event seed) (range_with_len (first + 1) count))) is ∙ others

-- so many events are all
pub events_are : (seed count : ℕ) → count ≡ 1000 → map (load_event seed) (range_with_len 0 count) ≡ load_events seed
unfolding load_events
events_are seed count all = ap (λ (n : ℕ). map (load_event seed) (range_with_len 0 n)) all

pub in_order : (seed : ℕ) → are_in_order 0 (load_events seed) ≡ true
unfolding load_events
in_order seed = in_order_from seed 0 0 1000 (omega arith)
