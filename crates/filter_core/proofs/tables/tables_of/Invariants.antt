use Rattle.std.proofs.Common.{◌≡◌, ℕ, ◌<◌, drop, slice_index}
use Rattle.std.specs.Prelude.{bit_or}
use Rattle.external_event.specs.Limits.{most_packet_size}
use Rattle.filter_core.specs.Asking.{asked, mask_at, value_at}
use Rattle.filter_core.proofs.tables.tables_of.Given as goal

-- each table and the atoms that are left make the whole
abbrev pub invariant-loop-atom : goal.invariant-loop-atom
invariant-loop-atom l = record {
  masks : (p : ℕ) → p < most_packet_size → bit_or (slice_index l.tables.masks p) (asked (mask_at p) (drop l.atom-index l.atoms)) ≡ asked (mask_at p) l.atoms;
  values : (p : ℕ) → p < most_packet_size → bit_or (slice_index l.tables.values p) (asked (value_at p) (drop l.atom-index l.atoms)) ≡ asked (value_at p) l.atoms;
}
