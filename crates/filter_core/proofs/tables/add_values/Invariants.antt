use Rattle.std.proofs.Common.{◌≡◌, ℕ, ◌<◌, drop, slice_index}
use Rattle.std.specs.Prelude.{bit_or}
use Rattle.external_event.specs.Limits.{most_packet_size}
use Rattle.filter_core.specs.Asking.{asked, value_at}
use Rattle.filter_core.proofs.tables.add_values.Given as goal

-- the table and the atoms that are left make the whole
abbrev pub invariant-loop-atom : goal.invariant-loop-atom
invariant-loop-atom l = (p : ℕ) → p < most_packet_size → bit_or (slice_index l.table p) (asked (value_at p) (drop l.atom-index l.atoms)) ≡ bit_or (slice_index l.fn.table p) (asked (value_at p) l.atoms)
