use Rattle.std.proofs.Common.{◌≡◌, ◌≢◌, ℕ, ◌+◌, ◌<◌, slice_index}
use Rattle.std.specs.Prelude.{bit_or}
use Rattle.filter_core.specs.Asking.{byte_for}
use Rattle.filter_core.proofs.tables.add_bytes.Given as goal

-- the bytes so far are added, and the others stay
abbrev pub invariant-loop-i : goal.invariant-loop-i
invariant-loop-i l = record {
  offset : l.offset ≡ l.atom.offset;
  width : l.width ≡ l.atom.width;
  inside : (j : ℕ) → j < l.i → slice_index l.table (l.atom.offset + j) ≡ bit_or (slice_index l.fn.table (l.atom.offset + j)) (byte_for l.atom l.number (l.atom.offset + j));
  outside : (p : ℕ) → ((j : ℕ) → j < l.i → p ≢ l.atom.offset + j) → slice_index l.table p ≡ slice_index l.fn.table p;
}
