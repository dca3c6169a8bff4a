-- What the auditor keeps of the gifts of a plan's scheduler.
use Rattle.std.specs.Prelude.{ℕ, ◌≤◌, slice_index}
use Rattle.ledger_audit.specs.declared.gifts.Gifts.{Gifts}

abbrev pub gifts_of : Gifts → ℕ → ℕ
gifts_of gifts e = slice_index gifts.counts e

-- no count is above this
abbrev pub AreCounted : ℕ → Gifts → Type 0
AreCounted most gifts = (e : ℕ) → slice_index gifts.counts e ≤ most
