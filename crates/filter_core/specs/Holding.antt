-- Filters laid out by the bytes of a packet, in a table of masks and one of values, and atoms held against them.
use Rattle.std.specs.Prelude.{◌≡◌, ◌<◌, ℕ, zero, suc, ◌+◌, Bool, true, ◌==◌, ◌&&◌, List, slice_index, bit_and}
use Rattle.std.specs.List.{list_all}
use Rattle.external_event.specs.Limits.{most_packet_size}
use Rattle.filter_core.specs.declared.atom.Atom.{Atom}
use Rattle.filter_core.specs.Asking.{asked, mask_at, value_at}
use Rattle.filter_core.specs.Filters.{is_filter}

-- an atom asks no bit of a byte for another value than the tables
abbrev pub is_held_at : List ℕ → List ℕ → ℕ → Atom → Bool
is_held_at masks values place a =
    bit_and (slice_index values place) (mask_at place a) == bit_and (value_at place a) (slice_index masks place)

-- nor on the first so many bytes of its field
abbrev pub is_held_on_first : ℕ → List ℕ → List ℕ → Atom → Bool
is_held_on_first zero masks values a = true
is_held_on_first (suc n) masks values a = is_held_on_first n masks values a && is_held_at masks values (a.offset + n) a

abbrev pub is_held : List ℕ → List ℕ → Atom → Bool
is_held masks values a = is_held_on_first a.width masks values a

-- nor do all of a list
abbrev pub are_held : List ℕ → List ℕ → List Atom → Bool
are_held masks values atoms = list_all (λ a. is_held masks values a) atoms

-- a table has for each byte of the longest packet all bits of some part of the atoms
pub record IsTable (part : ℕ → Atom → ℕ) (atoms : List Atom) (table : List ℕ) : Type 0 where
  pub entry : (p : ℕ) → p < most_packet_size → slice_index table p ≡ asked (part p) atoms

-- a filter is laid out in tables of its masks and its values
pub record IsLaidOut (filter : List Atom) (masks values : List ℕ) : Type 0 where
  pub rule : is_filter filter ≡ true
  pub masks_table : IsTable mask_at filter masks
  pub values_table : IsTable value_at filter values
