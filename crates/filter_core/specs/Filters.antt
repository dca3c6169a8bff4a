-- Filters, and how they stand in memory.
use Rattle.std.specs.Prelude.{ℕ, zero, suc, ◌/◌, ◌%◌, ◌^◌, ◌+◌, Bool, ◌==◌, ◌&&◌, ◌||◌, nat_le, nat_lt, if◌then◌else◌, List, [], ◌∷◌, length, Option, Some, None, bit_and}
use Rattle.std.specs.List.{list_all}
use Rattle.byte_numbers.specs.Numbers.{word_at}
use Rattle.external_event.specs.Limits.{most_packet_size}
use Rattle.filter_core.specs.declared.atom.Atom.{Atom}
use Rattle.filter_core.specs.Asking.{agree}

-- the atoms of the longest filter
abbrev pub most_atoms : ℕ
most_atoms = 16

-- the bytes of an atom in memory: three words
abbrev pub atom_size : ℕ
atom_size = 12

-- the widths of fields
abbrev pub is_width : ℕ → Bool
is_width width = width == 1 || width == 2 || width == 4

-- an atom: its field lies in some packet, its mask in the field, and its value in the mask
abbrev pub is_atom : Atom → Bool
is_atom a =
    is_width a.width && nat_le (a.offset + a.width) most_packet_size
    && nat_lt a.mask (256 ^ a.width) && bit_and a.value a.mask == a.value

-- one to sixteen atoms
abbrev pub are_atoms : List Atom → Bool
are_atoms atoms = nat_le 1 (length atoms) && nat_le (length atoms) most_atoms && list_all is_atom atoms

-- a filter: one to sixteen atoms that agree
abbrev pub is_filter : List Atom → Bool
is_filter atoms = are_atoms atoms && agree atoms atoms

-- the atom at a place in memory: offset and width in the halves of a word, mask, value
abbrev pub atom_at : List ℕ → ℕ → Atom
atom_at bytes place = record {
  offset = word_at bytes place % 2 ^ 16;
  width = word_at bytes place / 2 ^ 16;
  mask = word_at bytes (place + 4);
  value = word_at bytes (place + 8);
}

-- so many atoms from a place in memory on
abbrev pub atoms_from : List ℕ → ℕ → ℕ → List Atom
atoms_from bytes place zero = []
atoms_from bytes place (suc n) = atom_at bytes place ∷ atoms_from bytes (place + atom_size) n

-- the atoms that bytes spell
abbrev pub atoms_in : List ℕ → List Atom
atoms_in bytes = atoms_from bytes 0 (length bytes / atom_size)

-- the filter that bytes spell, if they spell one
unfoldable pub filter_of : List ℕ → Option (List Atom)
filter_of bytes = if length bytes % atom_size == 0 && is_filter (atoms_in bytes) then Some (atoms_in bytes) else None
