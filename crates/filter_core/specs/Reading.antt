-- The atoms of a filter that is read.
use Rattle.std.specs.Prelude.{ℕ, ◌%◌, ◌==◌, ◌&&◌, if◌then◌else◌, List, length, Option, Some, None}
use Rattle.filter_core.specs.declared.atom.Atom.{Atom}
use Rattle.filter_core.specs.Filters.{atom_at, atom_size, atoms_in, are_atoms, is_atom}

-- the atom at a place, if it may stand in a filter
abbrev pub good_atom : List ℕ → ℕ → Option Atom
good_atom bytes place = if is_atom (atom_at bytes place) then Some (atom_at bytes place) else None

-- the one to sixteen atoms that bytes spell, if each may stand in a filter
abbrev pub good_atoms : List ℕ → Option (List Atom)
good_atoms bytes = if length bytes % atom_size == 0 && are_atoms (atoms_in bytes) then Some (atoms_in bytes) else None
