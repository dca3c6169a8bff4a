use Rattle.std.proofs.Common.{◌≡◌, ◌-◌, ◌*◌, ◌++◌, true, length}
use Rattle.std.specs.List.{list_all}
use Rattle.filter_core.specs.Filters.{atoms_from, atoms_in, is_atom}
use Rattle.filter_core.proofs.reading.good_atoms.Given as goal

-- the atoms so far and those to come are all of them
abbrev pub invariant-loop-i : goal.invariant-loop-i
invariant-loop-i l = record {
  count : length l.atoms.items ≡ l.i;
  good : list_all is_atom l.atoms.items ≡ true;
  all : l.atoms.items ++ atoms_from l.bytes (l.i * 12) (l.count - l.i) ≡ atoms_in l.bytes;
}
