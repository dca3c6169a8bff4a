use Rattle.std.proofs.Common.{◌≡◌, true, drop}
use Rattle.std.specs.List.{list_all}
use Rattle.filter_core.specs.Filters.{is_atom}
use Rattle.filter_core.specs.Matching.{matches}
use Rattle.filter_core.proofs.filter.Filter.matches.Given as goal

-- the atoms that are left decide
abbrev pub invariant-loop-atom : goal.invariant-loop-atom
invariant-loop-atom l = record {
  rule : list_all is_atom l.atom-items ≡ true;
  rest : matches (drop l.atom-index l.atom-items) l.packet ≡ matches l.self l.packet;
}
