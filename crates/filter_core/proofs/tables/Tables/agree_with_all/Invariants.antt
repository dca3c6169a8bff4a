use Rattle.std.proofs.Common.{◌≡◌, drop}
use Rattle.filter_core.specs.Holding.{are_held}
use Rattle.filter_core.proofs.tables.Tables.agree_with_all.Given as goal

-- the atoms that are left decide
abbrev pub invariant-loop-atom : goal.invariant-loop-atom
invariant-loop-atom l = are_held l.self.masks l.self.values (drop l.atom-index l.atoms) ≡ are_held l.self.masks l.self.values l.atoms
