use Rattle.std.proofs.Common.{◌≡◌, true}
use Rattle.filter_core.specs.Holding.{is_held_on_first}
use Rattle.filter_core.proofs.tables.Tables.agree_with.Given as goal

-- the bytes so far agree
abbrev pub invariant-loop-i : goal.invariant-loop-i
invariant-loop-i l = record {
  offset : l.offset ≡ l.atom.offset;
  width : l.width ≡ l.atom.width;
  so_far : is_held_on_first l.i l.self.masks l.self.values l.atom ≡ true;
}
