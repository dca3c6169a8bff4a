use Rattle.std.proofs.Common.{◌≡◌, drop}
use Rattle.std.specs.Prelude.{find}
use Rattle.filter_tree.specs.ClaimBook.{RowValue}
use Rattle.filter_tree.specs.Claims.{is_in_the_way}
use Rattle.filter_tree.proofs.search.in_the_way.Given as goal

-- the claims that are left decide
abbrev pub invariant-loop-row : goal.invariant-loop-row
invariant-loop-row l = record {
  filter : l.layout ≡ l.filter;
  rest : find (λ (r : RowValue). is_in_the_way l.env l.filter r.claim) (drop l.row-index l.rows) ≡ find (λ (r : RowValue). is_in_the_way l.env l.filter r.claim) l.rows;
}
