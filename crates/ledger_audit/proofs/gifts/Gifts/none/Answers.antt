use Rattle.std.proofs.Common.{arith, sym, subst, ℕ, ◌≤◌}
use Rattle.ledger_audit.proofs.Everywhere.{zero_everywhere}
use Rattle.ledger_audit.proofs.gifts.Gifts.none.Goals as goal

pub returns-clause-gifts : goal.returns-clause-gifts
returns-clause-gifts c = λ i e. zero_everywhere 32 e i

pub returns-clause-counts : goal.returns-clause-counts
returns-clause-counts c = λ e. subst (λ (n : ℕ). n ≤ 0) (sym (zero_everywhere 32 e)) (omega arith)
