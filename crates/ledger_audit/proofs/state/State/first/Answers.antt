use Rattle.std.proofs.Common.{arith, sym, subst, ℕ, ◌≤◌, None, false, replicate}
use Rattle.std.specs.Prelude.{slice_index}
use Rattle.ledger_audit.specs.LedgerState.{first_state}
use Rattle.ledger_audit.proofs.Everywhere.{same_everywhere, zero_everywhere}
use Rattle.ledger_audit.proofs.state.State.first.Goals as goal

none : (e : ℕ) → slice_index (replicate 32 0) e ≤ 0
none e = subst (λ (n : ℕ). n ≤ 0) (sym (zero_everywhere 32 e)) (omega arith)

pub returns-clause-state : goal.returns-clause-state
returns-clause-state c = λ i. record first_state {
  slots = λ k. same_everywhere 64 k None i;
  runs = λ e. zero_everywhere 32 e i;
  pays = λ e. zero_everywhere 32 e i;
  overs = λ e. zero_everywhere 32 e i;
  dead = λ e. same_everywhere 32 e false i;
}

pub returns-clause-counts : goal.returns-clause-counts
returns-clause-counts c = record { runs = none; pays = none; overs = none }
