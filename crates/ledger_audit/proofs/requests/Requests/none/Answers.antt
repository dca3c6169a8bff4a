use Rattle.std.proofs.Common.{false}
use Rattle.ledger_audit.specs.StrictRules.{no_requests}
use Rattle.ledger_audit.proofs.Everywhere.{same_everywhere, zero_everywhere}
use Rattle.ledger_audit.proofs.requests.Requests.none.Goals as goal

pub returns : goal.returns
returns c = λ i. record no_requests {
  pages = λ e. zero_everywhere 32 e i;
  deadline = λ e. zero_everywhere 32 e i;
  dead = λ e. same_everywhere 32 e false i;
}
