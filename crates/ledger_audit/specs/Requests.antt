-- What the strict auditor keeps of the rows that it has read.
use Rattle.std.specs.Prelude.{false, slice_index, slice_index_or}
use Rattle.ledger_audit.specs.declared.requests.Requests.{Requests}
use Rattle.ledger_audit.specs.StrictRules.{RequestState}

abbrev pub requests_of : Requests → RequestState
requests_of a = record {
  pages = λ e. slice_index a.pages e;
  deadline = λ e. slice_index a.deadlines e;
  dead = λ e. slice_index_or a.dead e false;
}
