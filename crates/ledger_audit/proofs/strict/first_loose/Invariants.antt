use Rattle.std.proofs.Common.{◌≡◌, All, ℕ, length}
use Rattle.kernel_journal.specs.declared.row.Row.{Row}
use Rattle.kernel_journal.specs.RowTable.{IsRowWithin}
use Rattle.ledger_audit.specs.Requests.{requests_of}
use Rattle.ledger_audit.specs.StrictAnswer.{first_loose}
use Rattle.ledger_audit.specs.StrictRules.{no_requests}
use Rattle.ledger_audit.proofs.strict.first_loose.Given as goal

-- what is left is judged as the whole is
abbrev pub invariant-rows : goal.invariant-rows
invariant-rows l = record {
  rest : first_loose l.environments (requests_of l.requests) l.left ≡ first_loose l.environments no_requests l.fn.rows;
  within : All (λ (x : ℕ × Row). IsRowWithin x.1) l.left;
}

abbrev pub decreases-rows : goal.decreases-rows
decreases-rows l = length l.left
