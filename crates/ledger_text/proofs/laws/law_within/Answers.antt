use Rattle.ledger_text.proofs.Limited.{ledgers_limited, plans_limited}
use Rattle.ledger_text.proofs.laws.law_within.Goals as goal

pub returns : goal.returns
returns c = record { ledgers = ledgers_limited c.law_rows_are_read_back.ensures.within; plans = plans_limited }
