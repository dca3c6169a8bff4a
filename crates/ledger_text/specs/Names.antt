-- What is printed of each cause.
use Rattle.std.specs.Prelude.{ℕ, List, codes}
use Rattle.ledger_text.specs.declared.fault.LedgerWhy.{LedgerWhy}
use Rattle.ledger_text.specs.declared.fault.LedgerWhy.TheVariants.{Syntax, Range}

abbrev pub ledger_why_text : LedgerWhy → List ℕ
ledger_why_text Syntax = codes "Syntax"
ledger_why_text Range = codes "Range"
