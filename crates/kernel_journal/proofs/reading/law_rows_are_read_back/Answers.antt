use Rattle.kernel_journal.proofs.ReadBack.{read_rows_within, rows_read_back}
use Rattle.kernel_journal.proofs.reading.law_rows_are_read_back.Goals as goal

pub returns : goal.returns
returns c = record { back = rows_read_back; within = read_rows_within }
