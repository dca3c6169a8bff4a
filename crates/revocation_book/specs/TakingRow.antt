-- A taking as it is kept.
use Rattle.std.specs.Prelude.{if◌then◌else◌, Some, None}
use Rattle.revocation_book.specs.declared.revocation.Taking.{Taking}
use Rattle.revocation_book.specs.declared.takings.TakingRow.{TakingRow}

abbrev pub taking_in : TakingRow → Taking
taking_in row = record { env = row.env; page = row.page; backup = if row.has_backup then Some row.backup else None }
