use Rattle.std.proofs.Common.{◌≡◌, ◌++◌, take, drop}
use Rattle.page_book.specs.Rows.{row_in}
use Rattle.bind_book.specs.Stripe.{goes_with, swept_from, swept_rows}
use Rattle.aegis_limits.specs.VersionLimits.{stripe_rows}
use Rattle.bind_book.proofs.sweep.clear_env.Given as goal

-- The rows so far are swept already, and those that are left are to be.
abbrev pub invariant-loop-place : goal.invariant-loop-place
invariant-loop-place l = take l.place l.rows ++ swept_from (stripe_rows l.version) l.place (goes_with (row_in l.pages) l.gone) (drop l.place l.rows) ≡ swept_rows l.version (goes_with (row_in l.pages) l.gone) l.initial.rows
