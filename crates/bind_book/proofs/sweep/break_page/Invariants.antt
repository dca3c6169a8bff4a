use Rattle.std.proofs.Common.{◌≡◌, ◌++◌, take, drop}
use Rattle.bind_book.specs.Stripe.{leads_to_page, swept_from, swept_rows}
use Rattle.aegis_limits.specs.VersionLimits.{stripe_rows}
use Rattle.bind_book.proofs.sweep.break_page.Given as goal

-- The rows so far are swept already, and those that are left are to be.
abbrev pub invariant-loop-place : goal.invariant-loop-place
invariant-loop-place l = take l.place l.rows ++ swept_from (stripe_rows l.version) l.place (leads_to_page l.page l.but) (drop l.place l.rows) ≡ swept_rows l.version (leads_to_page l.page l.but) l.initial.rows
