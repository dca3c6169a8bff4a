-- The spare rows of the ledger for which the parts of a tick ask. None writes more.
use Rattle.std.specs.Prelude.{ℕ, ◌+◌, ◌*◌}
use Rattle.aegis_limits.specs.Limits.{environment_numbers, excess_limit, most_pages, most_slots}

-- a kernel call, or a death, behind which each slot may go back to its owner
abbrev pub call_rows : ℕ
call_rows = 2 * most_slots

-- an event, a step with its call or death, or the timer
abbrev pub step_rows : ℕ
step_rows = 2 * call_rows

-- a turn: a start, and a forfeit for each quantum that the environments owe
abbrev pub turn_rows : ℕ
turn_rows = 2 * (environment_numbers * excess_limit)

-- deadlines: one for each page that is taken
abbrev pub serve_rows : ℕ
serve_rows = most_pages

-- a whole tick: deadlines, the turn, the step, and the timer
abbrev pub tick_rows : ℕ
tick_rows = serve_rows + turn_rows + step_rows + step_rows
