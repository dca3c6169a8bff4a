-- The rows of a run: none is taken off the ledger, and what is spare serves the events and ticks that are to come.
use Rattle.std.proofs.Common.{◌≡◌, ◌≤◌, ℕ, zero, suc, ◌+◌, ◌-◌, ◌*◌, List, [], ◌∷◌, length, Bool, true, false, Result, inl, inr, ap, length-append, add-suc, add-zero, sym, subst, arith}
use Rattle.std.specs.Prelude.{if◌then◌else◌}
use Rattle.std.proofs.lemmas.Bool.{cases_lt}
use Rattle.kernel_journal.specs.Ledger.{Ledger}
use Rattle.world_model.specs.Book.{is_idle_book}
use Rattle.world_model.specs.Event.{Schedule}
use Rattle.world_model.specs.World.{World, Reply, after, run_phases}
use Rattle.run_model.specs.Boot.{boot_world}
use Rattle.run_model.specs.Run.{System, next_phases, next_world, world_after, world_after_ticks}
use Rattle.aegis_calls.specs.Rows.{tick_rows}
use Rattle.aegis_tick.specs.declared.course.Course.{Course}
use Rattle.aegis_tick.specs.Course.{IsSure, most_long_rows}
use Rattle.aegis_tick.specs.OnCourse.{HasRowsUpTo, IsSureOfTick, TookFewRows, system_of}

-- phases only add rows
rows_added : (w : World) (phases : List (World → Reply)) → length w.rows ≤ length (run_phases w phases).rows
rows_added w [] = omega arith
rows_added w (phase ∷ phases) =
    let rest = rows_added (after w (phase w)) phases in
    omega (arith, length-append w.rows (phase w).rows, rest)

next_rows : (schedule : Schedule) (w : World) → length w.rows ≤ length (next_world schedule w).rows
next_rows schedule w = either (is_idle_book w.book)
  where
    either : (idle : Bool) → length w.rows ≤ length (if idle then w else run_phases w (next_phases schedule w)).rows
    either true = omega arith
    either false = rows_added w (next_phases schedule w)

more_ticks : (schedule : Schedule) (w : World) (t k : ℕ) → length (world_after_ticks schedule w t).rows ≤ length (world_after_ticks schedule w (t + k)).rows
more_ticks schedule w t zero = rw add-zero (omega arith)
more_ticks schedule w t (suc k) = rw add-suc (omega (arith, more_ticks schedule w t k, next_rows schedule (world_after_ticks schedule w (t + k))))

-- so a ledger has no fewer rows at a later time
pub rows_grow : (system : System) (t u : ℕ) → t ≤ u → length (world_after system t).rows ≤ length (world_after system u).rows
rows_grow system t u within =
    let whole : t + (u - t) ≡ u = omega (arith, within) in
    subst (λ (n : ℕ). length (world_after system t).rows ≤ length (world_after system n).rows) whole
    (more_ticks system.schedule (boot_world system.image) t (u - t))

-- who has rows up to a limit has them up to any earlier one
pub rows_before : (c : Course) (look ticks : ℕ) → look ≤ ticks → HasRowsUpTo c ticks → HasRowsUpTo c look
rows_before c look ticks within has = record {
  spare = omega (arith, within, has.spare);
  few = omega (arith, has.few, rows_grow (system_of c) look ticks within);
}

-- what was spare up to a limit is so after ticks that took few
pub room_left : (old new : Course) (ticks : ℕ) → new.board.time ≤ ticks → TookFewRows old new
    → tick_rows * (length old.agenda + (ticks - old.board.time)) ≤ old.board.ledger.spare
    → tick_rows * (length new.agenda + (ticks - new.board.time)) ≤ new.board.ledger.spare
unfolding TookFewRows
room_left old new ticks within took room = omega (arith, within, took, room)

pub rows_left : (old new : Course) (ticks : ℕ) → system_of new ≡ system_of old → new.board.time ≤ ticks → TookFewRows old new → HasRowsUpTo old ticks
    → HasRowsUpTo new ticks
rows_left old new ticks same within took has = record {
  spare = room_left old new ticks within took has.spare;
  few = subst (λ (s : System). length (world_after s ticks).rows ≤ most_long_rows) (sym same) has.few;
}

-- who is sure of so many steps takes no more than their rows, sure or not
spent : {T E : Type 0} (steps : ℕ) (r : Result T E) (spare left : ℕ) → IsSure steps r spare left → spare ≤ left + tick_rows * steps
spent steps r spare left sure = elim (cases_lt spare (tick_rows * steps)) [
  | inl few ↦ omega (arith, few)
  | inr room ↦ (sure room).1
]

-- before the first tick none is taken
pub took_none : (c : Course) → TookFewRows c c
unfolding TookFewRows
took_none c = omega arith

-- nor are too many by a tick and the plain ticks after it
pub took_more : {T E : Type 0} (first old next new : Course) (r : Result T E) (made : ℕ) → TookFewRows first old
    → length next.agenda ≤ length old.agenda → next.board.time ≡ old.board.time + 1 → IsSureOfTick old r next
    → new.agenda ≡ next.agenda → new.board.ledger ≡ next.board.ledger → new.board.time ≡ next.board.time + made → TookFewRows first new
unfolding TookFewRows
took_more first old next new r made took fewer time sure agenda ledger glided =
    let few = spent (length old.agenda - length next.agenda + 1) r old.board.ledger.spare next.board.ledger.spare sure in
    let events : length new.agenda ≡ length next.agenda = ap length agenda in
    let left : new.board.ledger.spare ≡ next.board.ledger.spare = ap (λ (l : Ledger). l.spare) ledger in
    omega (arith, took, fewer, time, few, events, left, glided)
