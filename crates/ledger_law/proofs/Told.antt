-- What the rows of a run tell: what the book has, wherever a phase of a tick is over.
use Rattle.std.proofs.Common.{arith, refl, sym, ◌∙◌, ap, subst, ◌≡◌, ◌<◌, ◌≤◌, ◌+◌, ◌-◌, ◌⊎◌, ℕ, List, [], ◌∷◌, ◌++◌, append_assoc, Bool, true, false, ◌&&◌, Option, None, Some}
use Rattle.std.specs.Prelude.{nat_lt, nat_le, if◌then◌else◌}
use Rattle.std.proofs.lemmas.Bool.{and_parts, lt-ltb, le-leb}
use Rattle.aegis_limits.specs.Limits.{most_slots, excess_limit}
use Rattle.kernel_journal.specs.declared.row.Row.{Row}
use Rattle.world_model.specs.declared.life.Life.{Life}
use Rattle.world_model.specs.declared.life.Life.TheVariants.{Live, Dead}
use Rattle.world_model.specs.declared.hold.Hold.{Hold}
use Rattle.world_model.specs.declared.slot.Runner.{Runner}
use Rattle.world_model.specs.Book.{Book}
use Rattle.world_model.specs.Item.{Item, absorb, absorb_all, absorbed}
use Rattle.world_model.specs.Solo.{Solo, is_dead}
use Rattle.world_model.specs.World.{World, Reply, after}
use Rattle.run_model.specs.Excess.{Lives}
use Rattle.kernel_journal.specs.RowTable.{time_of}
use Rattle.ledger_audit.specs.LedgerState.{LedgerState, after_row, first_state, limit_in, state_after, state_from}
use Rattle.ledger_audit.specs.RowRules.{are_fit, is_by_limit, is_fit, is_in_time, is_own_row}

pub and_true : (x y : Bool) → x ≡ true → y ≡ true → (x && y) ≡ true
and_true true y first second = second
and_true false y first second = first

-- rows in two parts
pub state_append : (xs ys : List Row) (s : LedgerState) → state_from s (xs ++ ys) ≡ state_from (state_from s xs) ys
state_append [] ys s = refl
state_append (r ∷ xs) ys s = state_append xs ys (after_row r s)

pub fit_append : (q end : ℕ) (s : LedgerState) (xs ys later : List Row) → are_fit q end s xs (ys ++ later) ≡ true → are_fit q end (state_from s xs) ys later ≡ true
    → are_fit q end s (xs ++ ys) later ≡ true
fit_append q end s [] ys later first second = second
fit_append q end s (r ∷ xs) ys later first second =
    let parts = and_parts (is_fit q end s r (xs ++ (ys ++ later))) (are_fit q end (after_row r s) xs (ys ++ later)) first in
    let here : is_fit q end s r ((xs ++ ys) ++ later) ≡ true = subst (λ (rows : List Row). is_fit q end s r rows ≡ true) (sym (append_assoc xs ys later)) parts.0 in
    and_true (is_fit q end s r ((xs ++ ys) ++ later)) (are_fit q end (after_row r s) (xs ++ ys) later) here (fit_append q end (after_row r s) xs ys later parts.1 second)

-- a row in time
pub in_time : (q end : ℕ) (s : LedgerState) (r : Row) → (is_own_row r && s.at_boot) ≡ false → s.time ≤ time_of r → time_of r < end → is_by_limit q s (time_of r) s.runner ≡ true
    → is_in_time q end s r ≡ true
in_time q end s r later rises ends within =
    rw later (and_true (nat_le s.time (time_of r)) (nat_lt (time_of r) end && is_by_limit q s (time_of r) s.runner) (le-leb s.time (time_of r) rises)
    (and_true (nat_lt (time_of r) end) (is_by_limit q s (time_of r) s.runner) (lt-ltb (time_of r) end ends) within))

-- what a book has of slices
pub record Core : Type 0 where
  pub slots : ℕ → Option Hold
  pub count : ℕ
  pub quantum : ℕ
  pub cursor : ℕ
  pub runner : Option Runner
  pub excess : ℕ → ℕ
  pub time : ℕ

abbrev pub core : Book → Core
core b = record { slots = b.slots; count = b.slot_count; quantum = b.quantum; cursor = b.cursor; runner = b.runner; excess = b.excess; time = b.time }

pub record IsRunning (q gap : ℕ) (s : LedgerState) (cursor time : ℕ) (r : Runner) : Type 0 where
  pub runner : s.runner ≡ Some r.env
  pub place : s.cursor ≡ cursor
  pub phase : s.phase ≡ r.phase
  pub limit : limit_in q s + 1 ≡ time + gap + r.left
  pub left : 1 ≤ r.left
  pub at_boot : s.at_boot ≡ false

-- Where nobody runs, the next turn is in the tick that is so many ahead; a runner's last tick is counted from the tick that
-- is ahead by a gap.
abbrev pub SaysRunner : ℕ → ℕ → ℕ → LedgerState → ℕ → ℕ → Option Runner → Type 0
SaysRunner q ahead gap s cursor time None = (s.runner ≡ None) × (s.turn ≡ time + ahead)
SaysRunner q ahead gap s cursor time (Some r) = IsRunning q gap s cursor time r

abbrev pub SaysCursor : ℕ → ℕ → ℕ → Type 0
SaysCursor told cursor count = (told ≡ cursor) ⊎ ((told ≡ most_slots - 1) × (cursor + 1 ≡ count))

pub record Says (q ahead gap : ℕ) (s : LedgerState) (c : Core) : Type 0 where
  pub slots : s.slots ≡ c.slots
  pub cursor : SaysCursor s.cursor c.cursor c.count
  pub time : s.time ≤ c.time
  pub runs : SaysRunner q ahead gap s c.cursor c.time c.runner

pub record IsBound (q : ℕ) (c : Core) : Type 0 where
  pub beyond : (k : ℕ) → c.count ≤ k → c.slots k ≡ None
  pub within : c.cursor < c.count
  pub most : c.count ≤ most_slots
  pub same : c.quantum ≡ q
  pub least : 1 ≤ q
  pub modest : (e : ℕ) → c.excess e ≤ excess_limit

-- later rows don't begin before a time
abbrev pub From : ℕ → List Row → Type 0
From time [] = Unit {0}
From time (r ∷ rows) = time ≤ time_of r

pub from_less : (a b : ℕ) (rows : List Row) → a ≤ b → From b rows → From a rows
from_less a b [] less from = tt
from_less a b (r ∷ rows) less from = omega arith

abbrev pub Spares : World → LedgerState → Type 0
Spares w s = (e : ℕ) → Lives w e → s.dead e ≡ false

abbrev pub FitBefore : ℕ → ℕ → ℕ → World → Type 0
FitBefore q gap soon w = (end : ℕ) (later : List Row) → w.book.time + soon ≤ end → From (w.book.time + gap) later → are_fit q end first_state w.rows later ≡ true

pub record IsTold (q ahead gap soon : ℕ) (w : World) : Type 0 where
  pub says : Says q ahead gap (state_after w.rows) (core w.book)
  pub bound : IsBound q (core w.book)
  pub spares : Spares w (state_after w.rows)
  pub fits : FitBefore q gap soon w

-- What a phase of a tick adds.
pub record Adds (q gap ahead' gap' : ℕ) (w : World) (r : Reply) : Type 0 where
  pub time : r.book.time ≡ w.book.time
  pub fits : (end : ℕ) (later : List Row) → w.book.time + 1 ≤ end → From (w.book.time + gap') later → are_fit q end (state_after w.rows) r.rows later ≡ true
  pub first : (later : List Row) → From (w.book.time + gap') later → From (w.book.time + gap) (r.rows ++ later)
  pub says : Says q ahead' gap' (state_from (state_after w.rows) r.rows) (core r.book)
  pub bound : IsBound q (core r.book)
  pub spares : Spares (after w r) (state_from (state_after w.rows) r.rows)

pub told_after : (q ahead gap soon ahead' gap' : ℕ) (w : World) (r : Reply) → soon ≤ 1 → IsTold q ahead gap soon w → Adds q gap ahead' gap' w r → IsTold q ahead' gap' 1 (after w r)
told_after q ahead gap soon ahead' gap' w r few told adds = record {
  says = subst (λ (s : LedgerState). Says q ahead' gap' s (core r.book)) (sym same) adds.says;
  bound = adds.bound;
  spares = subst (λ (s : LedgerState). Spares (after w r) s) (sym same) adds.spares;
  fits = λ end later ends from.
      let at : From (w.book.time + gap') later = subst (λ (n : ℕ). From (n + gap') later) adds.time from in
      let last : w.book.time + 1 ≤ end = omega (arith, adds.time) in
      fit_append q end first_state w.rows r.rows later (told.fits end (r.rows ++ later) (omega arith) (adds.first later at)) (adds.fits end later last at);
}
  where
    same : state_after (w.rows ++ r.rows) ≡ state_from (state_after w.rows) r.rows
    same = state_append w.rows r.rows first_state

-- Who lives after a reply lived before it.
absorb_dead : (s : Solo) (item : Item) → is_dead s.life ≡ true → absorb s item ≡ s
absorb_dead s item gone = ap (λ (b : Bool). if b then s else absorbed s item) gone

dead_stays : (items : List Item) (s : Solo) → is_dead s.life ≡ true → absorb_all s items ≡ s
dead_stays [] s gone = refl
dead_stays (item ∷ items) s gone = ap (λ (t : Solo). absorb_all t items) (absorb_dead s item gone) ∙ dead_stays items s gone

pub lives_before : (w : World) (r : Reply) (e : ℕ) → Lives (after w r) e → Lives w e
lives_before w r e lives = by_life (w.solos e).life refl
  where
    by_life : (life : Life) → (w.solos e).life ≡ life → Lives w e
    by_life Live is = is
    by_life (Dead cause) is =
        let same = dead_stays (r.items e) (w.solos e) (ap is_dead is) in
        let never : Dead cause ≡ Live = sym is ∙ sym (ap (λ (s : Solo). s.life) same) ∙ lives in cc

pub by_limit : (q gap : ℕ) (s : LedgerState) (cursor time : ℕ) (runner : Option Runner) → SaysRunner q gap gap s cursor time runner → is_by_limit q s time s.runner ≡ true
by_limit q gap s cursor time None (nobody, turn) = rw nobody refl
by_limit q gap s cursor time (Some r) runs = rw runs.runner (le-leb time (limit_in q s) (omega (arith, runs.limit, runs.left)))
