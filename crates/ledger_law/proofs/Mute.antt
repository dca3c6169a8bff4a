-- Phases that say nothing of slices.
use Rattle.std.proofs.Common.{arith, refl, sym, ◌∙◌, ap, subst, ◌≡◌, ◌≤◌, ◌+◌, ℕ, List, [], ◌∷◌, ◌++◌, Bool, true, false, ◌&&◌, Option, None, Some}
use Rattle.kernel_journal.specs.declared.row.Row.{Row}
use Rattle.kernel_journal.specs.declared.row.Row.TheVariants as row
use Rattle.world_model.specs.declared.slot.Runner.{Runner}
use Rattle.world_model.specs.World.{World, Reply, after}
use Rattle.kernel_journal.specs.RowTable.{time_of}
use Rattle.ledger_audit.specs.LedgerState.{LedgerState, after_row, limit_in, state_after, state_from}
use Rattle.ledger_audit.specs.RowRules.{are_fit, is_by_limit, is_in_time, is_own_row}
use Rattle.ledger_law.proofs.Told.{Core, From, IsBound, IsTold, Says, SaysRunner, by_limit, core, in_time, lives_before, told_after}

-- A row that says nothing of slices.
abbrev pub IsMute : ℕ → List Row → Type 0
IsMute time [] = Unit {0}
IsMute time (row.Asked t e outstanding deadline ∷ []) = t ≡ time
IsMute time (row.Take t e page backup ∷ []) = t ≡ time
IsMute time (row.Unclaimed t size ∷ []) = t ≡ time
IsMute time rows = ⊥

-- the same runner behind a row that says nothing of slices
still_runs : (q ahead gap : ℕ) (s t : LedgerState) (c : Core) (runner : Option Runner) → t.runner ≡ s.runner → t.turn ≡ s.turn → t.cursor ≡ s.cursor → t.phase ≡ s.phase
    → limit_in q t ≡ limit_in q s → ((e : ℕ) → s.at_boot ≡ false → t.at_boot ≡ false) → SaysRunner q ahead gap s c.cursor c.time runner → SaysRunner q ahead gap t c.cursor c.time runner
still_runs q ahead gap s t c None same turn cursor phase limit boot (nobody, next) = (same ∙ nobody, turn ∙ next)
still_runs q ahead gap s t c (Some r) same turn cursor phase limit boot runs = record {
  runner = same ∙ runs.runner;
  place = cursor ∙ runs.place;
  phase = phase ∙ runs.phase;
  limit = ap (λ (n : ℕ). n + 1) limit ∙ runs.limit;
  left = runs.left;
  at_boot = boot 0 runs.at_boot;
}

module _ (q ahead gap : ℕ) (s : LedgerState) (c : Core) (says : Says q ahead gap s c) where
  -- behind one row that is mute, at the time of the book
  pub mute_says : (rows : List Row) → IsMute c.time rows → Says q ahead gap (state_from s rows) c
  mute_says [] mute = says
  mute_says (row.Asked t e outstanding deadline ∷ []) mute =
      let u = after_row (row.Asked t e outstanding deadline) s in
      record { slots = says.slots; cursor = says.cursor; time = omega arith; runs = still_runs q ahead gap s u c c.runner refl refl refl refl refl (λ e boot. refl) says.runs }
  mute_says (row.Take t e page backup ∷ []) mute =
      let u = after_row (row.Take t e page backup) s in
      record { slots = says.slots; cursor = says.cursor; time = omega arith; runs = still_runs q ahead gap s u c c.runner refl refl refl refl refl (λ e boot. refl) says.runs }
  mute_says (row.Unclaimed t size ∷ []) mute =
      let u = after_row (row.Unclaimed t size) s in
      record { slots = says.slots; cursor = says.cursor; time = omega arith; runs = still_runs q ahead gap s u c c.runner refl refl refl refl refl (λ e boot. refl) says.runs }
  mute_says rows mute = absurd mute

  pub mute_spares : (rows : List Row) → IsMute c.time rows → (e : ℕ) → s.dead e ≡ false → (state_from s rows).dead e ≡ false
  mute_spares [] mute e dead = dead
  mute_spares (row.Asked t who outstanding deadline ∷ []) mute e dead = dead
  mute_spares (row.Take t who page backup ∷ []) mute e dead = dead
  mute_spares (row.Unclaimed t size ∷ []) mute e dead = dead
  mute_spares rows mute e dead = absurd mute

  row_fits : (end : ℕ) (r : Row) → is_own_row r ≡ false → time_of r ≡ c.time → is_by_limit q s c.time s.runner ≡ true → c.time + 1 ≤ end → is_in_time q end s r ≡ true
  row_fits end r other at within ends =
      in_time q end s r (ap (λ (b : Bool). b && s.at_boot) other) (omega (arith, says.time)) (omega arith) (subst (λ (n : ℕ). is_by_limit q s n s.runner ≡ true) (sym at) within)

  alone : (a : Bool) → a ≡ true → ((a && true) && true) ≡ true
  alone a is = rw is refl

  pub mute_fits : (rows : List Row) → IsMute c.time rows → is_by_limit q s c.time s.runner ≡ true → (end : ℕ) (later : List Row) → c.time + 1 ≤ end → are_fit q end s rows later ≡ true
  mute_fits [] mute within end later ends = refl
  mute_fits (row.Asked t e outstanding deadline ∷ []) mute within end later ends = alone _ (row_fits end (row.Asked t e outstanding deadline) refl mute within ends)
  mute_fits (row.Take t e page backup ∷ []) mute within end later ends = alone _ (row_fits end (row.Take t e page backup) refl mute within ends)
  mute_fits (row.Unclaimed t size ∷ []) mute within end later ends = alone _ (row_fits end (row.Unclaimed t size) refl mute within ends)
  mute_fits rows mute within end later ends = absurd mute

pub mute_from : (time : ℕ) (rows later : List Row) → IsMute time rows → From (time + 0) later → From (time + 0) (rows ++ later)
mute_from time [] later mute from = from
mute_from time (row.Asked t e outstanding deadline ∷ []) later mute from = omega arith
mute_from time (row.Take t e page backup ∷ []) later mute from = omega arith
mute_from time (row.Unclaimed t size ∷ []) later mute from = omega arith
mute_from time rows later mute from = absurd mute

-- a reply that leaves what the book has of slices, with rows that are mute
pub mute_told : (q soon : ℕ) (w : World) (r : Reply) → soon ≤ 1 → IsTold q 0 0 soon w → core r.book ≡ core w.book → IsMute w.book.time r.rows → IsTold q 0 0 1 (after w r)
mute_told q soon w r few told same mute =
    let s = state_after w.rows in
    told_after q 0 0 soon 0 0 w r few told (record {
      time = ap (λ (c : Core). c.time) same;
      fits = λ end later ends from. mute_fits q 0 0 s (core w.book) told.says r.rows mute (by_limit q 0 s w.book.cursor w.book.time w.book.runner told.says.runs) end later ends;
      first = λ later from. mute_from w.book.time r.rows later mute from;
      says = subst (λ (c : Core). Says q 0 0 (state_from s r.rows) c) (sym same) (mute_says q 0 0 s (core w.book) told.says r.rows mute);
      bound = subst (IsBound q) (sym same) told.bound;
      spares = λ e lives. mute_spares q 0 0 s (core w.book) told.says r.rows mute e (told.spares e (lives_before w r e lives));
    })
