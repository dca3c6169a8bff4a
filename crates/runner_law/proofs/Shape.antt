-- The rows of a tick by their shape: plain ones, the start of a turn where nobody runs, and what comes after it.
use Rattle.std.proofs.Common.{append_assoc, refl, sym, ◌∙◌, ap, subst, ◌≡◌, ◌+◌, ℕ, suc, List, [], ◌∷◌, ◌++◌, map, false, Option, None, Some}
use Rattle.std.proofs.lemmas.List.{append-nil}
use Rattle.kernel_journal.specs.declared.row.Row.{Row}
use Rattle.kernel_journal.specs.declared.row.Row.TheVariants as row
use Rattle.kernel_journal.specs.RowTable.{time_of}
use Rattle.boot_image.specs.Accepted.{IsAccepted}
use Rattle.external_event.specs.declared.event.Occurrence.{Occurrence}
use Rattle.revocation_book.specs.declared.revocation.Taking.{Taking}
use Rattle.world_model.specs.declared.slot.Runner.{Runner}
use Rattle.world_model.specs.declared.slot.Turn.{Turn}
use Rattle.world_model.specs.Book.{is_idle_book, running, whole_turn}
use Rattle.world_model.specs.Deadlines.{settles, takes, takings}
use Rattle.world_model.specs.Event.{happen}
use Rattle.world_model.specs.Tick.{pay_row, serve_phases, served, step, take_turn, timer, turn, turn_when}
use Rattle.world_model.specs.World.{World, Reply, after, run_phases}
use Rattle.call_verdicts.specs.Granted.{GrantedMay}
use Rattle.run_model.specs.Boot.{boot_world}
use Rattle.run_model.specs.Excess.{TurnsGoByRule}
use Rattle.run_model.specs.Run.{System, at_step, at_turn, happens_in, once_happened, world_after}
use Rattle.run_model.proofs.Balance.{boots_accounted, ticks_keep_accounts}
use Rattle.run_model.proofs.Phases.{deadlines_after_events, next_after_timer, run_append, step_after_turn, timer_after_step, turn_after_serving}
use Rattle.ledger_audit.specs.RowRules.{is_own_row}
use Rattle.ledger_law.proofs.Told.{Core, From, core}
use Rattle.ledger_law.proofs.Events.{Early, Ready, before_turn_ready, happen_early}
use Rattle.ledger_law.proofs.Mute.{IsMute}
use Rattle.ledger_law.proofs.Tells.{told_after}
use Rattle.ledger_law.proofs.Ticks.{NextIs, sooner, turn_runs}
use Rattle.turn_law.specs.Ticks.{starts_by}
use Rattle.runner_law.proofs.Ages.{from_both, step_ages, timer_count, timer_from, timer_time}

-- a row of a tick that neither starts anybody nor is of a slot
pub record IsPlain (t : ℕ) (r : Row) : Type 0 where
  pub own : is_own_row r ≡ false
  pub starts : (u : ℕ) → starts_by u r ≡ None
  pub time : time_of r ≡ t

abbrev pub ArePlain : ℕ → List Row → Type 0
ArePlain t [] = Unit {0}
ArePlain t (r ∷ rows) = IsPlain t r × ArePlain t rows

plain_both : (t : ℕ) (xs ys : List Row) → ArePlain t xs → ArePlain t ys → ArePlain t (xs ++ ys)
plain_both t [] ys first second = second
plain_both t (r ∷ xs) ys first second = (first.0, plain_both t xs ys first.1 second)

plain_mute : (t : ℕ) (rows : List Row) → IsMute t rows → ArePlain t rows
plain_mute t [] mute = tt
plain_mute t (row.Asked u e outstanding deadline ∷ []) mute = (record { own = refl; starts = λ n. refl; time = mute }, tt)
plain_mute t (row.Take u e page backup ∷ []) mute = (record { own = refl; starts = λ n. refl; time = mute }, tt)
plain_mute t (row.Unclaimed u size ∷ []) mute = (record { own = refl; starts = λ n. refl; time = mute }, tt)
plain_mute t rows mute = absurd mute

plain_pays : (t : ℕ) (pays : List Turn) → ArePlain t (map (pay_row t) pays)
plain_pays t [] = tt
plain_pays t (p ∷ pays) = (record { own = refl; starts = λ n. refl; time = refl }, plain_pays t pays)

-- A world with plain rows more, and the same slices.
record IsEarly (w v : World) : Type 0 where
  rows : List Row
  plain : ArePlain w.book.time rows
  grown : v.rows ≡ w.rows ++ rows
  same : core v.book ≡ core w.book

early_then : (w v : World) (r : Reply) → IsEarly w v → Early v r → IsEarly w (after v r)
early_then w v r early next =
    let time : v.book.time ≡ w.book.time = ap (λ (c : Core). c.time) early.same in
    let mute : IsMute w.book.time r.rows = subst (λ (t : ℕ). IsMute t r.rows) time next.mute in
    record {
      rows = early.rows ++ r.rows;
      plain = plain_both w.book.time early.rows r.rows early.plain (plain_mute w.book.time r.rows mute);
      grown = ap (λ (rows : List Row). rows ++ r.rows) early.grown ∙ append_assoc w.rows early.rows r.rows;
      same = next.same ∙ early.same;
    }

early_events : (happens : List Occurrence) (w v : World) → IsEarly w v → IsEarly w (run_phases v (map happen happens))
early_events [] w v early = early
early_events (what ∷ happens) w v early = early_events happens w (after v (happen what v)) (early_then w v (happen what v) early (happen_early what v))

early_serving : (xs : List Taking) (w v : World) → IsEarly w v → IsEarly w (run_phases v (serve_phases xs))
early_serving [] w v early = early_then w v (settles v) early (record { same = refl; mute = tt })
early_serving (x ∷ xs) w v early = early_serving xs w (after v (takes x v)) (early_then w v (takes x v) early (record { same = refl; mute = refl }))

pub at_turn_is : (system : System) (t : ℕ) → at_turn system t ≡ served (once_happened system.schedule (world_after system t))
at_turn_is system t = turn_after_serving system t ∙ ap served (deadlines_after_events system t)

early_turn : (system : System) (t : ℕ) → IsEarly (world_after system t) (at_turn system t)
early_turn system t =
    let w = world_after system t in
    let v = once_happened system.schedule w in
    let start : IsEarly w w = record { rows = []; plain = tt; grown = sym (append-nil w.rows); same = refl } in
    subst (IsEarly w) (sym (at_turn_is system t)) (early_serving (takings v) w v (early_events (happens_in system.schedule w) w w start))

pub turn_core : (system : System) (t : ℕ) → core (at_turn system t).book ≡ core (world_after system t).book
turn_core system t = (early_turn system t).same

-- Who runs as the step is made: who ran as the tick began, or whose turn begins in it.
pub data IsTurned (w u : World) (starts : List Row) : Type 0 where
  Runs_on : (r : Runner) → w.book.runner ≡ Some r → running u.book.runner ≡ Some r.env → starts ≡ [] → IsTurned w u starts
  Begins : (turn : Turn) → w.book.runner ≡ None → running u.book.runner ≡ Some turn.env → starts ≡ row.Run w.book.time turn.slot turn.env ∷ [] → IsTurned w u starts

record HasTurned (w u : World) : Type 0 where
  plain : List Row
  are : ArePlain w.book.time plain
  starts : List Row
  kind : IsTurned w u starts
  grown : u.rows ≡ w.rows ++ (plain ++ starts)
  time : u.book.time ≡ w.book.time
  count : u.book.slot_count ≡ w.book.slot_count

taken : (w v : World) (o : Option Turn) → (whole_turn v.book).runs ≡ o → IsEarly w v → w.book.runner ≡ None → v.book.runner ≡ None → ((r : Runner) → (take_turn v (whole_turn v.book) o).book.runner ≡ Some r → HasTurned w (after v (take_turn v (whole_turn v.book) o)))
taken w v None is early free nobody r runs = let never : None ≡ Some r = sym nobody ∙ runs in cc
taken w v (Some t) is early free nobody r runs =
    let time : v.book.time ≡ w.book.time = ap (λ (c : Core). c.time) early.same in
    let pays = map (pay_row w.book.time) (whole_turn v.book).pays in
    let starts = row.Run w.book.time t.slot t.env ∷ [] in
    let rows : (take_turn v (whole_turn v.book) (Some t)).rows ≡ pays ++ starts = ap (λ (n : ℕ). map (pay_row n) (whole_turn v.book).pays ++ row.Run n t.slot t.env ∷ []) time in
    record {
      plain = early.rows ++ pays;
      are = plain_both w.book.time early.rows pays early.plain (plain_pays w.book.time (whole_turn v.book).pays);
      starts = starts;
      kind = Begins t free refl refl;
      grown =
          ap (λ (xs : List Row). xs ++ (take_turn v (whole_turn v.book) (Some t)).rows) early.grown ∙ ap (λ (xs : List Row). (w.rows ++ early.rows) ++ xs) rows
          ∙ append_assoc w.rows early.rows (pays ++ starts) ∙ ap (λ (xs : List Row). w.rows ++ xs) (sym (append_assoc early.rows pays starts));
      time = time;
      count = ap (λ (c : Core). c.count) early.same;
    }

turned : (w v : World) → IsEarly w v → (o : Option Runner) → v.book.runner ≡ o → (r : Runner) → (turn_when v o).book.runner ≡ Some r → HasTurned w (after v (turn_when v o))
turned w v early (Some x) is r runs = record {
  plain = early.rows;
  are = early.plain;
  starts = [];
  kind = Runs_on x (sym (ap (λ (c : Core). c.runner) early.same) ∙ is) (ap running is) refl;
  grown = ap (λ (xs : List Row). xs ++ []) early.grown ∙ append_assoc w.rows early.rows [];
  time = ap (λ (c : Core). c.time) early.same;
  count = ap (λ (c : Core). c.count) early.same;
}
turned w v early None is r runs = taken w v (whole_turn v.book).runs refl early (sym (ap (λ (c : Core). c.runner) early.same) ∙ is) is r runs

-- A tick that is made.
pub record IsTick (system : System) (t : ℕ) : Type 0 where
  pub plain : List Row
  pub are : ArePlain (world_after system t).book.time plain
  pub starts : List Row
  pub kind : IsTurned (world_after system t) (at_step system t) starts
  pub rest : List Row
  pub from : From (world_after system t).book.time rest
  pub next : (world_after system (suc t)).rows ≡ ((world_after system t).rows ++ (plain ++ starts)) ++ rest
  pub time : (world_after system (suc t)).book.time ≡ (world_after system t).book.time + 1
  pub count : (world_after system (suc t)).book.slot_count ≡ (world_after system t).book.slot_count

ticked : (system : System) (t : ℕ) → is_idle_book (world_after system t).book ≡ false → HasTurned (world_after system t) (at_step system t) → IsTick system t
ticked system t busy has =
    let w = world_after system t in
    let u = at_step system t in
    let x = after u (step u) in
    let stepped = step_ages u in
    let next : world_after system (suc t) ≡ after x (timer x) = next_after_timer system t busy ∙ ap (λ (v : World). after v (timer v)) (timer_after_step system t) in
    let later : From u.book.time (timer x).rows = subst (λ (n : ℕ). From n (timer x).rows) stepped.time (timer_from x) in
    record {
      plain = has.plain;
      are = has.are;
      starts = has.starts;
      kind = has.kind;
      rest = (step u).rows ++ (timer x).rows;
      from = subst (λ (n : ℕ). From n ((step u).rows ++ (timer x).rows)) has.time (from_both u.book.time (step u).rows (timer x).rows stepped.from later);
      next =
          ap (λ (v : World). v.rows) next ∙ append_assoc u.rows (step u).rows (timer x).rows
          ∙ ap (λ (rows : List Row). rows ++ ((step u).rows ++ (timer x).rows)) has.grown;
      time = ap (λ (v : World). v.book.time) next ∙ timer_time x ∙ ap (λ (n : ℕ). n + 1) (stepped.time ∙ has.time);
      count = ap (λ (v : World). v.book.slot_count) next ∙ timer_count x ∙ stepped.count ∙ has.count;
    }

module _ (granted : GrantedMay) (next : NextIs) (goes : TurnsGoByRule) where
  pub is_tick : (system : System) (t : ℕ) → IsAccepted system.image → is_idle_book (world_after system t).book ≡ false → IsTick system t
  is_tick system t accepted busy =
      let w = world_after system t in
      let q = system.image.quantum in
      let happens = happens_in system.schedule w in
      let mid = once_happened system.schedule w in
      let v = served mid in
      let told = sooner q w (told_after granted next goes system t accepted) in
      let accounted = ticks_keep_accounts granted system.schedule (boot_world system.image) (boots_accounted system.image) t in
      let ready : Ready q v =
      subst (Ready q) (run_append w (map happen happens) (serve_phases (takings mid))) (before_turn_ready q happens (takings mid) w (record { told = told; busy = busy; accounted = accounted })) in
      let runs = turn_runs next goes q v ready v.book.runner refl in
      let early : IsEarly w v = subst (IsEarly w) (at_turn_is system t) (early_turn system t) in
      let has : HasTurned w (after v (turn v)) = turned w v early v.book.runner refl runs.who runs.is in
      let step_is : at_step system t ≡ after v (turn v) = step_after_turn system t ∙ ap (λ (x : World). after x (turn x)) (at_turn_is system t) in
      ticked system t busy (subst (HasTurned w) (sym step_is) has)
