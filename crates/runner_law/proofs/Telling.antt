-- What the rows of a run tell of its earlier ticks.
use Rattle.std.proofs.Common.{append_assoc, arith, refl, sym, ◌∙◌, ap, subst, ◌≡◌, ◌<◌, ◌≤◌, ◌⊎◌, inl, inr, ℕ, zero, suc, List, [], ◌∷◌, ◌++◌, Bool, true, false, ◌&&◌, Option, None, Some}
use Rattle.std.specs.Prelude.{is_none, nat_lt, if◌then◌else◌}
use Rattle.std.specs.Option.{option_or}
use Rattle.std.proofs.lemmas.Bool.{and_parts, and_right, cases_lt, eq-eqb}
use Rattle.std.proofs.lemmas.List.{append-nil}
use Rattle.kernel_journal.specs.declared.row.Row.{Row}
use Rattle.kernel_journal.specs.declared.row.Row.TheVariants as row
use Rattle.kernel_journal.specs.RowTable.{time_of}
use Rattle.boot_image.specs.Accepted.{IsAccepted}
use Rattle.world_model.specs.declared.slot.Runner.{Runner}
use Rattle.world_model.specs.declared.slot.Turn.{Turn}
use Rattle.world_model.specs.Book.{first_turn, is_idle_book, next_held_turn, owed, running, turn_from, turn_within, whole_turn}
use Rattle.world_model.specs.Tick.{take_turn, turn, turn_when}
use Rattle.world_model.specs.World.{World, run_phases}
use Rattle.call_verdicts.specs.Granted.{GrantedMay}
use Rattle.run_model.specs.Boot.{boot_world}
use Rattle.run_model.specs.Excess.{TurnsGoByRule}
use Rattle.run_model.specs.Run.{System, TimeIsTick, at_step, at_turn, next_phases, world_after}
use Rattle.run_model.proofs.Phases.{step_after_turn}
use Rattle.ledger_audit.specs.LedgerState.{LedgerState, after_row, first_state, state_after, state_from}
use Rattle.ledger_audit.specs.RowRules.{is_fit_by_kind, is_in_time, is_own_row}
use Rattle.ledger_law.specs.LedgerLaw.{RowsFit}
use Rattle.ledger_law.specs.Telling.{LedgerTells}
use Rattle.ledger_law.proofs.Told.{Core, From, core}
use Rattle.ledger_law.proofs.Stepping.{get_runs}
use Rattle.ledger_law.proofs.Booting.{core_kept}
use Rattle.ledger_law.proofs.Tells.{told_after}
use Rattle.ledger_law.proofs.Ticks.{NextIs}
use Rattle.turn_law.specs.Ticks.{runner_in, starter, state_before, state_until}
use Rattle.turn_law.proofs.Rules.{AreFit, all_fit, timely}
use Rattle.turn_law.proofs.Walking.{earlier, not_earlier, starts_not}
use Rattle.turn_law.proofs.Coming.{own_starts}
use Rattle.runner_law.specs.RunnerLaw.{RunnersAreTold, StatesAreTold}
use Rattle.runner_law.proofs.Shape.{ArePlain, Begins, IsTick, IsTurned, Runs_on, is_tick, turn_core}

pub is_or_not : (b : Bool) → (b ≡ true) ⊎ (b ≡ false)
is_or_not true = inl refl
is_or_not false = inr refl

-- rows that fit before an end are earlier than each tick from there on
all_earlier : (q end t : ℕ) (rest rows : List Row) (s : LedgerState) → AreFit q end s rows → end ≤ t → state_until t s (rows ++ rest) ≡ state_until t (state_from s rows) rest
all_earlier q end t rest [] s fit less = refl
all_earlier q end t rest (r ∷ rows) s fit less =
    elim (is_or_not (is_own_row r && s.at_boot)) [
      | inl boot ↦
          ap (λ (b : Bool). if (if b then true else nat_lt (time_of r) t) then state_until t (after_row r s) (rows ++ rest) else s) boot
          ∙ all_earlier q end t rest rows (after_row r s) fit.1 less
      | inr over ↦
          let time = timely q end s r over (and_parts (is_in_time q end s r) (is_fit_by_kind q s r rows) fit.0).0 in
          earlier t s r (rows ++ rest) over (omega (arith, time.ends, less)) ∙ all_earlier q end t rest rows (after_row r s) fit.1 less
    ]

all_start_not : (q end t : ℕ) (rest rows : List Row) (s : LedgerState) → AreFit q end s rows → end ≤ t → starter t (rows ++ rest) ≡ starter t rest
all_start_not q end t rest [] s fit less = refl
all_start_not q end t rest (r ∷ rows) s fit less =
    elim (is_or_not (is_own_row r && s.at_boot)) [
      | inl boot ↦
          ap (λ (o : Option ℕ). option_or o (starter t (rows ++ rest))) (own_starts t r (and_parts (is_own_row r) s.at_boot boot).0)
          ∙ all_start_not q end t rest rows (after_row r s) fit.1 less
      | inr over ↦
          let time = timely q end s r over (and_parts (is_in_time q end s r) (is_fit_by_kind q s r rows) fit.0).0 in
          ap (λ (o : Option ℕ). option_or o (starter t (rows ++ rest))) (starts_not t r (omega (arith, time.ends, less)))
          ∙ all_start_not q end t rest rows (after_row r s) fit.1 less
    ]

plain_start_not : (u t : ℕ) (plain rest : List Row) → ArePlain u plain → starter t (plain ++ rest) ≡ starter t rest
plain_start_not u t [] rest are = refl
plain_start_not u t (r ∷ plain) rest are =
    ap (λ (o : Option ℕ). option_or o (starter t (plain ++ rest))) (are.0.starts t) ∙ plain_start_not u t plain rest are.1

-- rows of which the first isn't earlier than a tick
abbrev IsLate : ℕ → LedgerState → List Row → Type 0
IsLate t s [] = Unit {0}
IsLate t s (r ∷ rows) = ((is_own_row r && s.at_boot) ≡ false) × (t ≤ time_of r)

late_stops : (t : ℕ) (s : LedgerState) (rows : List Row) → IsLate t s rows → state_until t s rows ≡ s
late_stops t s [] late = refl
late_stops t s (r ∷ rows) late = not_earlier t s r rows late.0 late.1

late_plain : (t u : ℕ) (s : LedgerState) (plain rest : List Row) → ArePlain u plain → t ≤ u → IsLate t s rest → IsLate t s (plain ++ rest)
late_plain t u s [] rest are less late = late
late_plain t u s (r ∷ plain) rest are less late = (ap (λ (b : Bool). b && s.at_boot) are.0.own, omega (arith, are.0.time, less))

late_from : (t u : ℕ) (s : LedgerState) (rows : List Row) → s.at_boot ≡ false → t ≤ u → From u rows → IsLate t s rows
late_from t u s [] boot less from = tt
late_from t u s (r ∷ rows) boot less from = (and_right (is_own_row r) s.at_boot boot, omega (arith, less, from))

five : (a b c d e : List Row) → ((a ++ (b ++ c)) ++ d) ++ e ≡ a ++ (b ++ (c ++ (d ++ e)))
five a b c d e = append_assoc (a ++ (b ++ c)) d e ∙ append_assoc a (b ++ c) (d ++ e) ∙ ap (λ (xs : List Row). a ++ xs) (append_assoc b c (d ++ e))

-- an idle board makes no tick more
pub idle_next : (system : System) (t : ℕ) → is_idle_book (world_after system t).book ≡ true → world_after system (suc t) ≡ world_after system t
idle_next system t idle = let w = world_after system t in ap (λ (b : Bool). if b then w else run_phases w (next_phases system.schedule w)) idle

same_tick : (t u : ℕ) → t ≤ u → u ≤ t → t ≡ u
same_tick t u less more = omega (arith, less, more)

pub idle_stays : (system : System) (t u : ℕ) → is_idle_book (world_after system t).book ≡ true → t ≤ u → world_after system u ≡ world_after system t
idle_stays system t zero idle less = ap (world_after system) (sym (same_tick t zero less (omega arith)))
idle_stays system t (suc u) idle less =
    elim (cases_lt t (suc u)) [
      | inl below ↦
          let was = idle_stays system t u idle (omega (arith, below)) in
          idle_next system u (ap (λ (w : World). is_idle_book w.book) was ∙ idle) ∙ was
      | inr past ↦ ap (world_after system) (sym (same_tick t (suc u) less past))
    ]

-- where it is idle, nobody runs as a step would be made
whole_none : (w : World) → (o : Option Turn) → first_turn w.book.slots w.book.slot_count w.book.cursor w.book.slot_count ≡ o → o ≡ None → (whole_turn w.book).runs ≡ None
whole_none w o is none =
    let b = w.book in
    ap (λ (next : Option Turn). (turn_within (turn_from b.slots b.slot_count (owed b.excess b.slots b.slot_count)) b.cursor b.excess next).runs) (is ∙ none)

pub no_turn : (o : Option Turn) → is_none o ≡ true → o ≡ None
no_turn None is = refl
no_turn (Some t) is = cc

no_runner : (o : Option Runner) → is_none o ≡ true → o ≡ None
no_runner None is = refl
no_runner (Some r) is = cc

pub idle_runner : (w : World) → is_idle_book w.book ≡ true → w.book.runner ≡ None
idle_runner w idle = no_runner w.book.runner (and_parts (is_none w.book.runner) (is_none (next_held_turn w.book)) idle).0

pub idle_step : (system : System) (t : ℕ) → is_idle_book (world_after system t).book ≡ true → running (at_step system t).book.runner ≡ None
idle_step system t idle =
    let w = world_after system t in
    let v = at_turn system t in
    let same = turn_core system t in
    let nobody : v.book.runner ≡ None = ap (λ (c : Core). c.runner) same ∙ idle_runner w idle in
    let empty : next_held_turn v.book ≡ None = ap (λ (c : Core). first_turn c.slots c.count c.cursor c.count) same ∙ no_turn (next_held_turn w.book) (and_parts (is_none w.book.runner) (is_none (next_held_turn w.book)) idle).1 in
    let runs = whole_none v (next_held_turn v.book) refl empty in
    ap (λ (u : World). running u.book.runner) (step_after_turn system t) ∙ ap (λ (o : Option Runner). running (turn_when v o).book.runner) nobody
    ∙ ap (λ (o : Option Turn). running (take_turn v (whole_turn v.book) o).book.runner) runs ∙ ap running nobody

module _ (granted : GrantedMay) (next : NextIs) (goes : TurnsGoByRule) (timed : TimeIsTick) (fit : RowsFit) (system : System) (accepted : IsAccepted system.image) where
  boot_time : (boot_world system.image).book.time ≡ 0
  boot_time = ap (λ (c : Core). c.time) (core_kept 0 system.image.programs _)

  pub busy_time : (t : ℕ) → is_idle_book (world_after system t).book ≡ false → (world_after system t).book.time ≡ t
  busy_time t busy = timed system.schedule (boot_world system.image) t boot_time busy

  time_most : (t : ℕ) → (world_after system t).book.time ≤ t
  time_most zero = omega (arith, boot_time)
  time_most (suc t) =
      elim (is_or_not (is_idle_book (world_after system t).book)) [
        | inl idle ↦ let was = time_most t in let same = ap (λ (w : World). w.book.time) (idle_next system t idle) in omega (arith, was, same)
        | inr busy ↦ let was = time_most t in let more = (is_tick granted next goes system t accepted busy).time in omega (arith, was, more)
      ]

  record IsGrown (t later : ℕ) : Type 0 where
    more : List Row
    rows : (world_after system later).rows ≡ (world_after system t).rows ++ more
    late : IsLate t (state_after (world_after system t).rows) more

  starts_late : (t u : ℕ) (tick : IsTick system u) → t ≤ (world_after system u).book.time → (starts : List Row) → IsTurned (world_after system u) (at_step system u) starts
      → IsLate t (state_after (world_after system u).rows) (starts ++ tick.rest)
  starts_late t u tick less starts (Begins turn free runs is) = subst (λ (xs : List Row). IsLate t (state_after (world_after system u).rows) (xs ++ tick.rest)) (sym is) (refl, less)
  starts_late t u tick less starts (Runs_on r was runs is) =
      let w = world_after system u in
      let told = told_after granted next goes system u accepted in
      let boot = (get_runs system.image.quantum 0 0 (state_after w.rows) (core w.book) r was told.says).at_boot in
      subst (λ (xs : List Row). IsLate t (state_after w.rows) (xs ++ tick.rest)) (sym is) (late_from t w.book.time (state_after w.rows) tick.rest boot less tick.from)

  tick_late : (t u : ℕ) (tick : IsTick system u) → t ≤ (world_after system u).book.time → IsLate t (state_after (world_after system u).rows) ((tick.plain ++ tick.starts) ++ tick.rest)
  tick_late t u tick less =
      let w = world_after system u in
      subst (IsLate t (state_after w.rows)) (sym (append_assoc tick.plain tick.starts tick.rest))
      (late_plain t w.book.time (state_after w.rows) tick.plain (tick.starts ++ tick.rest) tick.are less (starts_late t u tick less tick.starts tick.kind))

  still_late : (t u : ℕ) (more delta : List Row) → (world_after system u).rows ≡ (world_after system t).rows ++ more → IsLate t (state_after (world_after system t).rows) more
      → IsLate t (state_after (world_after system u).rows) delta → IsLate t (state_after (world_after system t).rows) (more ++ delta)
  still_late t u [] delta is late fresh = subst (λ (rows : List Row). IsLate t (state_after rows) delta) (is ∙ append-nil (world_after system t).rows) fresh
  still_late t u (r ∷ more) delta is late fresh = late

  grow : (t u : ℕ) → t ≤ u → IsGrown t u → IsGrown t (suc u)
  grow t u less grown =
      elim (is_or_not (is_idle_book (world_after system u).book)) [
        | inl idle ↦ record { more = grown.more; rows = ap (λ (w : World). w.rows) (idle_next system u idle) ∙ grown.rows; late = grown.late }
        | inr busy ↦
            let tick = is_tick granted next goes system u accepted busy in
            let delta = (tick.plain ++ tick.starts) ++ tick.rest in
            let time = busy_time u busy in
            record {
              more = grown.more ++ delta;
              rows =
                  tick.next ∙ append_assoc (world_after system u).rows (tick.plain ++ tick.starts) tick.rest ∙ ap (λ (rows : List Row). rows ++ delta) grown.rows
                  ∙ append_assoc (world_after system t).rows grown.more delta;
              late = still_late t u grown.more delta grown.rows grown.late (tick_late t u tick (omega (arith, time, less)));
            }
      ]

  grown_none : (t u : ℕ) → t ≡ u → IsGrown t u
  grown_none t u is = subst (IsGrown t) is (record { more = []; rows = sym (append-nil (world_after system t).rows); late = tt })

  grown_to : (t u : ℕ) → t ≤ u → IsGrown t u
  grown_to t zero less = grown_none t zero (same_tick t zero less (omega arith))
  grown_to t (suc u) less =
      elim (cases_lt t (suc u)) [
        | inl below ↦ grow t u (omega (arith, below)) (grown_to t u (omega (arith, below)))
        | inr past ↦ grown_none t (suc u) (same_tick t (suc u) less past)
      ]

  fits : (t : ℕ) → AreFit system.image.quantum (world_after system t).book.time first_state (world_after system t).rows
  fits t = let w = world_after system t in all_fit system.image.quantum w.book.time first_state w.rows (fit system t accepted)

  pub state_told : (t later : ℕ) → t ≤ later → state_before t (world_after system later).rows ≡ state_after (world_after system t).rows
  state_told t later less =
      let w = world_after system t in
      let grown = grown_to t later less in
      ap (state_before t) grown.rows ∙ all_earlier system.image.quantum w.book.time t grown.more w.rows first_state (fits t) (time_most t)
      ∙ late_stops t (state_after w.rows) grown.more grown.late

  starter_after : (t : ℕ) (rest : List Row) → starter t ((world_after system t).rows ++ rest) ≡ starter t rest
  starter_after t rest = let w = world_after system t in all_start_not system.image.quantum w.book.time t rest w.rows first_state (fits t) (time_most t)

  begins_told : (t later : ℕ) (tick : IsTick system t) (turn : Turn) → t < later → (world_after system t).book.time ≡ t → tick.starts ≡ row.Run (world_after system t).book.time turn.slot turn.env ∷ []
      → starter t (world_after system later).rows ≡ Some turn.env
  begins_told t later tick turn less time is =
      let w = world_after system t in
      let grown = grown_to (suc t) later (omega (arith, less)) in
      let rest = tick.rest ++ grown.more in
      let all : (world_after system later).rows ≡ w.rows ++ (tick.plain ++ (tick.starts ++ rest)) = grown.rows ∙ ap (λ (rows : List Row). rows ++ grown.more) tick.next ∙ five w.rows tick.plain tick.starts tick.rest grown.more in
      ap (starter t) all ∙ starter_after t (tick.plain ++ (tick.starts ++ rest)) ∙ plain_start_not w.book.time t tick.plain (tick.starts ++ rest) tick.are
      ∙ ap (λ (xs : List Row). starter t (xs ++ rest)) is
      ∙ ap (λ (b : Bool). option_or (if b then Some turn.env else None) (starter t rest)) (eq-eqb w.book.time t time)

  busy_told : LedgerTells → (t later : ℕ) (tick : IsTick system t) → t < later → (world_after system t).book.time ≡ t → (starts : List Row) → tick.starts ≡ starts → IsTurned (world_after system t) (at_step system t) starts
      → runner_in t (world_after system later).rows ≡ running (at_step system t).book.runner
  busy_told tells t later tick less time starts is (Runs_on r was runs none) =
      let rows = (world_after system later).rows in
      let runner = ap (λ (s : LedgerState). s.runner) (state_told t later (omega (arith, less))) ∙ (tells system t accepted).runner ∙ ap running was in
      ap (λ (o : Option ℕ). option_or o (starter t rows)) runner ∙ sym runs
  busy_told tells t later tick less time starts is (Begins turn free runs one) =
      let rows = (world_after system later).rows in
      let runner = ap (λ (s : LedgerState). s.runner) (state_told t later (omega (arith, less))) ∙ (tells system t accepted).runner ∙ ap running free in
      ap (λ (o : Option ℕ). option_or o (starter t rows)) runner ∙ begins_told t later tick turn less time (is ∙ one) ∙ sym runs

  idle_told : LedgerTells → (t later : ℕ) → t < later → is_idle_book (world_after system t).book ≡ true → runner_in t (world_after system later).rows ≡ running (at_step system t).book.runner
  idle_told tells t later less idle =
      let w = world_after system t in
      let rows = (world_after system later).rows in
      let runner = ap (λ (s : LedgerState). s.runner) (state_told t later (omega (arith, less))) ∙ (tells system t accepted).runner ∙ ap running (idle_runner w idle) in
      let same : rows ≡ w.rows ++ [] = ap (λ (v : World). v.rows) (idle_stays system t later idle (omega (arith, less))) ∙ sym (append-nil w.rows) in
      ap (λ (o : Option ℕ). option_or o (starter t rows)) runner ∙ ap (starter t) same ∙ starter_after t [] ∙ sym (idle_step system t idle)

  pub runner_told : LedgerTells → (t later : ℕ) → t < later → runner_in t (world_after system later).rows ≡ running (at_step system t).book.runner
  runner_told tells t later less =
      elim (is_or_not (is_idle_book (world_after system t).book)) [
        | inl idle ↦ idle_told tells t later less idle
        | inr busy ↦
            let tick = is_tick granted next goes system t accepted busy in
            busy_told tells t later tick less (busy_time t busy) tick.starts refl tick.kind
      ]

pub states_told : GrantedMay → NextIs → TurnsGoByRule → TimeIsTick → RowsFit → StatesAreTold
states_told granted next goes timed fit system t later accepted less = state_told granted next goes timed fit system accepted t later less

pub runners_told : GrantedMay → NextIs → TurnsGoByRule → TimeIsTick → RowsFit → LedgerTells → RunnersAreTold
runners_told granted next goes timed fit tells system t later accepted less = runner_told granted next goes timed fit system accepted tells t later less
