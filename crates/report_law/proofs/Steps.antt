-- The step of the runner, with its call or its death.
use Rattle.std.proofs.Common.{arith, refl, sym, subst, ◌≡◌, ◌<◌, ◌≤◌, ◌+◌, ◌*◌, ℕ, List, [], ◌∷◌, true, ◌&&◌, Option, None, Some}
use Rattle.std.specs.Prelude.{◌==◌, is_none, nat_lt, not}
use Rattle.std.specs.Option.{option_map}
use Rattle.std.proofs.lemmas.Bool.{and_from, and_parts, cond_both, lt-ltb, ltb-true}
use Rattle.aegis_limits.specs.Limits.{excess_limit}
use Rattle.env_frames.specs.declared.transfer.TransferKind.TheVariants as kind
use Rattle.revocation_book.specs.Backups.{loaded, unloaded}
use Rattle.world_model.specs.declared.call.Deed.{Deed}
use Rattle.world_model.specs.declared.call.Deed.TheVariants.{Answers, Own, Stops, Gives, Allocates, Frees, Recaps, Binds, Unbinds, Transfers, TakesSlot, DropsSlot, TakesLine, DropsLine, Claims, Unclaims, Downloads, Loads}
use Rattle.world_model.specs.declared.hold.Hold.{Hold}
use Rattle.world_model.specs.declared.slot.Runner.{Runner}
use Rattle.world_model.specs.declared.verdict.Verdict.{Verdict}
use Rattle.world_model.specs.declared.verdict.Verdict.TheVariants.{Refuse, Again, Grant}
use Rattle.world_model.specs.Book.{own_hold}
use Rattle.world_model.specs.Item.{Step, deed_at}
use Rattle.world_model.specs.May.{May}
use Rattle.world_model.specs.SlotCalls.{dropped, handed, held_by, is_other, slot_row, turn_slot}
use Rattle.world_model.specs.Solo.{is_dead}
use Rattle.world_model.specs.Step.{Act, Nothing, Stores, Calls, Raises, Dies}
use Rattle.world_model.specs.Table.{set_at}
use Rattle.world_model.specs.Tick.{act_now, act_reply, step, step_when}
use Rattle.world_model.specs.Verdict.{asks_one, done, reply_by_verdict, verdict}
use Rattle.world_model.specs.World.{World, Reply, after, no_change, tells}
use Rattle.world_model.specs.Death.{death}
use Rattle.world_model.specs.Event.{revokes}
use Rattle.call_verdicts.specs.Granted.{GrantedMay}
use Rattle.run_model.proofs.Phases.{in_turn_is_each}
use Rattle.run_model.proofs.Telling.{deed_may, told_named}
use Rattle.report_law.proofs.Bounded.{AllSmall, ArePages, IsBounded, IsHeld, IsHoldBelow, IsRunnerBelow, Keeps, after_bounded, all_append, all_filter, core, dropped_below, handed_runner, handed_slot, revokes_bounded, set_each, slot_small}
use Rattle.report_law.proofs.Turns.{death_bounded}

there_other : (w : World) (e target : ℕ) → is_other w e target ≡ true → target < w.count
there_other w e target is = ltb-true target w.count (and_parts (nat_lt target w.count) (not (is_dead (w.solos target).life) && not (target == e)) is).0

module _ (t : ℕ) (w : World) (e : ℕ) (held : IsHeld t w.count (core w.book)) (there : e < w.count) where
  place : w.book.cursor ≤ 63
  place = omega (arith, held.cursor, held.slot_count)

  who : e ≤ 31
  who = omega (arith, there, held.few)

  named : nat_lt e w.count ≡ true
  named = lt-ltb e w.count there

  both_named : (target : ℕ) → target < w.count → nat_lt e w.count && nat_lt target w.count ≡ true
  both_named target other = and_from (nat_lt e w.count) (nat_lt target w.count) named (lt-ltb target w.count other)

  same : (r : Reply) → core r.book ≡ core w.book → r.rows ≡ [] → Keeps t w.count r
  same r is none = record { held = subst (IsHeld t w.count) (sym is) held; rows = subst (AllSmall w.count) (sym none) tt }

  with_runs : (slots : ℕ → Option Hold) (runner : Option Runner) → ((k : ℕ) → IsHoldBelow w.count (slots k)) → IsRunnerBelow w.count runner → IsHeld t w.count (record (core w.book) { slots = slots; runner = runner })
  with_runs slots runner holds runs = record {
    few = held.few;
    time = held.time;
    soon = held.soon;
    pages = held.pages;
    quantum = held.quantum;
    slot_count = held.slot_count;
    cursor = held.cursor;
    slots = holds;
    runner = runs;
    excess = held.excess;
    backups = held.backups;
  }

  with_backups : (backups : ℕ → List ℕ) → ((i : ℕ) → ArePages w.book.page_count (backups i)) → IsHeld t w.count (record (core w.book) { backups = backups })
  with_backups backups are = record {
    few = held.few;
    time = held.time;
    soon = held.soon;
    pages = held.pages;
    quantum = held.quantum;
    slot_count = held.slot_count;
    cursor = held.cursor;
    slots = held.slots;
    runner = held.runner;
    excess = held.excess;
    backups = are;
  }

  in_slot : (target : ℕ) → target < w.count → (k : ℕ) → IsHoldBelow w.count (set_at w.book.cursor (option_map (held_by target) (turn_slot w.book)) w.book.slots k)
  in_slot target other k =
      set_each (IsHoldBelow w.count) w.book.cursor (option_map (held_by target) (turn_slot w.book)) w.book.slots (handed_slot w.count target (turn_slot w.book) other (held.slots w.book.cursor)) held.slots k

  changed : (k : ℕ) (hold : Option Hold) → k < w.book.slot_count → IsHoldBelow w.count hold
      → Keeps t w.count (record { book = record w.book { slots = set_at k hold w.book.slots }; items = λ i. []; rows = slot_row w.book.time k hold ∷ [] })
  changed k hold inside below = record {
    held = with_runs (set_at k hold w.book.slots) w.book.runner (λ i. set_each (IsHoldBelow w.count) k hold w.book.slots below held.slots i) held.runner;
    rows = (slot_small w.count w.book.time k hold held.few (omega (arith, inside, held.slot_count)) below, tt);
  }

  deed_bounded : (d : Deed) → May w e d → Keeps t w.count (done w e d)
  deed_bounded Answers may = same (done w e Answers) refl refl
  deed_bounded (Own own) may = same (done w e (Own own)) refl refl
  deed_bounded Stops may = record { held = with_runs w.book.slots None held.slots tt; rows = ((λ at. record { numbers = (at, (place, (who, tt))); paired = refl }, named), tt) }
  deed_bounded (Gives target) may =
      let other = there_other w e target may.other in
      record { held = with_runs w.book.slots (handed target w.book.runner) held.slots (handed_runner w.count target w.book.runner other); rows = ((λ at. record { numbers = (at, (place, (who, (omega (arith, other, held.few), tt)))); paired = refl }, both_named target other), tt) }
  deed_bounded (Allocates page words) may = same (done w e (Allocates page words)) refl refl
  deed_bounded (Frees page) may = record {
    held = with_backups (set_at e (unloaded page (w.book.backups e)) w.book.backups)
        (λ i. set_each (ArePages w.book.page_count) e (unloaded page (w.book.backups e)) w.book.backups (all_filter (λ (p : ℕ). p < w.book.page_count) _ (w.book.backups e) (held.backups e)) held.backups i);
    rows = tt;
  }
  deed_bounded (Recaps page words) may = same (done w e (Recaps page words)) refl refl
  deed_bounded (Binds binding word) may = same (done w e (Binds binding word)) refl refl
  deed_bounded (Unbinds vpn) may = same (done w e (Unbinds vpn)) refl refl
  deed_bounded (Transfers target kind.Asynchronous) may =
      let other = there_other w e target may.reach.other in
      record { held = with_runs w.book.slots (handed target w.book.runner) held.slots (handed_runner w.count target w.book.runner other); rows = ((λ at. record { numbers = (at, (place, (who, (omega (arith, other, held.few), tt)))); paired = refl }, both_named target other), tt) }
  deed_bounded (Transfers target kind.Synchronous) may =
      let other = there_other w e target may.reach.other in
      record {
        held = with_runs _ (handed target w.book.runner) (in_slot target other) (handed_runner w.count target w.book.runner other);
        rows = (
          (λ at. record { numbers = (at, (place, (who, (omega (arith, other, held.few), tt)))); paired = refl }, both_named target other),
          (
            slot_small w.count w.book.time w.book.cursor (option_map (held_by target) (turn_slot w.book)) held.few (omega (arith, held.cursor, held.slot_count))
                (handed_slot w.count target (turn_slot w.book) other (held.slots w.book.cursor)),
            tt,
          ),
        );
      }
  deed_bounded (TakesSlot k) may =
      let c = changed k (Some (own_hold e)) may.there (there, there) in record { held = c.held; rows = c.rows }
  deed_bounded (DropsSlot k) may =
      let c = changed k (dropped e (w.book.slots k)) may.there (dropped_below w.count e (w.book.slots k) (held.slots k)) in record { held = c.held; rows = c.rows }
  deed_bounded (TakesLine line) may = same (done w e (TakesLine line)) refl refl
  deed_bounded (DropsLine line) may = same (done w e (DropsLine line)) refl refl
  deed_bounded (Claims claim address atoms page) may = same (done w e (Claims claim address atoms page)) refl refl
  deed_bounded (Unclaims claim) may = same (done w e (Unclaims claim)) refl refl
  deed_bounded (Downloads claim address words) may = same (done w e (Downloads claim address words)) refl refl
  deed_bounded (Loads page) may = record {
    held = with_backups (set_at e (loaded page (w.book.backups e)) w.book.backups)
        (λ i. set_each (ArePages w.book.page_count) e (loaded page (w.book.backups e)) w.book.backups
        (all_append (λ (p : ℕ). p < w.book.page_count) (w.book.backups e) (page ∷ []) (held.backups e) (may.own.there, tt)) held.backups i);
    rows = tt;
  }

  asking : (who : ℕ) → Keeps t w.count (asks_one who w)
  asking who =
      let until = w.book.time + 2 * w.book.quantum in
      cond_both (is_none (w.book.pending who)) (revokes who 1 until w) (no_change w) (Keeps t w.count)
      (λ nothing. revokes_bounded t w who 1 until held (omega (arith, held.time, held.soon, held.quantum))) (λ pending. record { held = held; rows = tt })

  verdict_bounded : (v : Verdict) → ((value : ℕ) → v ≡ Grant value → May w e (deed_at (w.solos e) value)) → Keeps t w.count (reply_by_verdict w e v)
  verdict_bounded (Refuse code value) may = record { held = held; rows = tt }
  verdict_bounded (Again who) may = let a = asking who in record { held = a.held; rows = a.rows }
  verdict_bounded (Grant value) may = let d = deed_bounded (deed_at (w.solos e) value) (may value refl) in record { held = d.held; rows = d.rows }

  dies : Keeps t w.count (death w e)
  dies = death_bounded t w e w.book.excess held (λ i. set_each (λ (x : ℕ). x ≤ excess_limit) e 0 w.book.excess (omega arith) held.excess i) there

pub act_bounded : GrantedMay → (t : ℕ) (w : World) (e : ℕ) → IsHeld t w.count (core w.book) → e < w.count → (act : Act) → act_now w e ≡ act
    → (let v = after w (tells e Step w) in Keeps t w.count (act_reply e act v))
act_bounded granted t w e held there Nothing acts = record { held = held; rows = tt }
act_bounded granted t w e held there (Stores x) acts = record { held = held; rows = tt }
act_bounded granted t w e held there (Calls call) acts =
    let v = after w (tells e Step w) in
    verdict_bounded t v e held there (verdict v e call) (deed_may granted v e call (told_named w e call acts))
act_bounded granted t w e held there (Raises exc) acts = record { held = held; rows = tt }
act_bounded granted t w e held there (Dies cause) acts = dies t (after w (tells e Step w)) e held there

pub step_bounded : GrantedMay → (t : ℕ) (w : World) → IsBounded t w → IsBounded t (after w (step w))
step_bounded granted t w bounded = by_runner w.book.runner bounded.held.runner
  where
    by_runner : (o : Option Runner) → IsRunnerBelow w.count o → IsBounded t (after w (step_when w o))
    by_runner None below = after_bounded t w (no_change w) bounded (record { held = bounded.held; rows = tt })
    by_runner (Some r) below =
        let v = after w (tells r.env Step w) in
        let act = act_now w r.env in
        subst (IsBounded t) (sym (in_turn_is_each w (tells r.env Step ∷ act_reply r.env act ∷ [])))
        (after_bounded t v (act_reply r.env act v) (after_bounded t w (tells r.env Step w) bounded (record { held = bounded.held; rows = tt })) (act_bounded granted t w r.env bounded.held below act refl))
