-- In a tick each page that is taken was asked for, and what is pending after it was told; and so in whole runs.
use Rattle.std.proofs.Common.{arith, ◌≡◌, ◌<◌, ◌≤◌, ◌+◌, ℕ, zero, suc, List, [], ◌∷◌, ◌++◌, map, take, Bool, true, false, Option, None, Some, refl, sym, ◌∙◌, ap, subst}
use Rattle.std.specs.Prelude.{◌==◌, ◌*◌, if◌then◌else◌, slice_get}
use Rattle.std.specs.Option.{option_map}
use Rattle.std.proofs.lemmas.Bool.{cond_both, leb-false, leb-true, true≢false}
use Rattle.external_event.specs.declared.event.Occurrence.{Occurrence}
use Rattle.revocation_book.specs.declared.revocation.Pending.{Pending}
use Rattle.revocation_book.specs.declared.revocation.Taking.{Taking}
use Rattle.revocation_book.specs.Pending.{is_due, unless_due}
use Rattle.world_model.specs.Book.{is_idle_book}
use Rattle.world_model.specs.Deadlines.{copy_left, settles, takes, takings}
use Rattle.world_model.specs.Event.{Schedule, happen}
use Rattle.world_model.specs.Item.{Item, Taken}
use Rattle.world_model.specs.PageCalls.{lost_bindings, revocations}
use Rattle.world_model.specs.Tick.{phases_after, step, tick_phases, timer, turn}
use Rattle.world_model.specs.World.{World, after, in_turn, run_phases}
use Rattle.run_model.specs.Boot.{boot_items, boot_world}
use Rattle.run_model.specs.Run.{System, TimeIsTick, feed, happens_in, items_in, next_phases, takings_next, world_after}
use Rattle.revocation_law.specs.Request.{IsDueNow, PendingIsTold, TakenWasAsked, one_fewer, request_in}
use Rattle.revocation_law.proofs.Booting.{boot_imaged}
use Rattle.revocation_law.proofs.Changes.{Change, Dealt, Ended, Ends, Given, GivesBack, Died, Lapse, Lapsed, Leaves, Pressed, Presses, Stays, step_change, timer_lapses, turn_leaves}
use Rattle.revocation_law.proofs.Fixed.{Pace, happen_pace, later, pace, tick_pace, turn_pace}
use Rattle.revocation_law.proofs.Happening.{Happens, Named, Names, Passed, event_happens}
use Rattle.revocation_law.proofs.Plain.{ArePlain, breaks_plain, copy_left_plain, plain_both}
use Rattle.revocation_law.proofs.Requests.{AreDue, Covers, IsCovered, asks_request, asks_due, covers_lowered, plain_request, plain_due, request_both, request_from, due_at, due_both}
use Rattle.revocation_law.proofs.Serving.{allowed, few_taken, one_if, taken_from}

-- Items with which an environment is told all, in a tick; what is pending after them has a deadline from a time on.
pub record Tells (q tick time : ℕ) (last becomes : Option Pending) (items : List Item) : Type 0 where
  pub due : 0 < q → AreDue tick last items
  pub covers : Covers q time becomes (request_from last items)

then_tells : (q tick time next : ℕ) (last mid becomes : Option Pending) (xs ys : List Item) → Tells q tick time last mid xs
    → (Covers q time mid (request_from last xs) → Tells q tick next (request_from last xs) becomes ys) → Tells q tick next last becomes (xs ++ ys)
then_tells q tick time next last mid becomes xs ys first rest =
    let second = rest first.covers in
    record { due = λ some. due_both tick last xs ys (first.due some) (second.due some); covers = subst (Covers q next becomes) (sym (request_both last xs ys)) second.covers }

nothing_tells : (q tick time : ℕ) (last pending : Option Pending) → Covers q time pending last → Tells q tick time last pending []
nothing_tells q tick time last pending covers = record { due = λ some. tt; covers = covers }

plain_tells : (q tick time : ℕ) (last becomes : Option Pending) (items : List Item) → ArePlain items → Covers q time becomes last → Tells q tick time last becomes items
plain_tells q tick time last becomes items plain covers =
    record { due = λ some. plain_due tick last items plain; covers = subst (Covers q time becomes) (sym (plain_request last items plain)) covers }

module _ (q tick time : ℕ) (w : World) (e : ℕ) (last becomes : Option Pending) (items : List Item) (covers : Covers q time (w.book.pending e) last) where
  pub leaves_tells : Leaves w e becomes items → Tells q tick time last becomes items
  leaves_tells is = plain_tells q tick time last becomes items is.plain (subst (λ (o : Option Pending). Covers q time o last) (sym is.same) covers)

  ends_tells : Ends w e becomes items → Tells q tick time last becomes items
  ends_tells is = plain_tells q tick time last becomes items is.plain (subst (λ (o : Option Pending). Covers q time o last) (sym is.none) tt)

  gives_tells : GivesBack w e becomes items → Tells q tick time last becomes items
  gives_tells is =
      plain_tells q tick time last becomes items is.plain
      (subst (λ (o : Option Pending). Covers q time o last) (sym is.less) (covers_lowered q time (w.book.pending e) last covers))

  presses_tells : w.book.quantum ≡ q → time ≤ w.book.time + 1 → Presses w e becomes items → Tells q tick time last becomes items
  presses_tells same soon is =
      let until = w.book.time + 2 * w.book.quantum in
      record {
        due = λ some. asks_due tick 1 until items is.told last;
        covers = subst (λ (o : Option Pending). Covers q time o (request_from last items)) (sym is.one) (record {
          was = record { pages = 1; its = asks_request 1 until items is.told last; most = omega arith };
          some = omega arith;
          ahead = λ some. omega (arith, same, soon, some);
        });
      }

  change_tells : w.book.quantum ≡ q → time ≤ w.book.time + 1 → Change w e becomes items → Tells q tick time last becomes items
  change_tells same soon (Dealt (Stays is)) = leaves_tells is
  change_tells same soon (Dealt (Given is)) = gives_tells is
  change_tells same soon (Dealt (Pressed is)) = presses_tells same soon is
  change_tells same soon (Ended is) = ends_tells is

  lapse_tells : Lapse w e becomes items → Tells q tick time last becomes items
  lapse_tells (Lapsed is) = leaves_tells is
  lapse_tells (Died is) = ends_tells is

  names_tells : (what : Occurrence) → time ≤ w.book.time → Names what w e becomes items → Tells q tick time last becomes items
  names_tells what early is = record {
    due = λ some. asks_due tick is.p.outstanding is.p.deadline items is.told last;
    covers = subst (λ (o : Option Pending). Covers q time o (request_from last items)) (sym is.its) (record {
      was = record { pages = is.p.outstanding; its = asks_request is.p.outstanding is.p.deadline items is.told last; most = omega arith };
      some = is.some;
      ahead = λ some. omega (arith, early, is.deadline);
    });
  }

  happens_tells : (what : Occurrence) → time ≤ w.book.time → Happens what w e becomes items → Tells q tick time last becomes items
  happens_tells what early (Passed is) = leaves_tells is
  happens_tells what early (Named is) = names_tells what early is

-- While pages are taken: so many are left to take from the environment, and its request has no fewer, with a deadline now.
-- If its deadline hasn't come, none is left to take, and what is pending is covered.
record HasPages (tick : ℕ) (last : Option Pending) (left : ℕ) : Type 0 where
  p : Pending
  its : last ≡ Some p
  most : left ≤ p.outstanding
  now : p.deadline ≡ tick

record Serves (q tick : ℕ) (pending last : Option Pending) (left : ℕ) : Type 0 where
  due : 0 < left → is_due tick pending ≡ true
  gives : 0 < left → 0 < q → HasPages tick last left
  rest : is_due tick pending ≡ false → Covers q tick pending last

serves : (q tick : ℕ) (pending last : Option Pending) (left : ℕ) → left ≤ allowed tick pending → Covers q tick pending last → Serves q tick pending last left
serves q tick None last left few covers = record { due = λ some. absurd (omega (arith, few, some)); gives = λ some quantum. absurd (omega (arith, few, some)); rest = λ not. tt }
serves q tick (Some p) last left few covers = by_test (is_due tick (Some p)) refl few
  where
    by_test : (due : Bool) → is_due tick (Some p) ≡ due → left ≤ (if due then p.outstanding else 0) → Serves q tick (Some p) last left
    by_test true is few = record {
      due = λ some. is;
      gives = λ some quantum. record {
        p = record { outstanding = covers.was.pages; deadline = p.deadline };
        its = covers.was.its;
        most = omega (arith, few, covers.was.most);
        now = omega (arith, leb-true p.deadline tick is, covers.ahead quantum);
      };
      rest = λ not. covers;
    }
    by_test false is few = record { due = λ some. absurd (omega (arith, few, some)); gives = λ some quantum. absurd (omega (arith, few, some)); rest = λ not. covers }

-- one of them is taken
module _ (q tick : ℕ) (pending last : Option Pending) (left : ℕ) (now : Serves q tick pending last (1 + left)) where
  taken_is_due : 0 < q → IsDueNow tick last
  taken_is_due quantum = let has = now.gives (omega arith) quantum in record { p = has.p; its = has.its; some = omega (arith, has.most); now = has.now }

  taken_serves : Serves q tick pending (option_map one_fewer last) left
  taken_serves = record {
    due = λ some. now.due (omega arith);
    gives = λ some quantum.
        let has = now.gives (omega arith) quantum in
        record { p = one_fewer has.p; its = ap (option_map one_fewer) has.its; most = omega (arith, has.most); now = has.now };
    rest = λ not. absurd (true≢false (sym (now.due (omega arith)) ∙ not));
  }

-- what is over then leaves later deadlines alone
settle_covers : (q tick : ℕ) (pending last : Option Pending) → Serves q tick pending last 0 → Covers q (suc tick) (unless_due tick pending) last
settle_covers q tick pending last now =
    cond_both (is_due tick pending) None pending (λ (o : Option Pending). Covers q (suc tick) o last) (λ due. tt) (λ not. ahead pending not (now.rest not))
  where
    ahead : (o : Option Pending) → is_due tick o ≡ false → Covers q tick o last → Covers q (suc tick) o last
    ahead None not covers = tt
    ahead (Some p) not covers = record { was = covers.was; some = covers.some; ahead = λ quantum. omega (arith, leb-false p.deadline tick not) }

module _ (q tick e : ℕ) where
  -- what a tick tells from its takings on, if these are left
  abbrev TellsIn : World → List Taking → Option Pending → Type 0
  TellsIn w xs last = Tells q tick (suc tick) last ((run_phases w (tick_phases xs)).book.pending e) ((in_turn (tick_phases xs) w).items e)

  settled_tells : (w : World) (last : Option Pending) → pace w.book ≡ (tick, q) → Serves q tick (w.book.pending e) last 0 → TellsIn w [] last
  settled_tells w last is now =
      let s = after w (settles w) in
      let t = after s (turn s) in
      let u = after t (step t) in
      let v = after u (timer u) in
      let settled : Covers q (suc tick) (s.book.pending e) last =
      subst (λ (n : ℕ). Covers q (suc tick) (unless_due n (w.book.pending e)) last) (sym (ap (λ (p : Pace). p.0) is)) (settle_covers q tick (w.book.pending e) last now) in
      let stepping : pace t.book ≡ (tick, q) = turn_pace s ∙ is in
      let quantum : t.book.quantum ≡ q = ap (λ (p : Pace). p.1) stepping in
      let time : t.book.time ≡ tick = ap (λ (p : Pace). p.0) stepping in
      then_tells q tick (suc tick) (suc tick) last (t.book.pending e) (v.book.pending e) ((turn s).items e) ((step t).items e ++ ((timer u).items e ++ []))
      (leaves_tells q tick (suc tick) s e last (t.book.pending e) ((turn s).items e) settled (turn_leaves s e s.book.runner))
      (λ turned.
      let behind_turn = request_from last ((turn s).items e) in
      then_tells q tick (suc tick) (suc tick) behind_turn (u.book.pending e) (v.book.pending e) ((step t).items e) ((timer u).items e ++ [])
      (change_tells q tick (suc tick) t e behind_turn (u.book.pending e) ((step t).items e) turned quantum (omega (arith, time)) (step_change t e t.book.runner refl))
      (λ stepped.
      let behind_step = request_from behind_turn ((step t).items e) in
      then_tells q tick (suc tick) (suc tick) behind_step (v.book.pending e) (v.book.pending e) ((timer u).items e) []
      (lapse_tells q tick (suc tick) u e behind_step (v.book.pending e) ((timer u).items e) stepped (timer_lapses u e))
      (λ timed. nothing_tells q tick (suc tick) (request_from behind_step ((timer u).items e)) (v.book.pending e) timed)))

  taking_tells : (w : World) (x : Taking) (last becomes : Option Pending) (rest : List Item) (left : ℕ)
      → ((now : Option Pending) → Serves q tick (w.book.pending e) now left → Tells q tick (suc tick) now becomes rest)
      → (mine : Bool) → Serves q tick (w.book.pending e) last (one_if mine + left)
      → Tells q tick (suc tick) last becomes ((if mine then Taken x.page x.backup ∷ [] else copy_left w x x.backup e ++ lost_bindings w.book x.page e) ++ rest)
  taking_tells w x last becomes rest left goes_on true now =
      let next = goes_on (option_map one_fewer last) (taken_serves q tick (w.book.pending e) last left now) in
      record { due = λ some. (taken_is_due q tick (w.book.pending e) last left now some, next.due some); covers = next.covers }
  taking_tells w x last becomes rest left goes_on false now =
      let items = copy_left w x x.backup e ++ lost_bindings w.book x.page e in
      let plain = plain_both (copy_left w x x.backup e) (lost_bindings w.book x.page e) (copy_left_plain w x x.backup e) (breaks_plain w.book x.page e) in
      let same : request_from last items ≡ last = plain_request last items plain in
      let as_many : 0 + left ≡ left = omega arith in
      let next = goes_on last (subst (Serves q tick (w.book.pending e) last) as_many now) in
      record {
        due = λ some. due_both tick last items rest (plain_due tick last items plain) (subst (λ (o : Option Pending). AreDue tick o rest) (sym same) (next.due some));
        covers = subst (Covers q (suc tick) becomes) (sym (request_both last items rest ∙ ap (λ (o : Option Pending). request_from o rest) same)) next.covers;
      }

  serve_tells : (xs : List Taking) (w : World) (last : Option Pending) → pace w.book ≡ (tick, q) → Serves q tick (w.book.pending e) last (taken_from e xs) → TellsIn w xs last
  serve_tells [] w last is now = settled_tells w last is now
  serve_tells (x ∷ xs) w last is now =
      let v = after w (takes x w) in
      taking_tells w x last ((run_phases v (tick_phases xs)).book.pending e) ((in_turn (tick_phases xs) v).items e) (taken_from e xs)
      (λ later served. serve_tells xs v later is served) (e == x.env) now

  pub tick_tells : (happens : List Occurrence) (xs : List Taking) (w : World) (last : Option Pending) → pace w.book ≡ (tick, q) → xs ≡ takings (run_phases w (map happen happens))
      → Covers q tick (w.book.pending e) last
      → Tells q tick (suc tick) last ((run_phases w (phases_after happens xs)).book.pending e) ((in_turn (phases_after happens xs) w).items e)
  tick_tells [] xs w last is all covers =
      let few : taken_from e xs ≤ allowed tick (w.book.pending e) =
      subst (λ (ys : List Taking). taken_from e ys ≤ allowed tick (w.book.pending e)) (sym all)
      (subst (λ (n : ℕ). taken_from e (takings w) ≤ allowed n (w.book.pending e)) (ap (λ (p : Pace). p.0) is) (few_taken (revocations w.book) w.book.time e w.count)) in
      serve_tells xs w last is (serves q tick (w.book.pending e) last (taken_from e xs) few covers)
  tick_tells (what ∷ happens) xs w last is all covers =
      let r = happen what w in
      let v = after w r in
      let early : tick ≤ w.book.time = (let time = ap (λ (p : Pace). p.0) is in omega (arith, time)) in
      then_tells q tick tick (suc tick) last (r.book.pending e) ((run_phases v (phases_after happens xs)).book.pending e) (r.items e) ((in_turn (phases_after happens xs) v).items e)
      (happens_tells q tick tick w e last (r.book.pending e) (r.items e) covers what early (event_happens what w e))
      (λ now. tick_tells happens xs v (request_from last (r.items e)) (happen_pace what w ∙ is) all now)

-- Whole runs.
pub record IsTold (q e : ℕ) (w : World) (last : Option Pending) : Type 0 where
  pub quantum : w.book.quantum ≡ q
  pub covers : Covers q w.book.time (w.book.pending e) last

in_pace : (w : World) (q : ℕ) → w.book.quantum ≡ q → pace w.book ≡ (w.book.time, q)
in_pace w q same = ap (λ (n : ℕ). (w.book.time, n)) same

module _ (q e : ℕ) (schedule : Schedule) (w : World) (last : Option Pending) (told : IsTold q e w last) where
  pub next_tells : Tells q w.book.time (suc w.book.time) last ((run_phases w (next_phases schedule w)).book.pending e) ((in_turn (next_phases schedule w) w).items e)
  next_tells = tick_tells q w.book.time e (happens_in schedule w) (takings_next schedule w) w last (in_pace w q told.quantum) refl told.covers

  next_told : (idle : Bool) → (let phases = next_phases schedule w in IsTold q e (if idle then w else run_phases w phases) (request_from last (if idle then [] else (in_turn phases w).items e)))
  next_told true = told
  next_told false =
      let v = run_phases w (next_phases schedule w) in
      let after_tick : pace v.book ≡ later (pace w.book) = tick_pace (happens_in schedule w) (takings_next schedule w) w in
      let time : suc w.book.time ≡ v.book.time = (let is = ap (λ (p : Pace). p.0) after_tick in omega (arith, is)) in
      record {
        quantum = ap (λ (p : Pace). p.1) after_tick ∙ told.quantum;
        covers = subst (λ (n : ℕ). Covers q n (v.book.pending e) (request_from last ((in_turn (next_phases schedule w) w).items e))) time next_tells.covers;
      }

pub run_told : (system : System) (e t : ℕ) → IsTold system.image.quantum e (world_after system t) (request_in (feed system e t))
run_told system e zero =
    let imaged = boot_imaged system.image in
    let w = boot_world system.image in
    record {
      quantum = imaged.quantum;
      covers = subst (λ (o : Option Pending). Covers system.image.quantum w.book.time o (request_in (boot_items system.image e))) (sym (ap (λ (f : ℕ → Option Pending). f e) imaged.pending)) tt;
    }
run_told system e (suc t) =
    let w = world_after system t in
    let last = request_in (feed system e t) in
    subst (IsTold system.image.quantum e (world_after system (suc t))) (sym (request_both None (feed system e t) (items_in system t e)))
    (next_told system.image.quantum e system.schedule w last (run_told system e t) (is_idle_book w.book))

pub pending_is_told : PendingIsTold
pending_is_told system t e p is =
    let w = world_after system t in
    let covers : IsCovered system.image.quantum w.book.time p (request_in (feed system e t)) =
    subst (λ (o : Option Pending). Covers system.image.quantum w.book.time o (request_in (feed system e t))) is (run_told system e t).covers in
    covers.was

module _ (system : System) (t e : ℕ) where
  abbrev before : World
  before = world_after system t

  abbrev given : List Item
  given = (in_turn (next_phases system.schedule before) before).items e

  taken_at : TimeIsTick → 0 < system.image.quantum → (n page : ℕ) (backup : Option ℕ) (idle : Bool) → is_idle_book before.book ≡ idle
      → slice_get (if idle then [] else given) n ≡ Some (Taken page backup) → IsDueNow t (request_in (feed system e t ++ take n (if idle then [] else given)))
  taken_at times quantum n page backup true idle is = cc
  taken_at times quantum n page backup false busy is =
      let last = request_in (feed system e t) in
      let tells = next_tells system.image.quantum e system.schedule before last (run_told system e t) in
      let time : before.book.time ≡ t = times system.schedule (boot_world system.image) t (boot_imaged system.image).time busy in
      let here : IsDueNow before.book.time (request_from last (take n given)) = due_at before.book.time last given n page backup (tells.due quantum) is in
      subst (λ (o : Option Pending). IsDueNow t o) (sym (request_both None (feed system e t) (take n given)))
      (subst (λ (k : ℕ). IsDueNow k (request_from last (take n given))) time here)

pub taken_was_asked : TimeIsTick → TakenWasAsked
taken_was_asked times system t e n page backup quantum is = taken_at system t e times quantum n page backup (is_idle_book (world_after system t).book) refl is
