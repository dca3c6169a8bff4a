-- Turns and the timer.
use Rattle.std.proofs.Common.{arith, refl, ◌<◌, ◌≤◌, ◌+◌, ◌-◌, ◌%◌, ◌≡◌, ℕ, zero, suc, List, [], ◌∷◌, ◌++◌, map, Bool, true, false, Option, None, Some}
use Rattle.std.specs.Prelude.{◌==◌, nat_lt, if◌then◌else◌}
use Rattle.std.specs.List.{AllByRecursion}
use Rattle.std.proofs.Math.Nat.{mod-lt}
use Rattle.std.proofs.lemmas.Bool.{cond_both, lt-ltb, ltb-false}
use Rattle.aegis_limits.specs.Limits.{excess_limit}
use Rattle.world_model.specs.declared.hold.Hold.{Hold}
use Rattle.world_model.specs.declared.slot.Phase.{Phase}
use Rattle.world_model.specs.declared.slot.Phase.TheVariants as phase
use Rattle.world_model.specs.declared.slot.Runner.{Runner}
use Rattle.world_model.specs.declared.slot.Turn.{Turn}
use Rattle.world_model.specs.declared.timer.Timer.{Timer}
use Rattle.world_model.specs.declared.timer.Timer.TheVariants as answer
use Rattle.world_model.specs.Book.{WholeTurn, excess_after_forfeit, first_turn, owed, pays_first, turn_from, turn_or, turn_within, whole_turn}
use Rattle.world_model.specs.Death.{death, released_row, released_rows}
use Rattle.world_model.specs.Book.{has_part, hold_without}
use Rattle.world_model.specs.Item.{Killed}
use Rattle.world_model.specs.SlotCalls.{slot_row}
use Rattle.world_model.specs.Table.{set_at}
use Rattle.world_model.specs.Tick.{count_when, grace_of, handles_end, owes_more, pay_row, take_turn, timer, timer_reply, turn, turn_when}
use Rattle.world_model.specs.Timer.{timer_at_end}
use Rattle.world_model.specs.World.{World, after, tells}
use Rattle.report_law.proofs.Bounded.{AllSmall, IsHeld, IsHoldBelow, IsRowOf, IsRunnerBelow, Keeps, all_append, core, set_each, slot_small, without_below}

-- turns
abbrev IsTurn : ℕ → ℕ → Turn → Type 0
IsTurn n count t = (t.slot < count) × (t.env < n)

abbrev IfTurn : ℕ → ℕ → Option Turn → Type 0
IfTurn n count None = Unit {0}
IfTurn n count (Some t) = IsTurn n count t

record IsToldWithin (n count : ℕ) (told : WholeTurn) : Type 0 where
  pays : AllByRecursion (IsTurn n count) told.pays
  runs : IfTurn n count told.runs
  cursor : told.cursor < count
  excess : (e : ℕ) → told.excess e ≤ excess_limit

or_within : (n count slot : ℕ) (hold : Option Hold) (later : Option Turn) → slot < count → IsHoldBelow n hold → IfTurn n count later → IfTurn n count (turn_or slot hold later)
or_within n count slot None later there below rest = rest
or_within n count slot (Some hold) later there (owner, holder) rest = (there, holder)

first_within : (n : ℕ) (slots : ℕ → Option Hold) (count place tries : ℕ) → 0 < count → ((k : ℕ) → IsHoldBelow n (slots k)) → IfTurn n count (first_turn slots count place tries)
first_within n slots count place zero some below = tt
first_within n slots count place (suc tries) some below =
    let next = (place + 1) % count in
    or_within n count next (slots next) (first_turn slots count next tries) (mod-lt (place + 1) some) (below next) (first_within n slots count next tries some below)

lowered : (e : ℕ) (excess : ℕ → ℕ) → ((i : ℕ) → excess i ≤ excess_limit) → (i : ℕ) → excess_after_forfeit e excess i ≤ excess_limit
lowered e excess each i = set_each (λ (x : ℕ). x ≤ excess_limit) e (excess e - 1) excess (omega (arith, each e)) each i

within_at : (n count : ℕ) (rest : ℕ → (ℕ → ℕ) → WholeTurn) → ((cursor : ℕ) (excess : ℕ → ℕ) → cursor < count → ((i : ℕ) → excess i ≤ excess_limit) → IsToldWithin n count (rest cursor excess))
    → (cursor : ℕ) (excess : ℕ → ℕ) (next : Option Turn) → cursor < count → ((i : ℕ) → excess i ≤ excess_limit) → IfTurn n count next → IsToldWithin n count (turn_within rest cursor excess next)
within_at n count rest each cursor excess None there few is = record { pays = tt; runs = tt; cursor = there; excess = few }
within_at n count rest each cursor excess (Some t) there few is =
    cond_both (excess t.env == 0) (record { pays = []; runs = Some t; excess = excess; cursor = t.slot }) (pays_first t (rest t.slot (excess_after_forfeit t.env excess)))
    (IsToldWithin n count)
    (λ free. record { pays = tt; runs = is; cursor = is.0; excess = few })
    (λ owing.
    let more = each t.slot (excess_after_forfeit t.env excess) is.0 (lowered t.env excess few) in
    record { pays = (is, more.pays); runs = more.runs; cursor = more.cursor; excess = more.excess })

turn_told : (n : ℕ) (slots : ℕ → Option Hold) (count tries cursor : ℕ) (excess : ℕ → ℕ) → ((k : ℕ) → IsHoldBelow n (slots k)) → cursor < count → ((i : ℕ) → excess i ≤ excess_limit)
    → IsToldWithin n count (turn_from slots count tries cursor excess)
turn_told n slots count zero cursor excess below there few = record { pays = tt; runs = tt; cursor = there; excess = few }
turn_told n slots count (suc tries) cursor excess below there few =
    within_at n count (turn_from slots count tries) (λ c x inside small. turn_told n slots count tries c x below inside small) cursor excess (first_turn slots count cursor count) there few
    (first_within n slots count cursor count (omega (arith, there)) below)

pays_small : (t n : ℕ) (w : World) (pays : List Turn) → IsHeld t n (core w.book) → AllByRecursion (IsTurn n w.book.slot_count) pays → AllSmall n (map (pay_row w.book.time) pays)
pays_small t n w [] held all = tt
pays_small t n w (p ∷ pays) held ((place, who), all) =
    ((λ at. record { numbers = (at, (omega (arith, place, held.slot_count), (omega (arith, who, held.few), tt))); paired = refl }, lt-ltb p.env n who), pays_small t n w pays held all)

taken : (t : ℕ) (w : World) (told : WholeTurn) → IsHeld t w.count (core w.book) → IsToldWithin w.count w.book.slot_count told → (o : Option Turn) → IfTurn w.count w.book.slot_count o → Keeps t w.count (take_turn w told o)
taken t w told held within None is = record { held = held; rows = tt }
taken t w told held within (Some x) (place, who) = record {
  held = record {
    few = held.few;
    time = held.time;
    soon = held.soon;
    pages = held.pages;
    quantum = held.quantum;
    slot_count = held.slot_count;
    cursor = within.cursor;
    slots = held.slots;
    runner = who;
    excess = within.excess;
    backups = held.backups;
  };
  rows = all_append (IsRowOf w.count) (map (pay_row w.book.time) told.pays) _ (pays_small t w.count w told.pays held within.pays)
      ((λ at. record { numbers = (at, (omega (arith, place, held.slot_count), (omega (arith, who, held.few), tt))); paired = refl }, lt-ltb x.env w.count who), tt);
}

pub turn_bounded : (t : ℕ) (w : World) → IsHeld t w.count (core w.book) → Keeps t w.count (turn w)
turn_bounded t w held = by_runner w.book.runner
  where
    told : IsToldWithin w.count w.book.slot_count (whole_turn w.book)
    told = turn_told w.count w.book.slots w.book.slot_count (suc (owed w.book.excess w.book.slots w.book.slot_count)) w.book.cursor w.book.excess held.slots held.cursor held.excess

    by_runner : (o : Option Runner) → Keeps t w.count (turn_when w o)
    by_runner (Some r) = record { held = held; rows = tt }
    by_runner None = taken t w (whole_turn w.book) held told (whole_turn w.book).runs told.runs

-- deaths
released_small : (n t e : ℕ) (slots : ℕ → Option Hold) (count : ℕ) → n ≤ 32 → count ≤ 64 → ((k : ℕ) → IsHoldBelow n (slots k)) → AllSmall n (released_rows t e slots count)
released_small n t e slots zero few most below = tt
released_small n t e slots (suc k) few most below =
    all_append (IsRowOf n) (released_rows t e slots k) (released_row t e k (slots k)) (released_small n t e slots k few (omega (arith, most)) below)
    (cond_both (has_part e (slots k)) (slot_row t k (hold_without e (slots k)) ∷ []) [] (AllSmall n)
    (λ part. (slot_small n t k (hold_without e (slots k)) few (omega (arith, most)) (without_below n e (slots k) (below k)), tt)) (λ none. tt))

-- an environment that owes more than it may is the one that dies
pub death_bounded : (t : ℕ) (w : World) (e : ℕ) (excess : ℕ → ℕ) → IsHeld t w.count (record (core w.book) { excess = excess }) → ((i : ℕ) → set_at e 0 w.book.excess i ≤ excess_limit) → e < w.count
    → Keeps t w.count (death w e)
death_bounded t w e excess held few there = record {
  held = record {
    few = held.few;
    time = held.time;
    soon = held.soon;
    pages = held.pages;
    quantum = held.quantum;
    slot_count = held.slot_count;
    cursor = held.cursor;
    slots = λ k. without_below w.count e (w.book.slots k) (held.slots k);
    runner = tt;
    excess = few;
    backups = λ i. set_each (AllByRecursion (λ (page : ℕ). page < w.book.page_count)) e [] w.book.backups tt held.backups i;
  };
  rows = ((λ at. record { numbers = (at, (omega (arith, held.cursor, held.slot_count), (omega (arith, there, held.few), tt))); paired = refl }, lt-ltb e w.count there), released_small w.count w.book.time e w.book.slots w.book.slot_count held.few held.slot_count held.slots);
}

-- the timer
module _ (t : ℕ) (w : World) (r : Runner) (held : IsHeld t w.count (core w.book)) (there : r.env < w.count) where
  abbrev more : ℕ → ℕ
  more = set_at r.env (w.book.excess r.env + 1) w.book.excess

  with_held : (runner : Option Runner) (excess : ℕ → ℕ) → IsRunnerBelow w.count runner → ((i : ℕ) → excess i ≤ excess_limit) → IsHeld t w.count (record (core w.book) { runner = runner; excess = excess })
  with_held runner excess below few = record {
    few = held.few;
    time = held.time;
    soon = held.soon;
    pages = held.pages;
    quantum = held.quantum;
    slot_count = held.slot_count;
    cursor = held.cursor;
    slots = held.slots;
    runner = below;
    excess = few;
    backups = held.backups;
  }

  place : w.book.cursor ≤ 63
  place = omega (arith, held.cursor, held.slot_count)

  who : r.env ≤ 31
  who = omega (arith, there, held.few)

  named : nat_lt r.env w.count ≡ true
  named = lt-ltb r.env w.count there

  owed_more : w.book.excess r.env + 1 ≤ 9
  owed_more = omega (arith, held.excess r.env)

  buried : (i : ℕ) → set_at r.env 0 more i ≤ excess_limit
  buried i = by_test (i == r.env)
    where
      by_test : (b : Bool) → (if b then 0 else (if b then w.book.excess r.env + 1 else w.book.excess i)) ≤ excess_limit
      by_test true = omega arith
      by_test false = held.excess i

  killed : Keeps t w.count (timer_reply r answer.Kill w)
  killed =
      let v = after (after w (owes_more r.env w)) (tells r.env Killed (after w (owes_more r.env w))) in
      let dies = death_bounded t v r.env w.book.excess held buried there in
      record { held = dies.held; rows = ((λ at. record { numbers = (at, (place, (who, (owed_more, tt)))); paired = refl }, named), all_append (IsRowOf w.count) ((death v r.env).rows ++ []) [] (all_append (IsRowOf w.count) (death v r.env).rows [] dies.rows tt) tt) }

  overs : (excess : ℕ) → w.book.excess r.env + 1 ≤ excess_limit → Keeps t w.count (timer_reply r (answer.Over excess) w)
  overs excess small = record {
    held = with_held (Some (grace_of w r.env)) more there (λ i. set_each (λ (x : ℕ). x ≤ excess_limit) r.env (w.book.excess r.env + 1) w.book.excess small held.excess i);
    rows = ((λ at. record { numbers = (at, (place, (who, (owed_more, tt)))); paired = refl }, named), tt);
  }

  ends : (has : Bool) → (p : Phase) → Keeps t w.count (timer_reply r (timer_at_end p has (w.book.excess r.env)) w)
  ends true phase.Own = record { held = with_held (Some (grace_of w r.env)) w.book.excess there held.excess; rows = ((λ at. record { numbers = (at, (place, (who, tt))); paired = refl }, named), tt) }
  ends false phase.Own = record { held = with_held None w.book.excess tt held.excess; rows = ((λ at. record { numbers = (at, (place, (who, tt))); paired = refl }, named), tt) }
  ends has phase.Grace =
      cond_both (nat_lt excess_limit (w.book.excess r.env + 1)) answer.Kill (answer.Over (w.book.excess r.env + 1)) (λ (a : Timer). Keeps t w.count (timer_reply r a w))
      (λ many. killed) (λ few. overs (w.book.excess r.env + 1) (ltb-false excess_limit (w.book.excess r.env + 1) few))

  count_bounded : Keeps t w.count (count_when (Some r) w)
  count_bounded =
      cond_both (r.left == 1) (timer_at_end r.phase (handles_end w r.env) (w.book.excess r.env)) answer.Nothing (λ (a : Timer). Keeps t w.count (timer_reply r a w))
      (λ last. ends (handles_end w r.env) r.phase)
      (λ later. record { held = with_held (Some (record r { left = r.left - 1 })) w.book.excess there held.excess; rows = tt })

counted : (t : ℕ) (w : World) → IsHeld t w.count (core w.book) → (o : Option Runner) → IsRunnerBelow w.count o → Keeps t w.count (count_when o w)
counted t w held None below = record { held = held; rows = tt }
counted t w held (Some r) below = count_bounded t w r held below

pub timer_bounded : (t : ℕ) (w : World) → t + 1 ≤ 4194304 → IsHeld t w.count (core w.book) → Keeps (t + 1) w.count (timer w)
timer_bounded t w soon held =
    let keeps = counted t w held w.book.runner held.runner in
    let h = keeps.held in
    record {
      held = record {
        few = h.few;
        time = omega (arith, h.time);
        soon = soon;
        pages = h.pages;
        quantum = h.quantum;
        slot_count = h.slot_count;
        cursor = h.cursor;
        slots = h.slots;
        runner = h.runner;
        excess = h.excess;
        backups = h.backups;
      };
      rows = all_append (IsRowOf w.count) (count_when w.book.runner w).rows [] keeps.rows tt;
    }
