-- The numbers of a world's slots, runner, excess and backups, and of its rows, are within their limits.
use Rattle.std.proofs.Common.{arith, refl, ◌<◌, ◌≤◌, ◌+◌, ℕ, zero, suc, List, [], ◌∷◌, ◌++◌, ◌≡◌, Bool, true, take, drop, Option, None, Some}
use Rattle.std.specs.Prelude.{◌==◌, filter, min, nat_lt, if◌then◌else◌}
use Rattle.std.specs.List.{AllByRecursion}
use Rattle.std.specs.Option.{option_map}
use Rattle.std.proofs.lemmas.Bool.{and_from, and_parts, cond_both, lt-ltb, ltb-true}
use Rattle.aegis_limits.specs.Limits.{excess_limit, most_environments, most_pages, most_quantum, most_slots, most_run_ticks}
use Rattle.kernel_journal.specs.declared.row.Row.{Row}
use Rattle.revocation_book.specs.declared.revocation.Pending.{Pending}
use Rattle.revocation_book.specs.Pending.{asked, most_outstanding, outstanding_in}
use Rattle.world_model.specs.declared.hold.Hold.{Hold}
use Rattle.world_model.specs.declared.slot.Runner.{Runner}
use Rattle.world_model.specs.Book.{Book, hold_without, own_hold}
use Rattle.world_model.specs.Event.{asks, revokes}
use Rattle.world_model.specs.SlotCalls.{dropped, handed, held_by, slot_row}
use Rattle.world_model.specs.Table.{set_at}
use Rattle.world_model.specs.World.{World, Reply, after, is_living, no_change}
use Rattle.ledger_text.specs.Limits.{most_number}
use Rattle.ledger_audit.specs.StrictRules.{are_there}
use Rattle.report_law.proofs.Rows.{IsSmall}

-- a row's numbers are within their limits, and it names none but so many environments
abbrev pub IsRowOf : ℕ → Row → Type 0
IsRowOf n r = IsSmall r × (are_there n r ≡ true)

abbrev pub AllSmall : ℕ → List Row → Type 0
AllSmall n rows = AllByRecursion (IsRowOf n) rows

-- what of a book bounds the numbers of rows
pub record Core : Type 0 where
  pub page_count : ℕ
  pub quantum : ℕ
  pub slot_count : ℕ
  pub cursor : ℕ
  pub slots : ℕ → Option Hold
  pub runner : Option Runner
  pub excess : ℕ → ℕ
  pub backups : ℕ → List ℕ
  pub time : ℕ

abbrev pub core : Book → Core
core b = record {
  page_count = b.page_count;
  quantum = b.quantum;
  slot_count = b.slot_count;
  cursor = b.cursor;
  slots = b.slots;
  runner = b.runner;
  excess = b.excess;
  backups = b.backups;
  time = b.time;
}

abbrev pub IsHoldBelow : ℕ → Option Hold → Type 0
IsHoldBelow n None = Unit {0}
IsHoldBelow n (Some hold) = (hold.owner < n) × (hold.holder < n)

abbrev pub IsRunnerBelow : ℕ → Option Runner → Type 0
IsRunnerBelow n None = Unit {0}
IsRunnerBelow n (Some r) = r.env < n

abbrev pub ArePages : ℕ → List ℕ → Type 0
ArePages count pages = AllByRecursion (λ (page : ℕ). page < count) pages

-- in a tick up to this one, with so many environments
pub record IsHeld (t n : ℕ) (c : Core) : Type 0 where
  pub few : n ≤ most_environments
  pub time : c.time ≤ t
  pub soon : t ≤ most_run_ticks
  pub pages : c.page_count ≤ most_pages
  pub quantum : c.quantum ≤ most_quantum
  pub slot_count : c.slot_count ≤ most_slots
  pub cursor : c.cursor < c.slot_count
  pub slots : (k : ℕ) → IsHoldBelow n (c.slots k)
  pub runner : IsRunnerBelow n c.runner
  pub excess : (e : ℕ) → c.excess e ≤ excess_limit
  pub backups : (e : ℕ) → ArePages c.page_count (c.backups e)

pub record IsBounded (t : ℕ) (w : World) : Type 0 where
  pub held : IsHeld t w.count (core w.book)
  pub rows : AllSmall w.count w.rows

-- what a reply leaves
pub record Keeps (t n : ℕ) (r : Reply) : Type 0 where
  pub held : IsHeld t n (core r.book)
  pub rows : AllSmall n r.rows

pub all_append : {X : Type 0} (P : X → Type 0) (xs ys : List X) → AllByRecursion P xs → AllByRecursion P ys → AllByRecursion P (xs ++ ys)
all_append P [] ys first second = second
all_append P (x ∷ xs) ys (here, first) second = (here, all_append P xs ys first second)

pub all_take : {X : Type 0} (P : X → Type 0) (k : ℕ) (xs : List X) → AllByRecursion P xs → AllByRecursion P (take k xs)
all_take P zero xs all = tt
all_take P (suc k) [] all = tt
all_take P (suc k) (x ∷ xs) (here, all) = (here, all_take P k xs all)

pub all_drop : {X : Type 0} (P : X → Type 0) (k : ℕ) (xs : List X) → AllByRecursion P xs → AllByRecursion P (drop k xs)
all_drop P zero xs all = all
all_drop P (suc k) [] all = tt
all_drop P (suc k) (x ∷ xs) (here, all) = all_drop P k xs all

pub all_filter : {X : Type 0} (P : X → Type 0) (p : X → Bool) (xs : List X) → AllByRecursion P xs → AllByRecursion P (filter p xs)
all_filter P p [] all = tt
all_filter P p (x ∷ xs) (here, all) =
    let rest = all_filter P p xs all in
    cond_both (p x) (x ∷ filter p xs) (filter p xs) (AllByRecursion P) (λ passes. (here, rest)) (λ fails. rest)

pub after_bounded : (t : ℕ) (w : World) (r : Reply) → IsBounded t w → Keeps t w.count r → IsBounded t (after w r)
after_bounded t w r bounded keeps = record { held = keeps.held; rows = all_append (IsRowOf w.count) w.rows r.rows bounded.rows keeps.rows }

-- a table that is changed at one number
pub set_each : {A : Type 0} (P : A → Type 0) (n : ℕ) (x : A) (f : ℕ → A) → P x → ((i : ℕ) → P (f i)) → (i : ℕ) → P (set_at n x f i)
set_each P n x f here each i = cond_both (i == n) x (f i) P (λ is. here) (λ other. each i)

-- slots
pub slot_small : (n t k : ℕ) (hold : Option Hold) → n ≤ most_environments → k < most_slots → IsHoldBelow n hold → IsRowOf n (slot_row t k hold)
slot_small n t k None few place below = (λ at. record { numbers = (at, (omega (arith, place), (tt, (tt, tt)))); paired = refl }, refl)
slot_small n t k (Some hold) few place (owner, holder) = (
  λ at. record { numbers = (at, (omega (arith, place), (omega (arith, few, owner), (omega (arith, few, holder), tt)))); paired = refl },
  and_from (nat_lt hold.owner n) (nat_lt hold.holder n) (lt-ltb hold.owner n owner) (lt-ltb hold.holder n holder),
)

pub dropped_below : (n e : ℕ) (hold : Option Hold) → IsHoldBelow n hold → IsHoldBelow n (dropped e hold)
dropped_below n e None below = tt
dropped_below n e (Some hold) (owner, holder) = cond_both (hold.owner == e) None (Some (own_hold hold.owner)) (IsHoldBelow n) (λ its. tt) (λ other. (owner, owner))

pub without_below : (n e : ℕ) (hold : Option Hold) → IsHoldBelow n hold → IsHoldBelow n (hold_without e hold)
without_below n e None below = tt
without_below n e (Some hold) (owner, holder) =
    cond_both (hold.owner == e) None (if hold.holder == e then Some (own_hold hold.owner) else Some hold) (IsHoldBelow n) (λ its. tt)
    (λ other. cond_both (hold.holder == e) (Some (own_hold hold.owner)) (Some hold) (IsHoldBelow n) (λ holds. (owner, owner)) (λ not. (owner, holder)))

pub handed_slot : (n e : ℕ) (hold : Option Hold) → e < n → IsHoldBelow n hold → IsHoldBelow n (option_map (held_by e) hold)
handed_slot n e None there below = tt
handed_slot n e (Some hold) there (owner, holder) = (owner, there)

pub handed_runner : (n e : ℕ) (runner : Option Runner) → e < n → IsRunnerBelow n (handed e runner)
handed_runner n e None there = tt
handed_runner n e (Some r) there = there

-- revocations
abbrev pub IsPendingSmall : Option Pending → Type 0
IsPendingSmall None = Unit {0}
IsPendingSmall (Some p) = (p.outstanding ≤ most_number) × (p.deadline ≤ most_number)

asked_small : (count deadline : ℕ) (pending : Option Pending) → deadline ≤ most_number → IsPendingSmall (asked count deadline pending)
asked_small count deadline pending soon =
    let many = min most_outstanding (outstanding_in pending + count) in
    cond_both (many == 0) None (Some (record { outstanding = many; deadline = deadline })) IsPendingSmall (λ none. tt) (λ some. (omega arith, soon))

asks_bounded : (t : ℕ) (w : World) (e : ℕ) (pending : Option Pending) → IsHeld t w.count (core w.book) → e < w.count → IsPendingSmall pending → Keeps t w.count (asks e pending w)
asks_bounded t w e None held there small = record { held = held; rows = tt }
asks_bounded t w e (Some p) held there (many, until) = record { held = held; rows = ((λ at. record { numbers = (at, (omega (arith, there, held.few), (many, (until, tt)))); paired = refl }, lt-ltb e w.count there), tt) }

pub revokes_bounded : (t : ℕ) (w : World) (e count deadline : ℕ) → IsHeld t w.count (core w.book) → deadline ≤ most_number → Keeps t w.count (revokes e count deadline w)
revokes_bounded t w e count deadline held soon =
    cond_both (is_living w e) (asks e (asked count deadline (w.book.pending e)) w) (no_change w) (Keeps t w.count)
    (λ lives. asks_bounded t w e (asked count deadline (w.book.pending e)) held (ltb-true e w.count (and_parts (nat_lt e w.count) _ lives).0) (asked_small count deadline (w.book.pending e) soon))
    (λ gone. record { held = held; rows = tt })
