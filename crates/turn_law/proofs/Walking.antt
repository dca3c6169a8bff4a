-- From row to row: until an environment makes a step, its turn stays before the bound.
use Rattle.std.proofs.Common.{arith, refl, sym, ◌∙◌, ap, subst, ◌≡◌, ◌<◌, ◌≤◌, ◌+◌, ◌-◌, ◌⊎◌, inl, inr, ℕ, List, [], ◌∷◌, Bool, true, false, ◌&&◌, Option, None, Some}
use Rattle.std.specs.Prelude.{◌==◌, ◌||◌, not, nat_lt, if◌then◌else◌, unwrap_or}
use Rattle.std.specs.Option.{option_or}
use Rattle.std.proofs.lemmas.Bool.{and_parts, cases_eq, cases_lt, eq-eqb, eqb-true, le-ltb, lt-ltb, ltb-true, ne_eqb, not-true}
use Rattle.aegis_limits.specs.Limits.{excess_limit, most_slots}
use Rattle.kernel_journal.specs.declared.row.Row.{Row}
use Rattle.kernel_journal.specs.declared.row.Row.TheVariants as row
use Rattle.kernel_journal.specs.RowTable.{time_of}
use Rattle.world_model.specs.declared.hold.Hold.{Hold}
use Rattle.world_model.specs.declared.slot.Phase.{Phase}
use Rattle.world_model.specs.declared.slot.Phase.TheVariants as phase
use Rattle.world_model.specs.SlotCalls.{holds, in_grace}
use Rattle.ledger_audit.specs.LedgerState.{LedgerState, after_row, excess_in, limit_in, more_if}
use Rattle.ledger_audit.specs.RowRules.{is_behind, is_change, is_first, is_fit_by_kind, is_gift, is_judged, is_next, is_own_row, is_runners, same_number}
use Rattle.turn_law.specs.Ticks.{starter, starts_by, state_before, state_until}
use Rattle.turn_law.specs.TurnLaw.{HoldsSlot, StepsBetween, longest_turn}
use Rattle.turn_law.proofs.Amounts.{quanta, rounds, rounds_more, rounds_most, turns}
use Rattle.turn_law.proofs.Distance.{distance, far_around, far_within, nearer}
use Rattle.turn_law.proofs.Keeping.{AreBefore, IsSound, more_least, over_low, owes_less}
use Rattle.turn_law.proofs.Lateness.{IsSoon, far, grace_begins, grace_goes_on, grace_latest, grace_limit, latest, latest_by, own_latest, own_limit, row_in_slice, some_far, soon_early, soon_less, soon_turn}
use Rattle.turn_law.proofs.Rules.{IsGift, IsTimely, IsTurn, gift_of, not_passed, phase_grace, phase_own, runs_of, same_holder, turn_of}

-- What the whole ledger says of a tick is what the rows that are left do.
pub record IsLeft (all : List Row) (u : ℕ) (s : LedgerState) (rows : List Row) : Type 0 where
  pub state : state_before u all ≡ state_until u s rows
  pub starts : starter u all ≡ starter u rows

-- where nobody runs: what the tick of the next turn began with
pub record IsMarked (all : List Row) (turn : ℕ) (slots : ℕ → Option Hold) (rows : List Row) : Type 0 where
  pub vector : (state_before turn all).slots ≡ slots
  pub nobody : (state_before turn all).runner ≡ None
  pub starts : starter turn all ≡ starter turn rows

-- an environment was given the slice in this tick
pub record IsFresh (t now : ℕ) (p : Phase) (time grace : ℕ) : Type 0 where
  pub new : in_grace p ≡ true → time ≤ grace
  pub now_is : now ≡ time + 1
  pub since : t ≤ time

-- Between rows that fit, in the ticks from t on: `now` is the first tick that no row has reached.
pub record IsWaiting (all : List Row) (q count slot e t before now : ℕ) (s : LedgerState) (rows : List Row) : Type 0 where
  pub soon : IsSoon q before (latest q s + turns q (far count slot e s))
  pub left : (u : ℕ) → now ≤ u → IsLeft all u s rows
  pub idle : s.runner ≡ None → t ≤ s.turn → s.turn < now → IsMarked all s.turn s.slots rows
  pub mine : s.runner ≡ Some e → IsFresh t now s.phase s.time s.grace_start

-- the next row, which isn't one of the boot
pub record IsReached (t now : ℕ) (s : LedgerState) (r : Row) : Type 0 where
  pub later : (is_own_row r && s.at_boot) ≡ false
  pub since : t ≤ time_of r
  pub reaches : now ≤ time_of r + 1

-- a row of a tick isn't earlier than that tick or those before it, and is earlier than those after it
pub not_earlier : (u : ℕ) (s : LedgerState) (r : Row) (rows : List Row) → (is_own_row r && s.at_boot) ≡ false → u ≤ time_of r → state_until u s (r ∷ rows) ≡ s
not_earlier u s r rows later less =
    ap (λ (b : Bool). if (if b then true else nat_lt (time_of r) u) then state_until u (after_row r s) rows else s) later
    ∙ ap (λ (b : Bool). if b then state_until u (after_row r s) rows else s) (le-ltb (time_of r) u less)

pub earlier : (u : ℕ) (s : LedgerState) (r : Row) (rows : List Row) → (is_own_row r && s.at_boot) ≡ false → time_of r < u
    → state_until u s (r ∷ rows) ≡ state_until u (after_row r s) rows
earlier u s r rows later less =
    ap (λ (b : Bool). if (if b then true else nat_lt (time_of r) u) then state_until u (after_row r s) rows else s) later
    ∙ ap (λ (b : Bool). if b then state_until u (after_row r s) rows else s) (lt-ltb (time_of r) u less)

pub starts_not : (u : ℕ) (r : Row) → time_of r < u → starts_by u r ≡ None
starts_not u (row.Run t slot who) less = let differs : t ≡ u → ⊥ = λ (same : t ≡ u). omega (arith, same, less) in ap (λ (b : Bool). if b then Some who else None) (ne_eqb t u differs)
starts_not u r less = refl

pub left_next : (all : List Row) (u : ℕ) (s : LedgerState) (r : Row) (rows : List Row) → (is_own_row r && s.at_boot) ≡ false → time_of r < u → IsLeft all u s (r ∷ rows)
    → IsLeft all u (after_row r s) rows
left_next all u s r rows later less left = record {
  state = left.state ∙ earlier u s r rows later less;
  starts = left.starts ∙ ap (λ (o : Option ℕ). option_or o (starter u rows)) (starts_not u r less);
}

-- the rows that are due where nobody runs are those of a tick before the turn
due_time : (t slot : ℕ) (owner holder : Option ℕ) (turn : ℕ) (due : List Row) → AreBefore turn due → is_first due (row.Own t slot owner holder) ≡ true → t < turn
due_time t slot owner holder turn [] before is = cc
due_time t slot owner holder turn (row.Own u k a b ∷ due) before is =
    let same : u ≡ t = eqb-true u t (and_parts (u == t) ((k == slot) && (same_number a owner && same_number b holder)) is).0 in
    omega (arith, same, before.0)
due_time t slot owner holder turn (r ∷ due) before is = cc

only_first : (x y : Bool) → (x || y) ≡ true → y ≡ false → x ≡ true
only_first true y is none = refl
only_first false y is none = sym none ∙ is

own_time : (q : ℕ) (s : LedgerState) (t slot : ℕ) (owner holder : Option ℕ) (rows : List Row) → s.at_boot ≡ false → s.runner ≡ None → AreBefore s.turn s.due
    → is_fit_by_kind q s (row.Own t slot owner holder) rows ≡ true → t < s.turn
own_time q s t slot owner holder rows boot nobody before fits =
    let r = row.Own t slot owner holder in
    let change = is_change s s.runner t slot r in
    let behind = is_behind s.last_slot slot && same_number owner holder in
    let either : (is_first s.due r || change) ≡ true = sym (ap (λ (b : Bool). if b then behind else is_first s.due r || change) boot) ∙ fits in
    let none : change ≡ false = ap (λ (o : Option ℕ). is_change s o t slot r) nobody in
    due_time t slot owner holder s.turn s.due before (only_first (is_first s.due r) change either none)

idle_latest : (q : ℕ) (o : Option ℕ) (p : Phase) (slice grace turn : ℕ) (excess : ℕ → ℕ) → o ≡ None → latest_by q o p slice grace turn excess ≡ turn
idle_latest q None p slice grace turn excess is = refl
idle_latest q (Some who) p slice grace turn excess is = cc

pay_one : (b : Bool) (overs pays : ℕ) → 0 < (if b then 0 else overs - pays) → (if b then 0 else overs - (pays + 1)) + 1 ≡ (if b then 0 else overs - pays)
pay_one true overs pays some = absurd (omega (arith, some))
pay_one false overs pays some = omega (arith, some)

over_one : (b : Bool) (overs pays : ℕ) → b ≡ false → pays ≤ overs → (if b then 0 else overs + 1 - pays) ≡ (if b then 0 else overs - pays) + 1
over_one true overs pays lives paid = cc
over_one false overs pays lives paid = omega (arith, paid)

dead_less : (b gone : Bool) (owed : ℕ) → (if unwrap_or (if b then Some true else None) gone then 0 else owed) ≤ (if gone then 0 else owed)
dead_less true gone owed = omega arith
dead_less false true owed = omega arith
dead_less false false owed = omega arith

not_none : (o : Option ℕ) (who : ℕ) (P : Type 0) → o ≡ Some who → o ≡ None → P
not_none o who P is none = let never : None ≡ Some who = sym none ∙ is in cc

module _ (all : List Row) (q end count slot e t before now : ℕ) (s : LedgerState) (some : 1 ≤ q) (there : slot < count) (few : count ≤ most_slots)
    (holding : (u : ℕ) → t ≤ u → u < before → HoldsSlot all count slot e u) where
  abbrev Waits : List Row → Type 0
  Waits rows = IsWaiting all q count slot e t before now s rows

  abbrev Next : Row → List Row → Type 0
  Next r rows = StepsBetween all e t before ⊎ IsWaiting all q count slot e t before (time_of r + 1) (after_row r s) rows

  pub early : (rows : List Row) → Waits rows → latest q s < before
  early rows waits = soon_early q before (latest q s) (far count slot e s) (some_far count slot e s there) waits.soon

  -- it still runs as the next tick begins
  overtaken : (r : Row) (rows : List Row) → Waits (r ∷ rows) → IsSound s (r ∷ rows) → IsReached t now s r → IsTimely q end s r → s.runner ≡ Some e → s.time < time_of r → StepsBetween all e t before
  overtaken r rows waits sound reached time runs later =
      let fresh = waits.mine runs in
      let left = waits.left (s.time + 1) (omega (arith, fresh.now_is)) in
      let state = left.state ∙ not_earlier (s.time + 1) s r rows reached.later (omega (arith, later)) in
      let last = row_in_slice q s r rows e some sound runs (time.limit e runs) in
      let soon = early (r ∷ rows) waits in
      record {
        tick = s.time + 1;
        since = omega (arith, fresh.since);
        until = omega (arith, last, soon, later);
        runs = ap (λ (u : LedgerState). option_or u.runner (starter (s.time + 1) all)) state ∙ ap (λ (o : Option ℕ). option_or o (starter (s.time + 1) all)) runs;
      }

  on_time : (r : Row) (rows : List Row) → Waits (r ∷ rows) → IsSound s (r ∷ rows) → IsReached t now s r → IsTimely q end s r
      → StepsBetween all e t before ⊎ (s.runner ≡ Some e → time_of r ≡ s.time)
  on_time r rows waits sound reached time = by_time (cases_lt s.time (time_of r)) (runs_or s.runner refl)
    where
      runs_or : (o : Option ℕ) → s.runner ≡ o → (s.runner ≡ Some e) ⊎ (s.runner ≡ Some e → ⊥)
      runs_or None is = inr (λ runs. not_none s.runner e ⊥ runs is)
      runs_or (Some who) is =
          elim (cases_eq who e) [
            | inl same ↦ inl (is ∙ ap (λ (n : ℕ). Some n) same)
            | inr other ↦ inr (λ (runs : s.runner ≡ Some e). let both : Some who ≡ Some e = sym is ∙ runs in let same : who ≡ e = cc in other same)
          ]

      by_time : ((s.time < time_of r) ⊎ (time_of r ≤ s.time)) → ((s.runner ≡ Some e) ⊎ (s.runner ≡ Some e → ⊥)) → StepsBetween all e t before ⊎ (s.runner ≡ Some e → time_of r ≡ s.time)
      by_time (inl later) (inl runs) = inl (overtaken r rows waits sound reached time runs later)
      by_time (inr past) (inl runs) = inr (λ also. omega (arith, past, time.rises))
      by_time either (inr other) = inr (λ runs. absurd (other runs))

  left_after : (r : Row) (rows : List Row) → Waits (r ∷ rows) → IsReached t now s r → (u : ℕ) → time_of r + 1 ≤ u → IsLeft all u (after_row r s) rows
  left_after r rows waits reached u less = left_next all u s r rows reached.later (omega (arith, less)) (waits.left u (omega (arith, less, reached.reaches)))

  -- what the tick of the turn began with, once a row has reached it
  mark : (r : Row) (rows : List Row) → Waits (r ∷ rows) → IsReached t now s r → s.runner ≡ None → t ≤ s.turn → s.turn ≤ time_of r → IsMarked all s.turn s.slots (r ∷ rows)
  mark r rows waits reached nobody since less =
      elim (cases_lt s.turn now) [
        | inl past ↦ waits.idle nobody since past
        | inr ahead ↦
            let left = waits.left s.turn ahead in
            let state = left.state ∙ not_earlier s.turn s r rows reached.later less in
            record { vector = ap (λ (u : LedgerState). u.slots) state; nobody = ap (λ (u : LedgerState). u.runner) state ∙ nobody; starts = left.starts }
      ]

  past_mark : (r : Row) (rows : List Row) → starts_by s.turn r ≡ None → Waits (r ∷ rows) → IsReached t now s r → s.runner ≡ None → t ≤ s.turn → s.turn ≤ time_of r → IsMarked all s.turn s.slots rows
  past_mark r rows none waits reached nobody since less =
      let marked = mark r rows waits reached nobody since less in
      record { vector = marked.vector; nobody = marked.nobody; starts = marked.starts ∙ ap (λ (o : Option ℕ). option_or o (starter s.turn rows)) none }

  fresh_stays : (r : Row) (rows : List Row) → Waits (r ∷ rows) → (s.runner ≡ Some e → time_of r ≡ s.time) → s.runner ≡ Some e → IsFresh t (time_of r + 1) s.phase (time_of r) s.grace_start
  fresh_stays r rows waits on runs =
      let fresh = waits.mine runs in
      let same = on runs in
      record { new = λ grace. omega (arith, fresh.new grace, same); now_is = refl; since = omega (arith, fresh.since, same) }

  -- A turn: the slot is held, and is the turn's, or nearer after it.
  record IsHeld (r : Row) (rows : List Row) (k who : ℕ) : Type 0 where
    marked : IsMarked all s.turn s.slots (r ∷ rows)
    since : t ≤ s.turn
    until : s.turn < before
    late : latest q s ≡ s.turn
    near : ((k ≡ slot) × (who ≡ e)) ⊎ ((k ≡ slot → ⊥) × (distance slot count k + 1 ≤ distance slot count s.cursor))

  slot_below : (k who : ℕ) → ((j : ℕ) → count ≤ j → s.slots j ≡ None) → holds who (s.slots k) ≡ true → k < count
  slot_below k who beyond held =
      elim (cases_lt k count) [
        | inl below ↦ below
        | inr past ↦ let never : false ≡ true = sym (ap (holds who) (beyond k past)) ∙ held in cc
      ]

  is_held : (r : Row) (rows : List Row) (k who : ℕ) → Waits (r ∷ rows) → IsReached t now s r → IsTurn s (time_of r) k who → IsHeld r rows k who
  is_held r rows k who waits reached turn =
      let late = idle_latest q s.runner s.phase s.slice_start s.grace_start s.turn (excess_in s) turn.nobody in
      let since : t ≤ s.turn = omega (arith, turn.now, reached.since) in
      let soon = early (r ∷ rows) waits in
      let until : s.turn < before = omega (arith, late, soon) in
      let marked = mark r rows waits reached turn.nobody since (omega (arith, turn.now)) in
      let holding = holding s.turn since until in
      let held : holds e (s.slots slot) ≡ true = ap (λ (f : ℕ → Option Hold). holds e (f slot)) (sym marked.vector) ∙ holding.held in
      let beyond : (j : ℕ) → count ≤ j → s.slots j ≡ None = λ j past. ap (λ (f : ℕ → Option Hold). f j) (sym marked.vector) ∙ holding.beyond j past in
      record { marked = marked; since = since; until = until; late = late; near = by_slot held beyond }
    where
      by_slot : holds e (s.slots slot) ≡ true → ((j : ℕ) → count ≤ j → s.slots j ≡ None)
          → ((k ≡ slot) × (who ≡ e)) ⊎ ((k ≡ slot → ⊥) × (distance slot count k + 1 ≤ distance slot count s.cursor))
      by_slot held beyond =
          elim (cases_eq k slot) [
            | inl same ↦ inl (same, same_holder who e (s.slots slot) (ap (λ (n : ℕ). holds who (s.slots n)) (sym same) ∙ turn.held) held)
            | inr other ↦
                inr (other, nearer slot count s.cursor k there (slot_below k who beyond turn.held) other (not_passed s k slot e (omega (arith, there, few)) turn.passed held))
          ]

  run_row : (time k who : ℕ) (rows : List Row) → (let r = row.Run time k who in Waits (r ∷ rows) → IsReached t now s r → is_fit_by_kind q s r rows ≡ true → Next r rows)
  run_row time k who rows waits reached fits = by_runner (cases_eq who e)
    where
      turn : IsTurn s time k who
      turn = turn_of s time k who (and_parts (is_next s time k who) (excess_in s who == 0) fits).0

      held : IsHeld (row.Run time k who) rows k who
      held = is_held (row.Run time k who) rows k who waits reached turn

      by_runner : ((who ≡ e) ⊎ (who ≡ e → ⊥)) → Next (row.Run time k who) rows
      by_runner (inl same) =
          inl (record {
            tick = s.turn;
            since = held.since;
            until = held.until;
            runs =
                ap (λ (o : Option ℕ). option_or o (starter s.turn all)) held.marked.nobody ∙ held.marked.starts
                ∙ ap (λ (b : Bool). option_or (if b then Some who else None) (starter s.turn rows)) (eq-eqb time s.turn turn.now) ∙ ap (λ (n : ℕ). Some n) same;
          })
      by_runner (inr other) =
          inr (record {
            soon = soon_turn q before (latest q s) (time + longest_turn q) (far count slot e s) (distance slot count k + rounds count (excess_in s e)) (omega (arith, held.late, turn.now)) (nearer_far held.near) waits.soon;
            left = left_after (row.Run time k who) rows waits reached;
            idle = λ nobody since past. cc;
            mine = λ (runs : Some who ≡ Some e). let same : who ≡ e = cc in absurd (other same);
          })
        where
          nearer_far : ((k ≡ slot) × (who ≡ e)) ⊎ ((k ≡ slot → ⊥) × (distance slot count k + 1 ≤ distance slot count s.cursor))
              → distance slot count k + rounds count (excess_in s e) + 1 ≤ far count slot e s
          nearer_far (inl (here, same)) = absurd (other same)
          nearer_far (inr (elsewhere, near)) = omega (arith, near)

  pay_row : (time k who : ℕ) (rows : List Row) → (let r = row.Pay time k who in Waits (r ∷ rows) → IsReached t now s r → is_fit_by_kind q s r rows ≡ true → Next r rows)
  pay_row time k who rows waits reached fits =
      inr (record {
        soon = soon_turn q before (latest q s) (latest q (after_row (row.Pay time k who) s)) (far count slot e s) (far count slot e (after_row (row.Pay time k who) s)) (omega (arith, held.late, late)) (nearer_far held.near) waits.soon;
        left = left_after (row.Pay time k who) rows waits reached;
        idle = λ nobody since past. past_mark (row.Pay time k who) rows refl waits reached nobody since (omega (arith, past));
        mine = λ runs. not_none s.runner e (IsFresh t (time + 1) s.phase time s.grace_start) runs turn.nobody;
      })
    where
      turn : IsTurn s time k who
      turn = turn_of s time k who (and_parts (is_next s time k who) (nat_lt 0 (excess_in s who)) fits).0

      owing : 0 < excess_in s who
      owing = ltb-true 0 (excess_in s who) (and_parts (is_next s time k who) (nat_lt 0 (excess_in s who)) fits).1

      held : IsHeld (row.Pay time k who) rows k who
      held = is_held (row.Pay time k who) rows k who waits reached turn

      late : latest q (after_row (row.Pay time k who) s) ≡ s.turn
      late = idle_latest q s.runner s.phase s.slice_start s.grace_start s.turn (excess_in (after_row (row.Pay time k who) s)) turn.nobody

      nearer_far : ((k ≡ slot) × (who ≡ e)) ⊎ ((k ≡ slot → ⊥) × (distance slot count k + 1 ≤ distance slot count s.cursor))
          → far count slot e (after_row (row.Pay time k who) s) + 1 ≤ far count slot e s
      nearer_far (inl (here, same)) =
          let around : distance slot count k ≡ count = ap (distance slot count) here ∙ far_around slot count there in
          let owed : 0 < excess_in s e = subst (λ (n : ℕ). 0 < excess_in s n) same owing in
          let counts : excess_in (after_row (row.Pay time k who) s) e ≡ (if s.dead e then 0 else s.overs e - (s.pays e + 1)) = ap (λ (b : Bool). if s.dead e then 0 else s.overs e - more_if b (s.pays e)) (eq-eqb who e same) in
          let one : excess_in (after_row (row.Pay time k who) s) e + 1 ≡ excess_in s e = ap (λ (n : ℕ). n + 1) counts ∙ pay_one (s.dead e) (s.overs e) (s.pays e) owed in
          let more = rounds_more count (excess_in (after_row (row.Pay time k who) s) e) in
          let all : rounds count (excess_in (after_row (row.Pay time k who) s) e + 1) ≡ rounds count (excess_in s e) = ap (rounds count) one in
          let least = (far_within slot count s.cursor there).0 in
          omega (arith, around, more, all, least)
      nearer_far (inr (elsewhere, near)) =
          let less : excess_in (after_row (row.Pay time k who) s) e ≤ excess_in s e = owes_less q s (s.dead e) (s.overs e) (s.pays e) (more_if (who == e) (s.pays e)) (more_least q s (who == e) (s.pays e)) in
          let most = rounds_most count (excess_in (after_row (row.Pay time k who) s) e) (excess_in s e) less in
          omega (arith, near, most)

  -- a slice that is handed on
  gift_soon : (r : Row) (rows : List Row) (from to : ℕ) → IsGift s from to → Waits (r ∷ rows)
      → IsSoon q before (latest_by q (Some to) s.phase s.slice_start s.grace_start s.turn (excess_in s) + turns q (far count slot e s))
  gift_soon r rows from to gift waits =
      let given = own_latest q (Some to) s.phase s.slice_start s.grace_start s.turn (excess_in s) to refl gift.own in
      let had = own_latest q s.runner s.phase s.slice_start s.grace_start s.turn (excess_in s) from gift.runs gift.own in
      soon_less q before (latest q s) (latest_by q (Some to) s.phase s.slice_start s.grace_start s.turn (excess_in s)) (far count slot e s) (far count slot e s) (omega (arith, given, had)) (omega arith) waits.soon

  gift_fresh : (r : Row) (from to : ℕ) → IsGift s from to → IsReached t now s r → IsFresh t (time_of r + 1) s.phase (time_of r) s.grace_start
  gift_fresh r from to gift reached = record { new = λ grace. let never : false ≡ true = sym (ap in_grace gift.own) ∙ grace in cc; now_is = refl; since = reached.since }

  -- a runner that is stopped
  stop_soon : (r : Row) (rows : List Row) (who owed : ℕ) → Waits (r ∷ rows) → IsSound s (r ∷ rows) → IsTimely q end s r → s.runner ≡ Some who → owed ≤ excess_in s e
      → IsSoon q before (time_of r + 1 + turns q (distance slot count s.cursor + rounds count owed))
  stop_soon r rows who owed waits sound time runs less =
      let most = rounds_most count owed (excess_in s e) less in
      soon_less q before (latest q s) (time_of r + 1) (far count slot e s) (distance slot count s.cursor + rounds count owed) (row_in_slice q s r rows who some sound runs (time.limit who runs)) (omega (arith, most)) waits.soon

  end_row : (time k who : ℕ) (rows : List Row) → (let r = row.End time k who in Waits (r ∷ rows) → IsReached t now s r → is_fit_by_kind q s r rows ≡ true → Next r rows)
  end_row time k who rows waits reached fits =
      inr (record {
        soon = soon_less q before (latest q s) (latest q (after_row (row.End time k who) s)) (far count slot e s) (far count slot e s) (omega (arith, grace, own, begins)) (omega arith) waits.soon;
        left = left_after (row.End time k who) rows waits reached;
        idle = λ nobody since past. not_none s.runner who (IsMarked all s.turn s.slots rows) runs nobody;
        mine = λ mine. record { new = λ grace. omega arith; now_is = refl; since = reached.since };
      })
    where
      runs : s.runner ≡ Some who
      runs = runs_of s k who (and_parts (is_runners s k who) (not (in_grace s.phase) && (time == limit_in q s)) fits).0

      phased : (not (in_grace s.phase) ≡ true) × ((time == limit_in q s) ≡ true)
      phased = and_parts (not (in_grace s.phase)) (time == limit_in q s) (and_parts (is_runners s k who) (not (in_grace s.phase) && (time == limit_in q s)) fits).1

      in_own : s.phase ≡ phase.Own
      in_own = phase_own s.phase (not-true (in_grace s.phase) phased.0)

      last : time ≡ s.slice_start + q - 1
      last = eqb-true time (limit_in q s) phased.1 ∙ own_limit q s.phase s.slice_start s.grace_start in_own

      own : latest q s ≡ s.slice_start + longest_turn q
      own = own_latest q s.runner s.phase s.slice_start s.grace_start s.turn (excess_in s) who runs in_own

      grace : latest q (after_row (row.End time k who) s) ≡ time + 1 + quanta q (excess_limit + 1 - excess_in s who)
      grace = grace_latest q s.runner phase.Grace s.slice_start time s.turn (excess_in s) who runs refl

      begins : time + 1 + quanta q (excess_limit + 1 - excess_in s who) ≤ s.slice_start + longest_turn q
      begins = grace_begins q s.slice_start time (excess_in s who) some last

  over_row : (time k who x : ℕ) (rows : List Row)
      → (let r = row.Over time k who x in Waits (r ∷ rows) → IsSound s (r ∷ rows) → IsReached t now s r → (s.runner ≡ Some e → time ≡ s.time) → is_fit_by_kind q s r rows ≡ true → Next r rows)
  over_row time k who x rows waits sound reached on fits =
      inr (record {
        soon = soon_less q before (latest q s) (latest q (after_row (row.Over time k who x) s)) (far count slot e s) (far count slot e (after_row (row.Over time k who x) s)) (omega (arith, after, had, goes_on)) (omega (arith, same)) waits.soon;
        left = left_after (row.Over time k who x) rows waits reached;
        idle = λ nobody since past. not_none s.runner who (IsMarked all s.turn s.slots rows) runs nobody;
        mine = λ (mine : s.runner ≡ Some e). let both : Some who ≡ Some e = sym runs ∙ mine in let is : who ≡ e = cc in absurd (other is);
      })
    where
      runs : s.runner ≡ Some who
      runs = runs_of s k who (and_parts (is_runners s k who) (in_grace s.phase && ((time == limit_in q s) && ((x == excess_in s who + 1) && is_judged time who x rows))) fits).0

      graced : (in_grace s.phase ≡ true) × (((time == limit_in q s) && ((x == excess_in s who + 1) && is_judged time who x rows)) ≡ true)
      graced = and_parts (in_grace s.phase) ((time == limit_in q s) && ((x == excess_in s who + 1) && is_judged time who x rows)) (and_parts (is_runners s k who) (in_grace s.phase && ((time == limit_in q s) && ((x == excess_in s who + 1) && is_judged time who x rows))) fits).1

      phased : s.phase ≡ phase.Grace
      phased = phase_grace s.phase graced.0

      last : time ≡ s.grace_start + q
      last = eqb-true time (limit_in q s) (and_parts (time == limit_in q s) ((x == excess_in s who + 1) && is_judged time who x rows) graced.1).0 ∙ grace_limit q s.phase s.slice_start s.grace_start phased

      other : who ≡ e → ⊥
      other is =
          let mine : s.runner ≡ Some e = runs ∙ ap (λ (n : ℕ). Some n) is in
          let fresh = waits.mine mine in
          let late = fresh.new graced.0 in
          let here = on mine in
          absurd (omega (arith, late, here, last, some))

      same : far count slot e (after_row (row.Over time k who x) s) ≡ far count slot e s
      same = ap (λ (b : Bool). distance slot count s.cursor + rounds count (if s.dead e then 0 else more_if b (s.overs e) - s.pays e)) (ne_eqb who e other)

      had : latest q s ≡ s.grace_start + 1 + quanta q (excess_limit + 1 - excess_in s who)
      had = grace_latest q s.runner s.phase s.slice_start s.grace_start s.turn (excess_in s) who runs phased

      after : latest q (after_row (row.Over time k who x) s) ≡ time + 1 + quanta q (excess_limit + 1 - excess_in (after_row (row.Over time k who x) s) who)
      after = grace_latest q s.runner s.phase s.slice_start time s.turn (excess_in (after_row (row.Over time k who x) s)) who runs phased

      one : excess_in (after_row (row.Over time k who x) s) who ≡ excess_in s who + 1
      one = ap (λ (b : Bool). if s.dead who then 0 else more_if b (s.overs who) - s.pays who) (eq-eqb who who refl) ∙ over_one (s.dead who) (s.overs who) (s.pays who) (sound.lives who runs) (sound.paid who)

      goes_on : time + 1 + quanta q (excess_limit + 1 - excess_in (after_row (row.Over time k who x) s) who) ≤ s.grace_start + 1 + quanta q (excess_limit + 1 - excess_in s who)
      goes_on = grace_goes_on q s.grace_start time (excess_in s who) (excess_in (after_row (row.Over time k who x) s) who) last (over_low q s time k who x rows sound who) one

  by_kind : (r : Row) (rows : List Row) → Waits (r ∷ rows) → IsSound s (r ∷ rows) → IsReached t now s r → IsTimely q end s r → (s.runner ≡ Some e → time_of r ≡ s.time) → is_fit_by_kind q s r rows ≡ true → Next r rows
  by_kind (row.Own time k owner holder) rows waits sound reached timely on fits =
      let r = row.Own time k owner holder in
      inr (record {
        soon = waits.soon;
        left = left_after r rows waits reached;
        idle = λ nobody since past. let less = own_time q s time k owner holder rows reached.later nobody (sound.due nobody) fits in absurd (omega (arith, less, past));
        mine = fresh_stays r rows waits on;
      })
  by_kind (row.Run time k who) rows waits sound reached timely on fits = run_row time k who rows waits reached fits
  by_kind (row.Pay time k who) rows waits sound reached timely on fits = pay_row time k who rows waits reached fits
  by_kind (row.Give time k from to) rows waits sound reached timely on fits =
      let r = row.Give time k from to in
      let gift = gift_of s k from to fits in
      inr (record {
        soon = gift_soon r rows from to gift waits;
        left = left_after r rows waits reached;
        idle = λ nobody since past. cc;
        mine = λ runs. gift_fresh r from to gift reached;
      })
  by_kind (row.Async time k from to) rows waits sound reached timely on fits =
      let r = row.Async time k from to in
      let gift = gift_of s k from to fits in
      inr (record {
        soon = gift_soon r rows from to gift waits;
        left = left_after r rows waits reached;
        idle = λ nobody since past. cc;
        mine = λ runs. gift_fresh r from to gift reached;
      })
  by_kind (row.Sync time k from to) rows waits sound reached timely on fits =
      let r = row.Sync time k from to in
      let gift = gift_of s k from to (and_parts (is_gift s k from to) _ fits).0 in
      inr (record {
        soon = gift_soon r rows from to gift waits;
        left = left_after r rows waits reached;
        idle = λ nobody since past. cc;
        mine = λ runs. gift_fresh r from to gift reached;
      })
  by_kind (row.End time k who) rows waits sound reached timely on fits = end_row time k who rows waits reached fits
  by_kind (row.Over time k who x) rows waits sound reached timely on fits = over_row time k who x rows waits sound reached on fits
  by_kind (row.Stop time k who) rows waits sound reached timely on fits =
      let r = row.Stop time k who in
      inr (record {
        soon = stop_soon r rows who (excess_in s e) waits sound timely (runs_of s k who fits) (omega arith);
        left = left_after r rows waits reached;
        idle = λ nobody since past. absurd (omega (arith, past));
        mine = λ runs. cc;
      })
  by_kind (row.Dead time k who) rows waits sound reached timely on fits =
      let r = row.Dead time k who in
      inr (record {
        soon = stop_soon r rows who (excess_in (after_row r s) e) waits sound timely (runs_of s k who (and_parts (is_runners s k who) _ fits).0) (dead_less (e == who) (s.dead e) (s.overs e - s.pays e));
        left = left_after r rows waits reached;
        idle = λ nobody since past. absurd (omega (arith, past));
        mine = λ runs. cc;
      })
  by_kind (row.Asked time who outstanding deadline) rows waits sound reached timely on fits =
      let r = row.Asked time who outstanding deadline in
      inr (record {
        soon = waits.soon;
        left = left_after r rows waits reached;
        idle = λ nobody since past. past_mark r rows refl waits reached nobody since (omega (arith, past));
        mine = fresh_stays r rows waits on;
      })
  by_kind (row.Take time who page backup) rows waits sound reached timely on fits =
      let r = row.Take time who page backup in
      inr (record {
        soon = waits.soon;
        left = left_after r rows waits reached;
        idle = λ nobody since past. past_mark r rows refl waits reached nobody since (omega (arith, past));
        mine = fresh_stays r rows waits on;
      })
  by_kind (row.Unclaimed time size) rows waits sound reached timely on fits =
      let r = row.Unclaimed time size in
      inr (record {
        soon = waits.soon;
        left = left_after r rows waits reached;
        idle = λ nobody since past. past_mark r rows refl waits reached nobody since (omega (arith, past));
        mine = fresh_stays r rows waits on;
      })

  pub next_row : (r : Row) (rows : List Row) → Waits (r ∷ rows) → IsSound s (r ∷ rows) → IsReached t now s r → IsTimely q end s r → is_fit_by_kind q s r rows ≡ true → Next r rows
  next_row r rows waits sound reached timely fits =
      elim (on_time r rows waits sound reached timely) [
        | inl found ↦ inl found
        | inr on ↦ by_kind r rows waits sound reached timely on fits
      ]
