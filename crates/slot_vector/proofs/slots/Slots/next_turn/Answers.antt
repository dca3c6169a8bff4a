-- What comes next is told by the next held slot, and by what its holder owes.
use Rattle.std.proofs.Common.{◌≡◌, ◌≢◌, ℕ, ◌-◌, Bool, Option, Some, List, length, sym, ap, ◌∙◌, slice_set}
use Rattle.std.specs.Prelude.{if◌then◌else◌}
use Rattle.std.proofs.lemmas.Bool.{eq-eqb, ne_eqb}
use Rattle.world_model.specs.declared.hold.Hold.{Hold}
use Rattle.world_model.specs.declared.slot.Turn.{Turn}
use Rattle.world_model.specs.Book.{first_turn}
use Rattle.slot_vector.specs.declared.turn.NextTurn.TheVariants as next
use Rattle.slot_vector.specs.Slices.{Slices, after_turn, excess_of, hold_at, next_held, next_turn, turn_of}
use Rattle.slot_vector.proofs.slots.Slots.next_turn.Goals as goal

run_next : (v : Slices) (t : Turn) → next_held v ≡ Some t → excess_of v.excess t.env ≡ 0 → next.Run t ≡ next_turn v
run_next v t held free =
    sym (ap (turn_of (excess_of v.excess)) held ∙ ap (λ (b : Bool). if b then next.Run t else next.Pay t) (eq-eqb (excess_of v.excess t.env) 0 free))

pay_next : (v : Slices) (t : Turn) → next_held v ≡ Some t → excess_of v.excess t.env ≢ 0 → next.Pay t ≡ next_turn v
pay_next v t held owes =
    sym (ap (turn_of (excess_of v.excess)) held ∙ ap (λ (b : Bool). if b then next.Run t else next.Pay t) (ne_eqb (excess_of v.excess t.env) 0 owes))

-- the next held slot, as it is found
next_is : (b now : Slices) (xs : List (Option Hold)) (found : Option Turn) → b ≡ now → xs ≡ b.slots → found ≡ first_turn (hold_at xs) (length xs) b.cursor (length xs) → next_held now ≡ found
next_is b now xs found same items is =
    sym (is ∙ ap (λ (ys : List (Option Hold)). first_turn (hold_at ys) (length ys) b.cursor (length ys)) items ∙ ap (λ (v : Slices). next_held v) same)

pub returns-in_default-clause-turn : goal.returns-in_default-clause-turn
returns-in_default-clause-turn c = sym (ap (turn_of (excess_of c.args.self.now.excess)) (next_is _ _ _ _ c.self.view_is c.as_slice.ensures.value c.first_turn.ensures.turn ∙ c.in_default.is))

pub invariant_of-self : goal.invariant_of-self
invariant_of-self c = (
  rw (← c.as_slice.ensures.value) c.in-Some.ensures.within,
  c.self.invariant.1,
  c.self.invariant.2,
  c.in-Some.ensures.numbered,
  c.self.invariant.4,
  c.self.invariant.5,
)

pub returns-then-owed-eq0-clause-turn : goal.returns-then-owed-eq0-clause-turn
returns-then-owed-eq0-clause-turn c =
    let free = ap (λ (v : Slices). excess_of v.excess c.in-Some.turn.env) (sym c.self.view_is) ∙ sym c.of-owed.ensures.excess ∙ c.if-owed-eq0.true in
    run_next c.args.self.now c.in-Some.turn (next_is _ _ _ _ c.self.view_is c.as_slice.ensures.value c.first_turn.ensures.turn ∙ c.in-Some.is) free

pub returns-then-owed-eq0-clause-after : goal.returns-then-owed-eq0-clause-after
returns-then-owed-eq0-clause-after c = ap (λ (v : Slices). after_turn v (next.Run c.in-Some.turn)) c.self.view_is

pub invariant_of-self-2 : goal.invariant_of-self-2
invariant_of-self-2 c = (
  rw (← c.as_slice.ensures.value) c.in-Some.ensures.within,
  c.self.invariant.1,
  c.self.invariant.2,
  c.self.invariant.3,
  c.self.invariant.4,
  c.self.invariant.5,
)

pub returns-clause-turn : goal.returns-clause-turn
returns-clause-turn c =
    let owed = c.of-owed.ensures.excess ∙ ap (λ (v : Slices). excess_of v.excess c.in-Some.turn.env) c.self.view_is in
    pay_next c.args.self.now c.in-Some.turn (next_is _ _ _ _ c.self.view_is c.as_slice.ensures.value c.first_turn.ensures.turn ∙ c.in-Some.is) (λ free. c.if-owed-eq0.false (owed ∙ free))

pub returns-clause-after : goal.returns-clause-after
returns-clause-after c =
    let b = c.self.inside in
    let e = c.in-Some.turn.env in
    let lowered : c.set.new.self ≡ slice_set b.excess e (excess_of b.excess e - 1) = c.set.ensures ∙ ap (λ (n : ℕ). slice_set b.excess e (n - 1)) c.of-owed.ensures.excess in
    (λ i. record { slots = b.slots.items; quantum = b.quantum; cursor = c.in-Some.turn.slot; runner = b.runner; excess = lowered i })
    ∙ ap (λ (v : Slices). after_turn v (next.Pay c.in-Some.turn)) c.self.view_is
