-- An environment in a world as one alone, and the end of its slice.
use Rattle.std.proofs.Common.{◌≡◌, ◌<◌, ◌≤◌, ◌+◌, ◌-◌, ℕ, zero, suc, List, ◌++◌, Bool, true, false, Option, None, Some, inl, inr, refl, sym, ◌∙◌, ap, subst, arith}
use Rattle.std.specs.Prelude.{◌==◌, ◌*◌, ◌⊎◌, not, nat_lt, if◌then◌else◌}
use Rattle.std.specs.Option.{option_map_or}
use Rattle.std.proofs.lemmas.Bool.{eq-eqb, eqb-true, ltb-false, ne_eqb}
use Rattle.aegis_limits.specs.Limits.{excess_limit}
use Rattle.world_model.specs.declared.call.Call.TheVariants as call
use Rattle.world_model.specs.declared.slot.Phase.{Phase}
use Rattle.world_model.specs.declared.slot.Phase.TheVariants as phase
use Rattle.world_model.specs.declared.slot.Runner.{Runner}
use Rattle.world_model.specs.declared.timer.Timer.TheVariants as timer
use Rattle.world_model.specs.declared.verdict.Verdict.{Verdict}
use Rattle.world_model.specs.Item.{Item, Answer, Step, absorb_all}
use Rattle.world_model.specs.Step.{Act, Calls, Dies, act_of, step_alone}
use Rattle.world_model.specs.Timer.{timer_at_end}
use Rattle.world_model.specs.World.{World, Reply, after}
use Rattle.quiet_law.specs.Alone.{Alone, after_act, after_timer, answer_alone, count_alone, stopped, tick_alone, ticks_alone, with_item}

-- the ticks left of the quantum in which the environment runs, and its phase
abbrev pub left_of : ℕ → Option Runner → ℕ
left_of e None = 0
left_of e (Some r) = if r.env == e then r.left else 0

abbrev pub phase_of : ℕ → Option Runner → Phase
phase_of e None = phase.Own
phase_of e (Some r) = if r.env == e then r.phase else phase.Own

-- the environment in a world, if it was given these items
abbrev pub alone_in : ℕ → World → List Item → Alone
alone_in e w items = record {
  items = items;
  solo = w.solos e;
  left = left_of e w.book.runner;
  phase = phase_of e w.book.runner;
  excess = w.book.excess e;
}

pub left_runs : (e : ℕ) (r : Runner) → r.env ≡ e → left_of e (Some r) ≡ r.left
left_runs e r its = ap (λ (t : Bool). if t then r.left else 0) (eq-eqb r.env e its)

pub phase_runs : (e : ℕ) (r : Runner) → r.env ≡ e → phase_of e (Some r) ≡ r.phase
phase_runs e r its = ap (λ (t : Bool). if t then r.phase else phase.Own) (eq-eqb r.env e its)

-- environments alone are equal by their parts
pub same_alone : (a b : Alone) → a.items ≡ b.items → a.solo ≡ b.solo → a.left ≡ b.left → a.phase ≡ b.phase → a.excess ≡ b.excess → a ≡ b
same_alone a b items solo left phase excess = λ k. record { items = items k; solo = solo k; left = left k; phase = phase k; excess = excess k }

-- what a reply leaves of the environment that is given these items by it
pub alone_after : (e : ℕ) (w : World) (reply : Reply) (xs ys : List Item) (a : Alone) → reply.items e ≡ ys → a.items ≡ xs ++ ys → a.solo ≡ absorb_all (w.solos e) ys
    → a.left ≡ left_of e reply.book.runner → a.phase ≡ phase_of e reply.book.runner → a.excess ≡ reply.book.excess e
    → a ≡ alone_in e (after w reply) (xs ++ reply.items e)
alone_after e w reply xs ys a given items solo left phase excess =
    same_alone a (alone_in e (after w reply) (xs ++ reply.items e))
    (items ∙ ap (λ (zs : List Item). xs ++ zs) (sym given))
    (solo ∙ ap (absorb_all (w.solos e)) (sym given))
    left phase excess

-- what it may owe in each phase
abbrev pub OwesWithin : ℕ → Phase → Type 0
OwesWithin excess phase.Own = excess ≡ 0
OwesWithin excess phase.Grace = excess ≤ excess_limit

-- it has ticks left, and owes within this
pub record RunsWithin (excess : ℕ) (r : Runner) : Type 0 where
  pub left : 0 < r.left
  pub owes : OwesWithin excess r.phase

-- so it is where the environment runs
abbrev pub IfRuns : ℕ → ℕ → Option Runner → Type 0
IfRuns e excess runner = (r : Runner) → runner ≡ Some r → r.env ≡ e → RunsWithin excess r

-- The ticks of the quanta that may follow, and of the whole rest of a slice.
abbrev later : ℕ → ℕ → Phase → ℕ
later quantum excess phase.Own = (1 + excess_limit) * quantum
later quantum excess phase.Grace = (excess_limit - excess) * quantum

abbrev most_left : ℕ → Alone → ℕ
most_left quantum a = a.left + later quantum a.excess a.phase

-- of numbers alone
less_one : (n : ℕ) → 0 < n → (m : ℕ) → suc (n - 1 + m) ≡ n + m
less_one n some m = omega (arith, some)

before_some : (n : ℕ) → 0 < n → (m : ℕ) → n + m ≡ suc (n + m - 1)
before_some n some m = omega (arith, some)

is_some : (n : ℕ) → 0 < n → (n == 0) ≡ false
is_some n some = ne_eqb n 0 (λ none. omega (arith, some, none))

same_before : (m n k : ℕ) → suc m ≡ n → n ≡ suc k → k ≡ m
same_before m n k one two = omega (arith, one, two)

less_owed : (owes : ℕ) → owes + 1 ≤ excess_limit → excess_limit - owes ≡ suc (excess_limit - (owes + 1))
less_owed owes most = omega (arith, most)

pub ten_quanta : (q : ℕ) → (2 + excess_limit) * q ≡ q + (1 + excess_limit) * q
ten_quanta q = omega arith

later_falls : (q more : ℕ) → suc (q + more * q) ≡ 1 + suc more * q
later_falls q more = omega arith

-- a slice played to its end
abbrev pub to_end : ℕ → Alone → Alone
to_end quantum a = ticks_alone quantum (most_left quantum a) a

over_ends : (q n : ℕ) (a : Alone) → a.left ≡ 0 → ticks_alone q n a ≡ a
over_ends q zero a none = refl
over_ends q (suc n) a none = ap (λ (left : ℕ). if left == 0 then a else ticks_alone q n (tick_alone q a)) none

pub end_over : (q : ℕ) (a : Alone) → a.left ≡ 0 → to_end q a ≡ a
end_over q a none = over_ends q (most_left q a) a none

pub over_counts : (q : ℕ) (a : Alone) → a.left ≡ 0 → count_alone q a ≡ a
over_counts q a none =
    ap (λ (left : ℕ). after_timer q (if left == 1 then timer_at_end a.phase (not (a.solo.handlers.end == 0)) a.excess else timer.Nothing) a) none
    ∙ same_alone (record a { left = a.left - 1 }) a refl refl (ap (λ (left : ℕ). left - 1) none ∙ sym none) refl refl

-- Each tick is one of those that are left, or the last one.
abbrev Falls : ℕ → Alone → Alone → Type 0
Falls q a b = (b.left ≡ 0) ⊎ (suc (most_left q b) ≡ most_left q a)

-- at the end of a quantum,
module _ (q : ℕ) (a : Alone) (last : a.left ≡ 1) where
  end_falls : (p : Phase) (has_end : Bool) → a.phase ≡ p → OwesWithin a.excess p → Falls q a (after_timer q (timer_at_end p has_end a.excess) a)
  end_falls phase.Own true is owes =
      inr (ap (λ (n : ℕ). suc (q + (excess_limit - n) * q)) owes ∙ later_falls q excess_limit
      ∙ ap (λ (n : ℕ). n + (1 + excess_limit) * q) (sym last) ∙ ap (λ (p : Phase). a.left + later q a.excess p) (sym is))
  end_falls phase.Own false is owes = inl refl
  end_falls phase.Grace has_end is owes = by_excess (nat_lt excess_limit (a.excess + 1)) refl
    where
      by_excess : (most : Bool) → nat_lt excess_limit (a.excess + 1) ≡ most → Falls q a (after_timer q (if most then timer.Kill else timer.Over (a.excess + 1)) a)
      by_excess true full = inl refl
      by_excess false few =
          let more = excess_limit - (a.excess + 1) in
          inr (later_falls q more ∙ ap (λ (n : ℕ). 1 + n * q) (sym (less_owed a.excess (ltb-false excess_limit (a.excess + 1) few)))
          ∙ ap (λ (n : ℕ). n + (excess_limit - a.excess) * q) (sym last) ∙ ap (λ (p : Phase). a.left + later q a.excess p) (sym is))

-- and at each tick of a slice:
count_falls : (q : ℕ) (a : Alone) → 0 < a.left → OwesWithin a.excess a.phase → Falls q a (count_alone q a)
count_falls q a some owes = by_left (a.left == 1) refl
  where
    has_end : Bool
    has_end = not (a.solo.handlers.end == 0)

    by_left : (one : Bool) → (a.left == 1) ≡ one → Falls q a (after_timer q (if one then timer_at_end a.phase has_end a.excess else timer.Nothing) a)
    by_left true one = end_falls q a (eqb-true a.left 1 one) a.phase has_end refl owes
    by_left false more = inr (less_one a.left some (later q a.excess a.phase))

-- its act ends the slice, or leaves what is left of it
data Leaves (a b : Alone) : Type 0 where
  Ends : b.left ≡ 0 → Leaves a b
  Lasts : b.left ≡ a.left → b.phase ≡ a.phase → b.excess ≡ a.excess → Leaves a b

answer_leaves : (answer : Option Verdict) (a : Alone) → Leaves a (option_map_or (λ v. with_item (Answer v) a) answer (stopped a))
answer_leaves None a = Ends refl
answer_leaves (Some v) a = Lasts refl refl refl

act_leaves : (q : ℕ) (act : Act) (a : Alone) → Leaves a (after_act q act a)
act_leaves q (Calls (Some call.Yield)) a = Ends refl
act_leaves q (Calls call) a = answer_leaves (answer_alone q a call) a
act_leaves q (Dies cause) a = Ends refl
act_leaves q act a = Lasts refl refl refl

act_falls : (q : ℕ) (act : Act) (a : Alone) → 0 < a.left → OwesWithin a.excess a.phase → Falls q a (count_alone q (after_act q act a))
act_falls q act a some owes = by_act (after_act q act a) (act_leaves q act a)
  where
    by_act : (b : Alone) → Leaves a b → Falls q a (count_alone q b)
    by_act b (Ends none) = inl (ap (λ (c : Alone). c.left) (over_counts q b none) ∙ none)
    by_act b (Lasts left phase excess) =
        let same : most_left q b ≡ most_left q a =
        ap (λ (n : ℕ). n + later q b.excess b.phase) left ∙ ap (λ (n : ℕ). a.left + later q n b.phase) excess ∙ ap (λ (p : Phase). a.left + later q a.excess p) phase in
        let owes_it : OwesWithin b.excess b.phase = subst (λ (p : Phase). OwesWithin b.excess p) (sym phase) (subst (λ (n : ℕ). OwesWithin n a.phase) (sym excess) owes) in
        let c = count_alone q b in
        subst (λ (n : ℕ). (c.left ≡ 0) ⊎ (suc (most_left q c) ≡ n)) same (count_falls q b (subst (λ (n : ℕ). 0 < n) (sym left) some) owes_it)

tick_falls : (q : ℕ) (a : Alone) → 0 < a.left → OwesWithin a.excess a.phase → Falls q a (tick_alone q a)
unfolding tick_alone
tick_falls q a some owes = act_falls q (act_of a.solo (step_alone a.solo)) (with_item Step a) some owes

-- So a tick of it is the first of those to its end.
falls_to_end : (q m : ℕ) (a b : Alone) → most_left q a ≡ suc m → Falls q a b → ticks_alone q m b ≡ to_end q b
falls_to_end q m a b is (inl none) = over_ends q m b none ∙ sym (end_over q b none)
falls_to_end q m a b is (inr falls) = ap (λ (n : ℕ). ticks_alone q n b) (same_before (most_left q b) (most_left q a) m falls is)

pub tick_to_end : (q : ℕ) (a : Alone) → 0 < a.left → OwesWithin a.excess a.phase → to_end q a ≡ to_end q (tick_alone q a)
tick_to_end q a some owes =
    let m = most_left q a - 1 in
    let is : most_left q a ≡ suc m = before_some a.left some (later q a.excess a.phase) in
    ap (λ (n : ℕ). ticks_alone q n a) is
    ∙ ap (λ (none : Bool). if none then a else ticks_alone q m (tick_alone q a)) (is_some a.left some)
    ∙ falls_to_end q m a (tick_alone q a) is (tick_falls q a some owes)
