-- An environment alone is given own items alone.
use Rattle.std.proofs.Common.{◌≡◌, ℕ, zero, suc, List, [], ◌∷◌, ◌++◌, Option, None, Some, refl, sym, ◌∙◌, ap, append_assoc, arith, inl, inr}
use Rattle.std.specs.Prelude.{◌+◌, ◌≤◌, ◌==◌, ◌*◌, not}
use Rattle.std.specs.Option.{option_map_or}
use Rattle.std.proofs.lemmas.Bool.{cases_lt, cond_both}
use Rattle.std.proofs.lemmas.List.{append-nil}
use Rattle.aegis_limits.specs.Limits.{excess_limit}
use Rattle.world_model.specs.declared.call.Call.TheVariants as call
use Rattle.world_model.specs.declared.slot.Phase.TheVariants as phase
use Rattle.world_model.specs.declared.timer.Timer.{Timer}
use Rattle.world_model.specs.declared.timer.Timer.TheVariants as timer
use Rattle.world_model.specs.declared.verdict.Verdict.{Verdict}
use Rattle.world_model.specs.Item.{Item, Answer, End, Killed, Start, Step}
use Rattle.world_model.specs.Solo.{is_dead}
use Rattle.world_model.specs.Step.{Act, Calls, Dies, act_of, step_alone}
use Rattle.world_model.specs.Timer.{timer_of}
use Rattle.quiet_law.specs.Alone.{Alone, after_act, after_timer, answer_alone, count_alone, quiet_course, quiet_slice, stopped, tick_alone, ticks_alone, with_item}
use Rattle.quiet_law.specs.Beginning.{IsBeginning}
use Rattle.quiet_law.specs.EachTick.{AreOwnItems, IsOwnItem}
use Rattle.quiet_law.proofs.Beginnings.{begins_further, begins_same}

-- lists of own items
pub own_both : (xs ys : List Item) → AreOwnItems xs → AreOwnItems ys → AreOwnItems (xs ++ ys)
own_both [] ys first next = next
own_both (x ∷ xs) ys first next = (first.0, own_both xs ys first.1 next)

pub own_front : (xs ys : List Item) → AreOwnItems (xs ++ ys) → AreOwnItems xs
own_front [] ys all = tt
own_front (x ∷ xs) ys all = (all.0, own_front xs ys all.1)

pub own_back : (xs ys : List Item) → AreOwnItems (xs ++ ys) → AreOwnItems ys
own_back [] ys all = all
own_back (x ∷ xs) ys all = own_back xs ys all.1

-- from one to the other it is given own items
pub record GivesOwn (a b : Alone) : Type 0 where
  pub more : List Item
  pub is : a.items ++ more ≡ b.items
  pub own : AreOwnItems more

gives_none : (a b : Alone) → a.items ≡ b.items → GivesOwn a b
gives_none a b same = record { more = []; is = append-nil a.items ∙ same; own = tt }

gives_one : (item : Item) (a b : Alone) → IsOwnItem item → a.items ++ item ∷ [] ≡ b.items → GivesOwn a b
gives_one item a b own is = record { more = item ∷ []; is = is; own = (own, tt) }

gives_further : (a b c : Alone) → GivesOwn a b → GivesOwn b c → GivesOwn a c
gives_further a b c first next = record {
  more = first.more ++ next.more;
  is = sym (append_assoc a.items first.more next.more) ∙ ap (λ (xs : List Item). xs ++ next.more) first.is ∙ next.is;
  own = own_both first.more next.more first.own next.own;
}

-- an act, the timer, a tick,
answer_gives : (o : Option Verdict) (a : Alone) → GivesOwn a (option_map_or (λ v. with_item (Answer v) a) o (stopped a))
answer_gives None a = gives_none a (stopped a) refl
answer_gives (Some v) a = gives_one (Answer v) a (with_item (Answer v) a) tt refl

act_gives : (q : ℕ) (act : Act) (a : Alone) → GivesOwn a (after_act q act a)
act_gives q (Calls (Some call.Yield)) a = gives_one _ a (after_act q (Calls (Some call.Yield)) a) tt refl
act_gives q (Calls c) a = answer_gives (answer_alone q a c) a
act_gives q (Dies cause) a = gives_none a (after_act q (Dies cause) a) refl
act_gives q act a = gives_none a a refl

timer_gives : (q : ℕ) (what : Timer) (a : Alone) → GivesOwn a (after_timer q what a)
timer_gives q timer.Nothing a = gives_none a (after_timer q timer.Nothing a) refl
timer_gives q timer.End a = gives_one End a (after_timer q timer.End a) tt refl
timer_gives q timer.Stop a = gives_none a (after_timer q timer.Stop a) refl
timer_gives q (timer.Over excess) a = gives_none a (after_timer q (timer.Over excess) a) refl
timer_gives q timer.Kill a = gives_one Killed a (after_timer q timer.Kill a) tt refl

count_gives : (q : ℕ) (a : Alone) → GivesOwn a (count_alone q a)
count_gives q a = timer_gives q (timer_of (record { env = a.solo.number; left = a.left; phase = a.phase }) (not (a.solo.handlers.end == 0)) a.excess) a

tick_gives : (q : ℕ) (a : Alone) → GivesOwn a (tick_alone q a)
unfolding tick_alone
tick_gives q a =
    let stepped = with_item Step a in
    let acted = after_act q (act_of a.solo (step_alone a.solo)) stepped in
    gives_further a acted (count_alone q acted)
    (gives_further a stepped acted (gives_one Step a stepped tt refl) (act_gives q (act_of a.solo (step_alone a.solo)) stepped))
    (count_gives q acted)

-- and so slices
pub ticks_give : (q n : ℕ) (a : Alone) → GivesOwn a (ticks_alone q n a)
ticks_give q zero a = gives_none a a refl
ticks_give q (suc n) a =
    let next = tick_alone q a in
    cond_both (a.left == 0) a (ticks_alone q n next) (GivesOwn a) (λ none. gives_none a a refl) (λ some. gives_further a next (ticks_alone q n next) (tick_gives q a) (ticks_give q n next))

slice_gives : (q : ℕ) (a : Alone) → GivesOwn a (quiet_slice q a)
slice_gives q a =
    let most = (2 + excess_limit) * q in
    let started = with_item Start (record a { left = q; phase = phase.Own; excess = 0 }) in
    cond_both (is_dead a.solo.life) (record a { excess = 0 }) (ticks_alone q most started) (GivesOwn a)
    (λ gone. gives_none a (record a { excess = 0 }) refl)
    (λ lives. gives_further a started (ticks_alone q most started) (gives_one Start a started tt refl) (ticks_give q most started))

module _ (e : ℕ) (boot : List Item) (q : ℕ) where
  abbrev course : ℕ → Alone
  course n = quiet_course e boot q n

  pub course_gives : (n : ℕ) → GivesOwn (course 0) (course n)
  course_gives zero = gives_none (course 0) (course 0) refl
  course_gives (suc n) = gives_further (course 0) (course n) (course (suc n)) (course_gives n) (slice_gives q (course n))

  pub next_begins : (n : ℕ) → IsBeginning (course n).items (course (suc n)).items
  next_begins n = let its = slice_gives q (course n) in record { rest = its.more; is = its.is }

  pub course_begins : (n m : ℕ) → n ≤ m → IsBeginning (course n).items (course m).items
  course_begins n zero before =
      let first : n ≡ 0 = omega (arith, before) in begins_same (course n).items (course 0).items (ap (λ k. (course k).items) first)
  course_begins n (suc m) before = elim (cases_lt n (suc m)) as (λ w. IsBeginning (course n).items (course (suc m)).items) [
    | inl less ↦ begins_further (course n).items (course m).items (course (suc m)).items (course_begins n m (omega (arith, less))) (next_begins m)
    | inr past ↦
        let last : n ≡ suc m = omega (arith, past, before) in begins_same (course n).items (course (suc m)).items (ap (λ k. (course k).items) last)
  ]
