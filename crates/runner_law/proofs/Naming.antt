-- Who makes the step of a tick is who runs as it is made: by its licence, and since the step is one of the phases.
use Rattle.std.proofs.Common.{arith, refl, sym, ◌∙◌, ap, ◌≡◌, ◌<◌, ◌+◌, ◌⊎◌, inl, inr, ℕ, zero, suc, List, [], ◌∷◌, ◌++◌, length, Bool, true, false, Option, None, Some}
use Rattle.std.specs.Prelude.{◌||◌, if◌then◌else◌, slice_get}
use Rattle.std.specs.List.{All, list_any}
use Rattle.std.proofs.lemmas.Bool.{cases_lt, eq-eqb, eqb-true}
use Rattle.std.proofs.lemmas.List.Folds.{list_any-append}
use Rattle.external_event.specs.declared.event.Occurrence.{Occurrence}
use Rattle.external_event.specs.declared.event.Occurrence.TheVariants as outside
use Rattle.revocation_book.specs.declared.revocation.Taking.{Taking}
use Rattle.world_model.specs.declared.slot.Runner.{Runner}
use Rattle.world_model.specs.Book.{is_idle_book, running}
use Rattle.world_model.specs.Item.{Item, Step}
use Rattle.world_model.specs.Tick.{act_now, act_reply, phases_after, step, step_when, tick_phases}
use Rattle.world_model.specs.World.{World, Reply, after, in_turn, tells}
use Rattle.run_model.specs.Licensed.{AtEvent, GivenIsLicensed, LicensedAt, LicensedBehind, LicensedIn}
use Rattle.run_model.specs.Run.{PhasesGive, System, at_step, before_turn, given_at, given_below, given_by, happens_in, moment, next_phases, phases_in, takings_in, world_after}
use Rattle.ledger_audit.specs.RowRules.{is_number}
use Rattle.turn_law.specs.Ticks.{runner_in}
use Rattle.runner_law.specs.RunnerLaw.{RunnersAreTold, SameRowsSameSteps, StepsAreTold, is_step, steps_in}
use Rattle.runner_law.proofs.Telling.{idle_step, is_or_not}

-- a step has its licence in the phase of the step alone
not_in_event : (what : Occurrence) (w : World) (e : ℕ) → AtEvent what w e Step → ⊥
not_in_event (outside.Packet packet) w e is = is
not_in_event (outside.Line line) w e is = is
not_in_event (outside.Revoke env count grace) w e is = is

in_step_behind : (system : System) (t : ℕ) (xs : List Taking) (k : ℕ) (w : World) (e : ℕ) → LicensedBehind system t xs k w e Step → (k ≡ length xs + 2) × (running w.book.runner ≡ Some e)
in_step_behind system t [] zero w e is = absurd is
in_step_behind system t [] (suc zero) w e is = absurd is
in_step_behind system t [] (suc (suc zero)) w e is = (refl, is)
in_step_behind system t [] (suc (suc (suc zero))) w e is = absurd is
in_step_behind system t [] (suc (suc (suc (suc k)))) w e is = absurd is
in_step_behind system t (x ∷ xs) zero w e is = absurd is
in_step_behind system t (x ∷ xs) (suc k) w e is =
    let rest = in_step_behind system t xs k w e is in
    let more : length (x ∷ xs) ≡ suc (length xs) = refl in
    (omega (arith, more, rest.0), rest.1)

in_step : (system : System) (t : ℕ) (happens : List Occurrence) (xs : List Taking) (k : ℕ) (w : World) (e : ℕ) → LicensedIn system t happens xs k w e Step
    → (k ≡ length happens + (length xs + 2)) × (running w.book.runner ≡ Some e)
in_step system t [] xs k w e is = let rest = in_step_behind system t xs k w e is in (omega (arith, rest.0), rest.1)
in_step system t (what ∷ happens) xs zero w e is = absurd (not_in_event what w e is)
in_step system t (what ∷ happens) xs (suc k) w e is =
    let rest = in_step system t happens xs k w e is in
    let more : length (what ∷ happens) ≡ suc (length happens) = refl in
    (omega (arith, more, rest.0), rest.1)

step_item : (P : Item → Type 0) (item : Item) → is_step item ≡ true → P item → P Step
step_item P Step is given = given
step_item P item is given = cc

some_step : (P : Item → Type 0) (items : List Item) → All P items → list_any is_step items ≡ true → P Step
some_step P [] all is = cc
some_step P (item ∷ items) all is =
    elim (is_or_not (is_step item)) [
      | inl this ↦ step_item P item this (all 0 item (omega arith))
      | inr other ↦
          some_step P items (λ k d below. all (suc k) d (omega (arith, below))) (sym (ap (λ (b : Bool). b || list_any is_step items) other) ∙ is)
    ]

record IsStep (system : System) (t e k : ℕ) : Type 0 where
  place : k ≡ before_turn system t + 1
  runs : running (at_step system t).book.runner ≡ Some e

given_step : GivenIsLicensed → (system : System) (t e k : ℕ) → list_any is_step (given_at system t k e) ≡ true → IsStep system t e k
given_step licensed system t e k is =
    let licence : LicensedAt system t k e Step = some_step (LicensedAt system t k e) (given_at system t k e) (licensed system t k e) is in
    let found = in_step system t (happens_in system.schedule (world_after system t)) (takings_in system t) k (moment system t k) e licence in
    let place : k ≡ before_turn system t + 1 = omega (arith, found.0) in
    record { place = place; runs = ap (λ (n : ℕ). running (moment system t n).book.runner) (sym place) ∙ found.1 }

either_true : (a b : Bool) → (a || b) ≡ true → (a ≡ true) ⊎ (b ≡ true)
either_true true b is = inl refl
either_true false b is = inr is

below_step : GivenIsLicensed → (system : System) (t e n : ℕ) → list_any is_step (given_below system t n e) ≡ true → running (at_step system t).book.runner ≡ Some e
below_step licensed system t e zero is = cc
below_step licensed system t e (suc n) is =
    elim (either_true (list_any is_step (given_below system t n e)) (list_any is_step (given_at system t n e))
    (sym (list_any-append is_step (given_below system t n e) (given_at system t n e)) ∙ is)) [
      | inl before ↦ below_step licensed system t e n before
      | inr here ↦ (given_step licensed system t e n here).runs
    ]

-- the step is one of the phases
get_behind : (xs : List Taking) (n : ℕ) → n ≡ length xs + 2 → slice_get (tick_phases xs) n ≡ Some step
get_behind [] n is = ap (slice_get (tick_phases [])) is
get_behind (x ∷ xs) zero is = let more : length (x ∷ xs) ≡ suc (length xs) = refl in absurd (omega (arith, is, more))
get_behind (x ∷ xs) (suc n) is = let more : length (x ∷ xs) ≡ suc (length xs) = refl in get_behind xs n (omega (arith, is, more))

get_step : (happens : List Occurrence) (xs : List Taking) (n : ℕ) → n ≡ length happens + (length xs + 2) → slice_get (phases_after happens xs) n ≡ Some step
get_step [] xs n is = get_behind xs n (omega (arith, is))
get_step (what ∷ happens) xs zero is = let more : length (what ∷ happens) ≡ suc (length happens) = refl in absurd (omega (arith, is, more))
get_step (what ∷ happens) xs (suc n) is = let more : length (what ∷ happens) ≡ suc (length happens) = refl in get_step happens xs n (omega (arith, is, more))

got_below : (phases : List (World → Reply)) (n : ℕ) (phase : World → Reply) → slice_get phases n ≡ Some phase → n < length phases
got_below [] zero phase is = cc
got_below [] (suc n) phase is = cc
got_below (p ∷ phases) zero phase is = let more : length (p ∷ phases) ≡ suc (length phases) = refl in omega (arith, more)
got_below (p ∷ phases) (suc n) phase is =
    let rest = got_below phases n phase is in
    let more : length (p ∷ phases) ≡ suc (length phases) = refl in
    omega (arith, rest, more)

the_step : (system : System) (t : ℕ) → slice_get (next_phases system.schedule (world_after system t)) (before_turn system t + 1) ≡ Some step
the_step system t =
    get_step (happens_in system.schedule (world_after system t)) (takings_in system t) (before_turn system t + 1) (omega arith)

runner_steps : (w : World) (e : ℕ) (r : Runner) → w.book.runner ≡ Some r → r.env ≡ e → list_any is_step ((step w).items e) ≡ true
runner_steps w e r is same =
    let v = after w (tells r.env Step w) in
    let rest = (in_turn (act_reply r.env (act_now w r.env) ∷ []) v).items e in
    ap (λ (o : Option Runner). list_any is_step ((step_when w o).items e)) is
    ∙ ap (λ (b : Bool). list_any is_step ((if b then Step ∷ [] else []) ++ rest)) (eq-eqb e r.env (sym same))

runs_now : (o : Option Runner) (e : ℕ) → running o ≡ Some e → (r : Runner) × (o ≡ Some r) × (r.env ≡ e)
runs_now None e is = cc
runs_now (Some r) e is = let same : r.env ≡ e = cc in (r, refl, same)

at_the_step : (system : System) (t e : ℕ) → running (at_step system t).book.runner ≡ Some e → list_any is_step (given_at system t (before_turn system t + 1) e) ≡ true
at_the_step system t e runs =
    let w = at_step system t in
    let found = runs_now w.book.runner e runs in
    ap (λ (o : Option (World → Reply)). list_any is_step (given_by w o e)) (the_step system t) ∙ runner_steps w e found.0 found.1 found.2

or_true : (a b : Bool) → ((a ≡ true) ⊎ (b ≡ true)) → (a || b) ≡ true
or_true true b either = refl
or_true false b (inl first) = cc
or_true false b (inr second) = second

step_below : (system : System) (t e k n : ℕ) → k < n → list_any is_step (given_at system t k e) ≡ true → list_any is_step (given_below system t n e) ≡ true
step_below system t e k zero less is = absurd (omega (arith, less))
step_below system t e k (suc n) less is =
    list_any-append is_step (given_below system t n e) (given_at system t n e)
    ∙ elim (cases_lt k n) [
      | inl below ↦ or_true (list_any is_step (given_below system t n e)) (list_any is_step (given_at system t n e)) (inl (step_below system t e k n below is))
      | inr past ↦
          let same : k ≡ n = omega (arith, less, past) in
          or_true (list_any is_step (given_below system t n e)) (list_any is_step (given_at system t n e))
          (inr (ap (λ (m : ℕ). list_any is_step (given_at system t m e)) (sym same) ∙ is))
    ]

number_is : (e : ℕ) (o : Option ℕ) → is_number e o ≡ true → o ≡ Some e
number_is e None is = cc
number_is e (Some who) is = ap (λ (n : ℕ). Some n) (eqb-true who e is)

same_truth : (a b : Bool) → (a ≡ true → b ≡ true) → (b ≡ true → a ≡ true) → a ≡ b
same_truth true b there back = sym (there refl)
same_truth false true there back = back refl
same_truth false false there back = refl

module _ (give : PhasesGive) (licensed : GivenIsLicensed) (system : System) (t e : ℕ) where
  steps_only : (idle : Bool) → is_idle_book (world_after system t).book ≡ idle → steps_in system e t ≡ true → is_number e (running (at_step system t).book.runner) ≡ true
  steps_only true idle is =
      let w = world_after system t in
      let none : steps_in system e t ≡ false = ap (λ (b : Bool). list_any is_step (if b then [] else (in_turn (next_phases system.schedule w) w).items e)) idle in
      let never : false ≡ true = sym none ∙ is in cc
  steps_only false busy is =
      let given : list_any is_step (given_below system t (phases_in system t) e) ≡ true = ap (list_any is_step) (sym (give system t e busy)) ∙ is in
      ap (is_number e) (below_step licensed system t e (phases_in system t) given) ∙ eq-eqb e e refl

  runs_only : (idle : Bool) → is_idle_book (world_after system t).book ≡ idle → is_number e (running (at_step system t).book.runner) ≡ true → steps_in system e t ≡ true
  runs_only true idle is = let never : false ≡ true = sym (ap (is_number e) (idle_step system t idle)) ∙ is in cc
  runs_only false busy is =
      let runs = number_is e (running (at_step system t).book.runner) is in
      let there = got_below (next_phases system.schedule (world_after system t)) (before_turn system t + 1) step (the_step system t) in
      ap (list_any is_step) (give system t e busy) ∙ step_below system t e (before_turn system t + 1) (phases_in system t) there (at_the_step system t e runs)

  pub steps_are : steps_in system e t ≡ is_number e (running (at_step system t).book.runner)
  steps_are = let idle = is_idle_book (world_after system t).book in same_truth (steps_in system e t) (is_number e (running (at_step system t).book.runner)) (steps_only idle refl) (runs_only idle refl)

pub steps_told : PhasesGive → GivenIsLicensed → RunnersAreTold → StepsAreTold
steps_told give licensed runners system t later e accepted less = steps_are give licensed system t e ∙ ap (is_number e) (sym (runners system t later accepted less))

pub same_rows : StepsAreTold → SameRowsSameSteps
same_rows told left right t later e first second less same =
    told left t later e first less ∙ ap (λ (rows : _). is_number e (runner_in t rows)) same ∙ sym (told right t later e second less)
