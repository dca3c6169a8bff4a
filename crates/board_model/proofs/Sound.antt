-- The slots of a board go on being sound.
use Rattle.std.proofs.Common.{◌≡◌, ◌≢◌, ℕ, zero, suc, ◌+◌, ◌%◌, ◌<◌, ◌≤◌, List, [], ◌∷◌, length, map, Bool, true, false, Option, Some, None, IfSome, refl, sym, ◌∙◌, ap, subst, arith, rules}
use Rattle.std.specs.Option.{option_map}
use Rattle.std.specs.Prelude.{if◌then◌else◌, nat_lt, All, slice_get, slice_index_or, slice_set}
use Rattle.std.proofs.Common.{length-set}
use Rattle.std.proofs.lemmas.Bool.{eq-eqb, eqb-false, ltb-false, or_parts}
use Rattle.std.proofs.lemmas.List.{length-map}
use Rattle.std.proofs.lemmas.List.Sums.{sum_by-le}
use Rattle.std.proofs.lemmas.Grind.{common_steps}
use Rattle.aegis_limits.specs.Limits.{most_slots, excess_limit}
use Rattle.mips_exec.specs.declared.registers.Cpu.{Cpu}
use Rattle.slot_vector.specs.declared.turn.NextTurn.TheVariants as next
use Rattle.world_model.specs.declared.timer.Timer.{Timer}
use Rattle.world_model.specs.declared.timer.Timer.TheVariants as timer
use Rattle.slot_vector.specs.Slices.{Slices, HasTicks, after_timer, after_turn, excess_of, given_to, hold_at, next_held, in_grace_again, next_turn, slots_given, timer_answer, timer_by, turn_ended, with_hold, without_env}
use Rattle.slot_vector.specs.Laws.{owed_by_all}
use Rattle.slot_vector.proofs.Whole.{ran_is}
use Rattle.env_frames.specs.declared.context.Context.{Context}
use Rattle.world_model.specs.declared.hold.Hold.{Hold}
use Rattle.world_model.specs.declared.slot.Runner.{Runner}
use Rattle.world_model.specs.declared.slot.Turn.{Turn}
use Rattle.world_model.specs.declared.slot.Phase.{Phase}
use Rattle.world_model.specs.declared.slot.Phase.TheVariants as phase
use Rattle.world_model.specs.Book.{first_turn, has_part, is_runner, hold_without, running, turn_or}
use Rattle.world_model.specs.SlotCalls.{dropped, held_by}
use Rattle.world_model.specs.declared.life.Life.TheVariants.{Live}
use Rattle.world_model.specs.declared.life.Cause.{Cause}
use Rattle.board_model.specs.declared.roster.Environment.{Environment}
use Rattle.board_model.specs.Shown.{Environments, with_record, with_list}
use Rattle.board_model.specs.Sound.{HasNoPart, IsAlive, IsLiving, IsUndead, SlotsAgree}
use Rattle.board_model.specs.Doing.{with_mask, with_bytes_put, with_replies_sent, with_packet_sent, slots_settled, with_registers, with_handler_at, dead_frame}
use Rattle.board_model.proofs.Lists.{changed_else, length-changed}
use Rattle.board_model.proofs.Seen.{runner_live}
use Rattle.board_model.proofs.Slots.{hold_is}

-- whoever will live lives, once all are there
undead_alive : (list : List Environment) (e : ℕ) → e < length list → IfSome (slice_get list e) (λ x. x.life ≡ Live) → IsAlive (slice_get list e)
undead_alive [] e within live = absurd (omega arith)
undead_alive (x ∷ list) zero within live = live
undead_alive (x ∷ list) (suc e) within live = undead_alive list e (omega arith) live

undead_live : (r : Environments) (e : ℕ) → r.spare ≡ 0 → IsUndead r e → IsLiving r.list e
undead_live r e whole undead = let within : e < length r.list = omega (arith, undead.0, whole) in (within, undead_alive r.list e within undead.1)

-- the holder of a turn is a holder of the slots
module _ (r : Environments) (slots : ℕ → Option Hold) (count : ℕ) (whole : r.spare ≡ 0) (holds : (k : ℕ) → IfSome (slots k) (λ h. IsUndead r h.owner × IsUndead r h.holder)) (t : Turn) where
  by_hold : (at : ℕ) (hold : Option Hold) (later : Option Turn) → IfSome hold (λ h. IsUndead r h.owner × IsUndead r h.holder) → (later ≡ Some t → IsLiving r.list t.env) → turn_or at hold later ≡ Some t → IsLiving r.list t.env
  by_hold at hold later held further is = search (rules, undead_live)

  first_live : (place tries : ℕ) → first_turn slots count place tries ≡ Some t → IsLiving r.list t.env
  first_live place zero is = cc
  first_live place (suc tries) is =
      let at = (place + 1) % count in
      by_hold at (slots at) (first_turn slots count at tries) (holds at) (λ further. first_live at tries further) is

-- whose turn is next lives, once all are there
pub held_live : (v : Slices) (r : Environments) (t : Turn) → SlotsAgree v r → r.spare ≡ 0 → next_held v ≡ Some t → IsLiving r.list t.env
held_live v r t manned whole is = first_live r (hold_at v.slots) (length v.slots) whole manned.holds t v.cursor (length v.slots) is

pub turn_live : (v : Slices) (r : Environments) (t : Turn) → SlotsAgree v r → r.spare ≡ 0 → next_turn v ≡ next.Run t → IsLiving r.list t.env
turn_live v r t manned whole is = held_live v r t manned whole (ran_is (excess_of v.excess) (next_held v) t is).0

-- the vector once somebody runs
pub run_manned : (v : Slices) (r : Environments) (t : Turn) → SlotsAgree v r → IsLiving r.list t.env → SlotsAgree (after_turn v (next.Run t)) r
run_manned v r t manned lives = search rules

-- what holds of an element that was written, and of the others, holds of all
pub set_all : {A : Type 0} (P : A → Type 0) (xs : List A) (k i : ℕ) (x d : A) → P x → P (slice_index_or xs i d) → P (slice_index_or (slice_set xs k x) i d)
set_all P xs k i x d new old = grind (arith, common_steps)

-- the vector once an excess is another, which is within the limit
owing_manned : (v : Slices) (r : Environments) (e excess : ℕ) → excess ≤ excess_limit → SlotsAgree v r → SlotsAgree (record v { excess = slice_set v.excess e excess }) r
owing_manned v r e excess most manned = grind (arith, common_steps, length-set, set_all)

-- a slot is forfeited
pub pay_manned : (v : Slices) (r : Environments) (t : Turn) → SlotsAgree v r → SlotsAgree (after_turn v (next.Pay t)) r
pay_manned v r t manned = search (rules, owing_manned)

-- what all environments owe together
each_owes : (excess : List ℕ) → ((e : ℕ) → excess_of excess e ≤ excess_limit) → All (λ n. n ≤ excess_limit) excess
each_owes [] most k d within = absurd (omega arith)
each_owes (n ∷ excess) most zero d within = most 0
each_owes (n ∷ excess) most (suc k) d within = each_owes excess (λ e. most (suc e)) k d (omega arith)

pub owed_most : (v : Slices) (r : Environments) → SlotsAgree v r → owed_by_all v ≤ 256
owed_most v r manned = omega (arith, sum_by-le (λ n. n) excess_limit v.excess (each_owes v.excess manned.owes), manned.numbered)

-- numbers that neither live nor die by the change of one record
module _ (r : Environments) (f : Environment → Environment) (e : ℕ) where
  changed_undead : (i : ℕ) → i ≢ e → IsUndead r i → IsUndead (with_list r (with_record f r.list e)) i
  changed_undead i ne undead = (omega (arith, undead.0, length-changed f r.list e), rw (changed_else f r.list e i ne) undead.1)

-- the others live on where one dies
pub others_live : (list : List Environment) (cause : Cause) (e i : ℕ) → i ≢ e → IsLiving list i → IsLiving (with_record (dead_frame cause) list e) i
others_live list cause e i other live = (omega (arith, live.0, length-changed (dead_frame cause) list e), subst IsAlive (sym (changed_else (dead_frame cause) list e i other)) live.1)

-- what changes neither an environment's life nor its pages
pub record Keeps (f : Environment → Environment) : Type 0 where
  pub life : (x : Environment) → (f x).life ≡ x.life
  pub mappings : (x : Environment) → (f x).env.mappings ≡ x.env.mappings

pub keeps_registers : (cpu : Cpu) → Keeps (with_registers cpu)
keeps_registers cpu = record { life = λ x. refl; mappings = λ x. refl }

pub keeps_handling : (context : Context) (address : ℕ) → Keeps (with_handler_at context address)
keeps_handling context address = record { life = λ x. refl; mappings = λ x. refl }

pub keeps_accepting : (mask : ℕ) → Keeps (with_mask mask)
keeps_accepting mask = record { life = λ x. refl; mappings = λ x. refl }

pub keeps_putting : (bytes : List ℕ) → Keeps (with_bytes_put bytes)
keeps_putting bytes = record { life = λ x. refl; mappings = λ x. refl }

pub keeps_sending : (bytes : List ℕ) → Keeps (with_packet_sent bytes)
keeps_sending bytes = record { life = λ x. refl; mappings = λ x. refl }

pub keeps_replying : (replies : List (List ℕ)) → Keeps (with_replies_sent replies)
keeps_replying replies = record { life = λ x. refl; mappings = λ x. refl }

pub if_both : {A : Type 0} {P Q : A → Type 0} (x : Option A) → ((a : A) → x ≡ Some a → P a → Q a) → IfSome x P → IfSome x Q
if_both x f holds = search rules

module _ (f : Environment → Environment) (keeps : Keeps f) where
  kept_undying : (list : List Environment) (e i : ℕ) → IfSome (slice_get list i) (λ x. x.life ≡ Live) → IfSome (slice_get (with_record f list e) i) (λ x. x.life ≡ Live)
  kept_undying [] e i live = live
  kept_undying (x ∷ list) zero zero live = keeps.life x ∙ live
  kept_undying (x ∷ list) zero (suc i) live = live
  kept_undying (x ∷ list) (suc e) zero live = live
  kept_undying (x ∷ list) (suc e) (suc i) live = kept_undying list e i live

  kept_alive : (list : List Environment) (e i : ℕ) → IsAlive (slice_get list i) → IsAlive (slice_get (with_record f list e) i)
  kept_alive [] e i live = live
  kept_alive (x ∷ list) zero zero live = keeps.life x ∙ live
  kept_alive (x ∷ list) zero (suc i) live = live
  kept_alive (x ∷ list) (suc e) zero live = live
  kept_alive (x ∷ list) (suc e) (suc i) live = kept_alive list e i live

  kept_undead : (r : Environments) (e i : ℕ) → IsUndead r i → IsUndead (with_list r (with_record f r.list e)) i
  kept_undead r e i undead = (omega (arith, undead.0, length-changed f r.list e), kept_undying r.list e i undead.1)

  pub kept_live : (list : List Environment) (e i : ℕ) → IsLiving list i → IsLiving (with_record f list e) i
  kept_live list e i live = (omega (arith, live.0, length-changed f list e), kept_alive list e i live.1)

  pub keep_manned : (v : Slices) (r : Environments) (e : ℕ) → SlotsAgree v r → SlotsAgree v (with_list r (with_record f r.list e))
  keep_manned v r e manned = search (rules, if_both, kept_live, kept_undead)

-- the turn ends
pub end_manned : (v : Slices) (r : Environments) → SlotsAgree v r → SlotsAgree (turn_ended v) r
end_manned v r manned = record { quantum = manned.quantum; ticks = tt; runner = tt; holds = manned.holds; count = manned.count; numbered = manned.numbered; owes = manned.owes }

-- whoever runs lives, and is one of the environments
pub runner_alive : (v : Slices) (r : Environments) (e : ℕ) → SlotsAgree v r → running v.runner ≡ Some e → IsLiving r.list e
runner_alive v r e manned runs = runner_live r.list e v.runner manned.runner runs

-- the slots once one is gone
pub hold_at-released : (e : ℕ) (slots : List (Option Hold)) (k : ℕ) → hold_at (map (hold_without e) slots) k ≡ hold_without e (hold_at slots k)
hold_at-released e [] k = refl
hold_at-released e (hold ∷ slots) zero = refl
hold_at-released e (hold ∷ slots) (suc k) = hold_at-released e slots k

-- a release leaves it none
module _ (v : Slices) (r : Environments) (e : ℕ) where
  released_part : (hold : Option Hold) → has_part e (hold_without e hold) ≡ false
  released_part None = refl
  released_part (Some h) = grind arith

  ended : (o : Option Runner) → is_runner e (if is_runner e o then None else o) ≡ false
  ended None = refl
  ended (Some x) = grind arith

  pub none_left : HasNoPart e (without_env e v)
  none_left = record { runs = ended v.runner; parts = λ k. rw (hold_at-released e v.slots k) (released_part (hold_at v.slots k)) }

  released_undead : (hold : Option Hold) → IfSome hold (λ h. IsUndead r h.owner × IsUndead r h.holder) → IfSome (hold_without e hold) (λ h. IsUndead r h.owner × IsUndead r h.holder)
  released_undead hold undead = search rules

  pub release_manned : is_runner e v.runner ≡ true → SlotsAgree v r → SlotsAgree (without_env e v) r
  release_manned runs manned = rw runs (record {
    quantum = manned.quantum;
    ticks = tt;
    runner = tt;
    holds = λ k. rw (hold_at-released e v.slots k) (released_undead (hold_at v.slots k) (manned.holds k));
    count = omega (arith, length-map v.slots (hold_without e), manned.count);
    numbered = length-set v.excess e 0 ∙ manned.numbered;
    owes = λ i. set_all (λ n. n ≤ excess_limit) v.excess e i 0 0 (omega arith) (manned.owes i);
  })

-- and then it may die
module _ (v : Slices) (r : Environments) (e : ℕ) (cause : Cause) (none : HasNoPart e v) where
  still_undead : (hold : Option Hold) → has_part e hold ≡ false → IfSome hold (λ h. IsUndead r h.owner × IsUndead r h.holder) → IfSome hold (λ h. IsUndead (with_list r (with_record (dead_frame cause) r.list e)) h.owner × IsUndead (with_list r (with_record (dead_frame cause) r.list e)) h.holder)
  still_undead hold apart undead = search (rules, or_parts, eqb-false, changed_undead)

  still_live : (o : Option Runner) → is_runner e o ≡ false → IfSome o (λ x. IsLiving r.list x.env) → IfSome o (λ x. IsLiving (with_record (dead_frame cause) r.list e) x.env)
  still_live o apart live = search (rules, others_live, eqb-false)

  pub burial_manned : SlotsAgree v r → SlotsAgree v (with_list r (with_record (dead_frame cause) r.list e))
  burial_manned manned = search (rules, still_live, still_undead)

-- what was written once is written over
set_again : (xs : List ℕ) (k x y : ℕ) → slice_set (slice_set xs k x) k y ≡ slice_set xs k y
set_again [] k x y = refl
set_again (z ∷ xs) zero x y = refl
set_again (z ∷ xs) (suc k) x y = ap (λ ys. z ∷ ys) (set_again xs k x y)

-- the vector once what the timer brought is settled
abbrev use_of : ℕ → Slices → Timer → Slices
use_of e v answer = slots_settled e (after_timer v answer) answer

-- a runner of too much excess is released at once
killed_is : (v : Slices) (x : Runner) → v.runner ≡ Some x → without_env x.env (after_timer v timer.Kill) ≡ without_env x.env v
killed_is v x is = grind (arith, eq-eqb, set_again)

killed_manned : (v : Slices) (r : Environments) (x : Runner) → SlotsAgree v r → v.runner ≡ Some x → SlotsAgree (without_env x.env (after_timer v timer.Kill)) r
killed_manned v r x manned is =
    let runs : is_runner x.env v.runner ≡ true = ap (is_runner x.env) is ∙ eq-eqb x.env x.env refl in
    rw (killed_is v x is) (release_manned v r x.env runs manned)

-- the timer
module _ (v : Slices) (r : Environments) (manned : SlotsAgree v r) where
  -- the runner, with as many ticks and in this phase
  again : (x : Runner) (left : ℕ) (in_phase : Phase) → IsLiving r.list x.env → 1 ≤ left → SlotsAgree (record v { runner = Some (record x { left = left; phase = in_phase }) }) r
  again x left in_phase live some = search rules

  -- the runner has another quantum, in time of grace
  graced : (x : Runner) → v.runner ≡ Some x → IsLiving r.list x.env → SlotsAgree (record v { runner = in_grace_again v v.runner }) r
  graced x is live = rw is (again x v.quantum phase.Grace live manned.quantum)

  -- and owes more
  overrun : (x : Runner) (excess : ℕ) → v.runner ≡ Some x → IsLiving r.list x.env → excess ≤ excess_limit → SlotsAgree (after_timer v (timer.Over excess)) r
  overrun x excess is live most = rw is (owing_manned (record v { runner = Some (record x { left = v.quantum; phase = phase.Grace }) }) r x.env excess most (again x v.quantum phase.Grace live manned.quantum))

  by_limit : (x : Runner) (excess : ℕ) (over : Bool) → v.runner ≡ Some x → IsLiving r.list x.env → nat_lt excess_limit excess ≡ over → SlotsAgree (use_of x.env v (if over then timer.Kill else timer.Over excess)) r
  by_limit x excess true is live test = killed_manned v r x manned is
  by_limit x excess false is live test = overrun x excess is live (ltb-false excess_limit excess test)

  by_runner : (o : Option Runner) (e : ℕ) (has_end : Bool) → v.runner ≡ o → running o ≡ Some e → IfSome o (λ x. IsLiving r.list x.env) → HasTicks o → SlotsAgree (use_of e v (timer_by o has_end (excess_of v.excess))) r
  by_runner o e has_end is its live some = search (rules, eqb-false, end_manned, graced, by_limit, again)

  pub timer_manned : (e : ℕ) (has_end : Bool) → running v.runner ≡ Some e → SlotsAgree (use_of e v (timer_answer v has_end)) r
  timer_manned e has_end runs = by_runner v.runner e has_end refl runs manned.runner manned.ticks

-- what holds of a slot's new hold, and of the others, holds of all
hold_all : (P : Option Hold → Type 0) (slots : List (Option Hold)) (k i : ℕ) (hold : Option Hold) → P hold → P (hold_at slots i) → P (hold_at (slice_set slots k hold) i)
hold_all P slots k i hold new old = subst P (sym (hold_is (slice_set slots k hold) i)) (set_all P slots k i hold None new (subst P (hold_is slots i) old))

-- a slot has another hold
pub hold_manned : (v : Slices) (r : Environments) (k : ℕ) (hold : Option Hold) → SlotsAgree v r → IfSome hold (λ h. IsUndead r h.owner × IsUndead r h.holder) → SlotsAgree (with_hold v k hold) r
hold_manned v r k hold manned undead = record {
  quantum = manned.quantum;
  ticks = manned.ticks;
  runner = manned.runner;
  holds = λ i. hold_all (λ o. IfSome o (λ h. IsUndead r h.owner × IsUndead r h.holder)) v.slots k i hold undead (manned.holds i);
  count = omega (arith, length-set v.slots k hold, manned.count);
  numbered = manned.numbered;
  owes = manned.owes;
}

alive_undying : (o : Option Environment) → IsAlive o → IfSome o (λ x. x.life ≡ Live)
alive_undying o alive = search rules

-- whoever lives may own a slot
live_undead : (r : Environments) (e : ℕ) → IsLiving r.list e → IsUndead r e
live_undead r e live = (omega (arith, live.0), alive_undying (slice_get r.list e) live.1)

-- another who lives holds a slot
held_undead : (r : Environments) (target : ℕ) (hold : Option Hold) → IsLiving r.list target → IfSome hold (λ h. IsUndead r h.owner × IsUndead r h.holder) → IfSome (option_map (held_by target) hold) (λ h. IsUndead r h.owner × IsUndead r h.holder)
held_undead r target hold lives undead = search (rules, live_undead)

-- another goes on with the rest of the slice, and has the slot with its later slices or not
pub given_manned : (v : Slices) (r : Environments) (target : ℕ) (later : Bool) → SlotsAgree v r → IsLiving r.list target → SlotsAgree (given_to target later v) r
given_manned v r target later manned lives = record {
  quantum = manned.quantum;
  ticks = search rules;
  runner = search rules;
  holds = given_holds later;
  count = given_count later;
  numbered = manned.numbered;
  owes = manned.owes;
}
  where
    given_holds : (b : Bool) (k : ℕ) → IfSome (hold_at (slots_given b target v) k) (λ h. IsUndead r h.owner × IsUndead r h.holder)
    given_holds false k = manned.holds k
    given_holds true k =
        let hold = option_map (held_by target) (hold_at v.slots v.cursor) in
        hold_all (λ o. IfSome o (λ h. IsUndead r h.owner × IsUndead r h.holder)) v.slots v.cursor k hold
        (held_undead r target (hold_at v.slots v.cursor) lives (manned.holds v.cursor))
        (manned.holds k)

    given_count : (b : Bool) → length (slots_given b target v) ≤ most_slots
    given_count false = manned.count
    given_count true = omega (arith, length-set v.slots v.cursor (option_map (held_by target) (hold_at v.slots v.cursor)), manned.count)

pub drop_manned : (v : Slices) (r : Environments) (e k : ℕ) → SlotsAgree v r → SlotsAgree (with_hold v k (dropped e (hold_at v.slots k))) r
drop_manned v r e k manned = search (rules, hold_manned)
