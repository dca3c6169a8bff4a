-- A plain tick: what it leads to, and that it gives its runner a step, and nothing to one that sees no page to which the runner may store.
use Rattle.std.proofs.Common.{◌≡◌, ◌≤◌, ◌<◌, ◌+◌, ◌-◌, ℕ, List, [], ◌∷◌, ◌++◌, length, map, Bool, true, false, Option, Some, None, refl, sym, ◌∙◌, ap, subst, arith, rules}
use Rattle.std.specs.Prelude.{◌&&◌, if◌then◌else◌, is_none, slice_get}
use Rattle.std.proofs.lemmas.Bool.{eq-eqb, ne_eqb}
use Rattle.std.proofs.lemmas.List.{append-nil, length-append}
use Rattle.bind_book.specs.declared.binding.Binding.{Binding}
use Rattle.bind_book.specs.Stripe.{stripes}
use Rattle.revocation_book.specs.declared.revocation.Taking.{Taking}
use Rattle.slot_vector.specs.Slices.{left_of}
use Rattle.world_model.specs.declared.slot.Runner.{Runner}
use Rattle.world_model.specs.Book.{Book, is_idle_book, running, sees}
use Rattle.world_model.specs.Deadlines.{settles, takes, takings}
use Rattle.external_event.specs.declared.event.Occurrence.{Occurrence}
use Rattle.world_model.specs.Event.{Schedule, happen}
use Rattle.world_model.specs.Item.{Item, Step, absorb, absorb_all}
use Rattle.world_model.specs.PageCalls.{left_at}
use Rattle.world_model.specs.Solo.{Key, Kept, Physical, Solo, Store, is_dead}
use Rattle.world_model.specs.Step.{Act, Nothing, Stores, Calls, Raises, Dies, act_of, acted, step_alone, stepped as after_step}
use Rattle.world_model.specs.Tick.{act_now, act_reply, count_when, phases_after, serve_phases, step, step_when, timer, turn, turn_when, with_runner}
use Rattle.world_model.specs.World.{World, Reply, after, followed, in_turn, no_change, run_phases, tells}
use Rattle.run_model.specs.Run.{after_phase, next_items, next_phases, next_world}
use Rattle.run_model.proofs.Phases.{after_no_change, in_turn_is_each}
use Rattle.board_model.specs.declared.roster.Environment.{Environment}
use Rattle.board_model.specs.Shown.{Shown}
use Rattle.board_model.specs.Showing.{solo_or_absent, world_of}
use Rattle.board_model.specs.Stretch.{IsAtStep, IsOwnAct, IsOwnTick}
use Rattle.page_laws.specs.Through.{StoresGoThrough}
use Rattle.feed_run.specs.Reach.{IsOutOfReach}

-- In its next tick a world's runner makes a step that calls nobody, and nothing else happens.
pub record IsPlain (schedule : Schedule) (w : World) (r : ℕ) : Type 0 where
  pub quiet : schedule w.book.time ≡ []
  pub runs : running w.book.runner ≡ Some r
  pub at : IsAtStep w
  pub own : IsOwnTick w

-- No page that an environment has bound for writing, as it has its bindings itself, is one that another sees.
pub record IsApart (w : World) (writer e : ℕ) : Type 0 where
  pub unseen : (row : ℕ) (x : Binding) → (w.solos writer).binds row ≡ Some x → x.writable ≡ true → sees w.book e x.page ≡ false

-- an environment of a board has just the bindings that its book lists
listed_by : (b : Shown) (e : ℕ) (o : Option Environment) (row : ℕ) (x : Binding) → (solo_or_absent b e o).binds row ≡ Some x → stripes b.binds e row ≡ Some x
listed_by b e None row x is = cc
listed_by b e (Some env) row x is = is

pub apart_of_book : (b : Shown) (writer e : ℕ) → IsOutOfReach (world_of b).book writer e → IsApart (world_of b) writer e
apart_of_book b writer e out = record { unseen = λ row x is. out.unseen row x (listed_by b writer (slice_get b.roster.list writer) row x is) }

-- each taking writes a row
taken_rows : (xs : List Taking) (w : World) → length (run_phases w (serve_phases xs)).rows ≡ length w.rows + length xs
taken_rows [] w = ap length (append-nil w.rows) ∙ omega arith
taken_rows (x ∷ xs) w =
    let v = after w (takes x w) in
    let one : length v.rows ≡ length w.rows + 1 = length-append w.rows ((takes x w).rows) in
    let rest = taken_rows xs v in
    omega (arith, one, rest)

no_fewer : (w : World) (r : Reply) → length w.rows ≤ length (after w r).rows
no_fewer w r = let both = length-append w.rows r.rows in omega (arith, both)

-- a world that is at its step has nothing to serve
none_taken : (xs : List Taking) (w : World) → after_phase turn (run_phases w (serve_phases xs)) ≡ w → xs ≡ []
none_taken [] w same = refl
none_taken (x ∷ xs) w same =
    let v = run_phases w (serve_phases (x ∷ xs)) in
    let rows = ap (λ (u : World). length u.rows) same in
    let served = taken_rows (x ∷ xs) w in
    let more = no_fewer v (turn v) in
    absurd (omega (arith, rows, served, more))

-- whoever runs has its turn
on_turn : (w : World) (o : Option Runner) (e : ℕ) → running o ≡ Some e → turn_when w o ≡ no_change w
on_turn w None e runs = cc
on_turn w (Some r) e runs = refl

settled : (w : World) (e : ℕ) → running w.book.runner ≡ Some e → after_phase turn (run_phases w (serve_phases [])) ≡ w → after w (settles w) ≡ w
settled w e runs same =
    let v = after w (settles w) in
    sym (ap (after v) (on_turn v v.book.runner e runs) ∙ after_no_change v) ∙ same

-- whoever runs makes its step
abbrev its_step : World → ℕ → Reply
its_step w e = in_turn (tells e Step ∷ act_reply e (act_now w e) ∷ []) w

steps : (w : World) (o : Option Runner) (e : ℕ) → running o ≡ Some e → step_when w o ≡ its_step w e
steps w None e runs = cc
steps w (Some r) e runs = let same : r.env ≡ e = cc in ap (its_step w) same

-- a slice that lasts on gets shorter, and nothing else happens
counts : (w : World) (o : Option Runner) → 1 < left_of o → (r : Runner) × (count_when o w ≡ with_runner r w)
counts w None more = absurd (omega (arith, more))
counts w (Some r) more = (record r { left = r.left - 1 }, rw (ne_eqb r.left 1 (λ one. omega (arith, more, one))) refl)

-- an act that calls nobody is no act, or a store
own_act : (P : Act → Type 0) → P Nothing → ((x : Store) → P (Stores x)) → (act : Act) → IsOwnAct act → P act
own_act P none some Nothing own = none
own_act P none some (Stores x) own = some x
own_act P none some (Calls call) own = absurd own
own_act P none some (Raises exc) own = absurd own
own_act P none some (Dies cause) own = absurd own

-- who makes it has the bindings that it had
acted_binds : (s : Solo) (act : Act) → IsOwnAct act → (acted act s).binds ≡ s.binds
acted_binds s = own_act (λ (act : Act). (acted act s).binds ≡ s.binds) refl (λ x. refl)

step_binds : (s : Solo) → IsOwnAct (act_of s (step_alone s)) → (absorb s Step).binds ≡ s.binds
step_binds s own = by_life (is_dead s.life)
  where
    by_life : (dead : Bool) → (if dead then s else after_step s (step_alone s)).binds ≡ s.binds
    by_life true = refl
    by_life false = acted_binds _ (act_of s (step_alone s)) own

-- and isn't told of it
left_to_none : (b : Book) (e : ℕ) (x : Store) (key : Key) → left_at b e x key e ≡ []
left_to_none b e x (Kept vpn) = refl
left_to_none b e x (Physical page) = rw (eq-eqb e e refl) refl

-- where somebody runs a world isn't idle
pub busy : (b : Book) (e : ℕ) → running b.runner ≡ Some e → is_idle_book b ≡ false
busy b e runs = by_runner b.runner _ runs
  where
    by_runner : (o : Option Runner) (nobody : Bool) → running o ≡ Some e → (is_none o && nobody) ≡ false
    by_runner o nobody is = search rules

-- the phases of a plain tick that do something
abbrev plain_phases : List (World → Reply)
plain_phases = step ∷ timer ∷ []

module _ (schedule : Schedule) (w : World) (r : ℕ) (plain : IsPlain schedule w r) where
  nothing_due : takings w ≡ []
  nothing_due = none_taken (takings w) w plain.at

  served : after w (settles w) ≡ w
  served = settled w r plain.runs (subst (λ (xs : List Taking). after_phase turn (run_phases w (serve_phases xs)) ≡ w) nothing_due plain.at)

  plain_reply : in_turn (next_phases schedule w) w ≡ in_turn plain_phases w
  plain_reply =
      ap (λ (xs : List Occurrence). in_turn (phases_after xs (takings (run_phases w (map happen xs)))) w) plain.quiet
      ∙ ap (λ (xs : List Taking). in_turn (phases_after [] xs) w) nothing_due
      ∙ ap (λ (u : World). in_turn (turn ∷ plain_phases) u) served
      ∙ ap (λ (reply : Reply). followed reply (in_turn plain_phases (after w reply))) (on_turn w w.book.runner r plain.runs)
      ∙ ap (λ (u : World). in_turn plain_phases u) (after_no_change w)

  plain_world : next_world schedule w ≡ after w (in_turn plain_phases w)
  plain_world = rw (busy w.book r plain.runs) (sym (in_turn_is_each w (next_phases schedule w)) ∙ ap (after w) plain_reply)

  plain_items : (e : ℕ) → next_items schedule w e ≡ (in_turn plain_phases w).items e
  plain_items e = rw (busy w.book r plain.runs) (ap (λ (reply : Reply). reply.items e) plain_reply)

  own : IsOwnAct (act_now w r)
  own = plain.own.acts r plain.runs

  stepped : step w ≡ its_step w r
  stepped = steps w w.book.runner r plain.runs

  kept : (step w).book ≡ w.book
  kept = ap (λ (reply : Reply). reply.book) stepped ∙ own_act (λ (act : Act). (act_reply r act (after w (tells r Step w))).book ≡ w.book) refl (λ x. refl) (act_now w r) own

  counted : (o : Runner) × (count_when (after w (step w)).book.runner (after w (step w)) ≡ with_runner o (after w (step w)))
  counted = counts (after w (step w)) (after w (step w)).book.runner (subst (λ (n : ℕ). 1 < n) (ap (λ (b : Book). left_of b.runner) (sym kept)) plain.own.more)

  -- it gives what the act does
  by_act : (e : ℕ) → next_items schedule w e ≡ (its_step w r).items e
  by_act e =
      plain_items e
      ∙ (λ i. (stepped i).items e ++ (((counted.1 i).items e ++ []) ++ []))
      ∙ append-nil ((its_step w r).items e)

  pub own_tick : next_items schedule w r ≡ Step ∷ []
  own_tick =
      let v = after w (tells r Step w) in
      let none : (act_reply r (act_now w r) v).items r ≡ [] =
      own_act (λ (act : Act). (act_reply r act v).items r ≡ []) refl (λ x. left_to_none w.book r x x.key) (act_now w r) own in
      by_act r ∙ rw (eq-eqb r r refl, none) refl

  -- the runner has the bindings that it had, and each environment sees the pages that it saw
  own_binds : ((next_world schedule w).solos r).binds ≡ (w.solos r).binds
  own_binds =
      ap (λ (u : World). (u.solos r).binds) plain_world
      ∙ ap (λ (xs : List Item). (absorb_all (w.solos r) xs).binds) (sym (plain_items r) ∙ own_tick)
      ∙ step_binds (w.solos r) own

  same_sights : (e page : ℕ) → sees (next_world schedule w).book e page ≡ sees w.book e page
  same_sights e page =
      ap (λ (u : World). sees u.book e page) plain_world
      ∙ ap (λ (reply : Reply). sees reply.book e page) counted.1
      ∙ ap (λ (b : Book). sees b e page) kept

  pub still_apart : (e : ℕ) → IsApart w r e → IsApart (next_world schedule w) r e
  still_apart e apart = record {
    unseen = λ row x is writable. same_sights e x.page ∙ apart.unseen row x (ap (λ (of : ℕ → Option Binding). of row) (sym own_binds) ∙ is) writable;
  }

  -- what it stores goes through a binding whose page isn't seen
  module _ (through : StoresGoThrough) (e : ℕ) (other : e ≡ r → ⊥) (apart : IsApart w r e) where
    unseen : (x : Store) (page : ℕ) → act_now w r ≡ Stores x → x.key ≡ Physical page → sees w.book e page ≡ false
    unseen x page acts into =
        let it = through (w.solos r) x page acts into in
        ap (sees w.book e) (sym it.its) ∙ apart.unseen it.row it.binding it.found it.writable

    left_nothing : (x : Store) (key : Key) → x.key ≡ key → act_now w r ≡ Stores x → left_at w.book r x key e ≡ []
    left_nothing x (Kept vpn) is acts = refl
    left_nothing x (Physical page) is acts = rw (ne_eqb e r other, unseen x page acts is) refl

    pub others_tick : next_items schedule w e ≡ []
    others_tick =
        let v = after w (tells r Step w) in
        let none : (act_reply r (act_now w r) v).items e ≡ [] =
        own_act (λ (act : Act). act_now w r ≡ act → (act_reply r act v).items e ≡ []) (λ is. refl) (λ x is. left_nothing x x.key refl is) (act_now w r) own refl in
        by_act e ∙ rw (ne_eqb e r other, none) refl
