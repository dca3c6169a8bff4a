-- Who owns an interrupt line took it by a call of its own.
use Rattle.std.proofs.Common.{◌≡◌, ℕ, zero, suc, ◌+◌, List, [], ◌∷◌, map, Bool, true, false, Option, Some, None, inl, inr, refl, sym, ◌∙◌, ap, subst, arith}
use Rattle.std.specs.Prelude.{◌⊎◌, ◌==◌, if◌then◌else◌}
use Rattle.std.proofs.lemmas.Bool.{eqb-true}
use Rattle.boot_image.specs.ImageValue.{ImageValue, ProgramValue}
use Rattle.external_event.specs.declared.event.Occurrence.{Occurrence}
use Rattle.revocation_book.specs.declared.revocation.Taking.{Taking}
use Rattle.world_model.specs.declared.call.Call.{Call}
use Rattle.world_model.specs.declared.call.Deed.{Deed}
use Rattle.world_model.specs.declared.call.Deed.TheVariants.{TakesLine, DropsLine}
use Rattle.world_model.specs.declared.slot.Runner.{Runner}
use Rattle.world_model.specs.declared.verdict.Verdict.{Verdict}
use Rattle.world_model.specs.declared.verdict.Verdict.TheVariants.{Refuse, Again, Grant}
use Rattle.world_model.specs.Book.{Book, is_idle_book, running}
use Rattle.world_model.specs.Deadlines.{settles, takes, takings}
use Rattle.world_model.specs.Event.{happen}
use Rattle.world_model.specs.Item.{Step, deed_at}
use Rattle.world_model.specs.LineCalls.{is_line_of, line_without}
use Rattle.world_model.specs.Step.{Act, Calls, Dies}
use Rattle.world_model.specs.Tick.{act_now, act_reply, serve_phases, step, step_when, timer, turn}
use Rattle.world_model.specs.Verdict.{done, reply_by_verdict, reply_to, verdict}
use Rattle.world_model.specs.World.{World, Reply, after, run_phases, tells}
use Rattle.run_model.specs.Acting.{Acts, Does}
use Rattle.run_model.specs.Boot.{book_of_image, boot_world, with_all_kept, with_kept}
use Rattle.run_model.specs.Run.{System, at_deadlines, at_step, at_turn, happens_in, world_after}
use Rattle.run_model.proofs.Phases.{moments_in_order}
use Rattle.run_model.proofs.Telling.{call_does, call_stands}
use Rattle.sharing_law.specs.Lines.{LinesAreTaken}
use Rattle.sharing_law.proofs.Asking.{asking_or}
use Rattle.sharing_law.proofs.Happening.{happen_lists}
use Rattle.sharing_law.proofs.Live.{since_first, since_more}
use Rattle.sharing_law.proofs.Moments.{stays_idle}
use Rattle.sharing_law.proofs.Timing.{Comes, Died, Passed, timer_comes}
use Rattle.sharing_law.proofs.Turning.{turn_alike}

-- who has a line in a book had it in an earlier one
record LinesLess (old new : Book) : Type 0 where
  each : (e line : ℕ) → new.lines line ≡ Some e → old.lines line ≡ Some e

less_same : (old new : Book) → new.lines ≡ old.lines → LinesLess old new
less_same old new same = record { each = λ e line is. (λ k. sym same k line) ∙ is }

less_then : (a b c : Book) → LinesLess a b → LinesLess b c → LinesLess a c
less_then a b c first next = record { each = λ e line is. first.each e line (next.each e line is) }

-- what happens from outside, and what is taken
events_less : (happens : List Occurrence) (w : World) → LinesLess w.book (run_phases w (map happen happens)).book
events_less [] w = less_same w.book w.book refl
events_less (what ∷ happens) w =
    let v = after w (happen what w) in
    less_then w.book v.book (run_phases v (map happen happens)).book (less_same w.book v.book (happen_lists what w).lines) (events_less happens v)

served_less : (xs : List Taking) (w : World) → LinesLess w.book (run_phases w (serve_phases xs)).book
served_less [] w = let v = after w (settles w) in less_same w.book v.book refl
served_less (x ∷ xs) w =
    let v = after w (takes x w) in
    less_then w.book v.book (run_phases v (serve_phases xs)).book (less_same w.book v.book refl) (served_less xs v)

-- a death
left_line : (x e : ℕ) (owner : Option ℕ) → line_without x owner ≡ Some e → owner ≡ Some e
left_line x e owner is = by_test (is_line_of x owner) is
  where
    by_test : (its : Bool) → (if its then None else owner) ≡ Some e → owner ≡ Some e
    by_test true is = cc
    by_test false is = is

-- The step.
module _ (w : World) (e line : ℕ) where
  abbrev Was : Type 0
  Was = (w.book.lines line ≡ Some e) ⊎ Does w e (TakesLine line)

  set_line : (x l : ℕ) → Does w x (TakesLine l) → (here : Bool) → (line == l) ≡ here → (if here then Some x else w.book.lines line) ≡ Some e → Was
  set_line x l does true same is =
      let own : x ≡ e = cc in
      inr (subst (λ (n : ℕ). Does w n (TakesLine line)) own (subst (λ (n : ℕ). Does w x (TakesLine n)) (sym (eqb-true line l same)) does))
  set_line x l does false other is = inl is

  dropped_line : (here : Bool) → (if here then None else w.book.lines line) ≡ Some e → Was
  dropped_line true is = cc
  dropped_line false is = inl is

  deed_lines : (x : ℕ) (d : Deed) → Does w x d → (done w x d).book.lines line ≡ Some e → Was
  deed_lines x (TakesLine l) does is = set_line x l does (line == l) refl is
  deed_lines x (DropsLine l) does is = dropped_line (line == l) is
  deed_lines x d does is = inl is

  call_lines : (x : ℕ) (c : Option Call) → Acts w x (Calls c) → (v : Verdict) → verdict w x c ≡ v → (reply_by_verdict w x v).book.lines line ≡ Some e → Was
  call_lines x c acts (Refuse code value) granted is = inl is
  call_lines x c acts (Again who) granted is = asking_or (λ (r : Reply). r.book.lines line ≡ Some e → Was) w who (λ was. inl was) (λ p was. inl was) is
  call_lines x c acts (Grant value) granted is = deed_lines x (deed_at (w.solos x) value) (call_does w x c acts value granted) is

  act_lines : (x : ℕ) (act : Act) → Acts w x act → (act_reply x act (after w (tells x Step w))).book.lines line ≡ Some e → Was
  act_lines x (Calls c) acts is = call_lines x c acts (verdict w x c) refl (ap (λ (v : World). (reply_to v x c).book.lines line) (sym (call_stands w x c acts.comes)) ∙ is)
  act_lines x (Dies cause) acts is = inl (left_line x e (w.book.lines line) is)
  act_lines x act acts is = inl is

  step_lines : (o : Option Runner) → w.book.runner ≡ o → (step_when w o).book.lines line ≡ Some e → Was
  step_lines None runs is = inl is
  step_lines (Some r) runs is = act_lines r.env (act_now w r.env) (record { runs = ap running runs; comes = refl }) is

-- The timer.
timed_less : (w : World) (r : Reply) → Comes w r → LinesLess w.book r.book
timed_less w r (Passed alike) = less_same w.book r.book alike.lists.lines
timed_less w r (Died x runs killed) = record { each = λ e line is. left_line x.env e (w.book.lines line) (ap (λ (b : Book). b.lines line) (sym killed.book) ∙ is) }

-- A tick.
module _ (system : System) (t : ℕ) where
  abbrev before : World
  before = world_after system t

  turned_less : LinesLess before.book (at_step system t).book
  turned_less =
      let order = moments_in_order system t in
      let early = at_deadlines system t in
      let late = at_turn system t in
      let turned = after late (turn late) in
      let happened = subst (λ (v : World). LinesLess before.book v.book) (sym order.happened) (events_less (happens_in system.schedule before) before) in
      let serving = subst (λ (v : World). LinesLess early.book v.book) (sym order.served) (served_less (takings early) early) in
      subst (λ (v : World). LinesLess before.book v.book) (sym order.turned)
      (less_then before.book late.book turned.book (less_then before.book early.book late.book happened serving) (less_same late.book turned.book (turn_alike late).lists.lines))

  module _ (e line : ℕ) where
    abbrev Came : World → Type 0
    Came next = next.book.lines line ≡ Some e → (before.book.lines line ≡ Some e) ⊎ Does (at_step system t) e (TakesLine line)

    tick_came : (let mid = at_step system t in let u = after mid (step mid) in Came (after u (timer u)))
    tick_came is =
        let mid = at_step system t in
        let u = after mid (step mid) in
        elim (step_lines mid e line mid.book.runner refl ((timed_less u (timer u) (timer_comes u)).each e line is)) [
          | inl was ↦ inl (turned_less.each e line was)
          | inr does ↦ inr does
        ]

    next_came : Came (world_after system (suc t))
    next_came = by_idle (is_idle_book before.book) refl
      where
        by_idle : (idle : Bool) → is_idle_book before.book ≡ idle → Came (world_after system (suc t))
        by_idle true idle = subst Came (sym (stays_idle system t idle)) (λ is. inl is)
        by_idle false busy =
            let order = moments_in_order system t in
            subst Came (sym (order.timed busy ∙ ap (λ (u : World). after u (timer u)) order.stepped)) tick_came

-- at boot no line has an owner
lines_booted : (e : ℕ) (programs : List ProgramValue) (b : Book) → (with_all_kept e programs b).lines ≡ b.lines
lines_booted e [] b = refl
lines_booted e (p ∷ programs) b = lines_booted (e + 1) programs (with_kept e p b)

none_owned : (image : ImageValue) (e line : ℕ) → (boot_world image).book.lines line ≡ Some e → ⊥
none_owned image e line is =
    let none = lines_booted 0 image.programs (book_of_image image) in
    let never : None ≡ Some e = (λ k. sym none k line) ∙ is in
    cc

pub lines_are_taken : LinesAreTaken
lines_are_taken system zero e line is = absurd (none_owned system.image e line is)
lines_are_taken system (suc t) e line is =
    elim (next_came system t e line is) [
      | inl was ↦
          let before = lines_are_taken system t e line was in
          record {
            since = before.since;
            earlier = omega (arith, before.earlier);
            took = before.took;
            owned = since_more before.since t (λ s. (world_after system s).book.lines line ≡ Some e) before.owned is;
          }
      | inr does ↦ record { since = t; earlier = omega arith; took = does; owned = since_first t (λ s. (world_after system s).book.lines line ≡ Some e) is }
    ]
