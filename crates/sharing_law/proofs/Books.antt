-- What a tick does to a binding that is listed, and to its page.
use Rattle.std.proofs.Common.{◌≡◌, ℕ, suc, Bool, true, false, Option, Some, None, refl, sym, ◌∙◌, ap, subst, inl, inr, arith}
use Rattle.std.proofs.lemmas.Grind.{common_steps}
use Rattle.std.specs.Prelude.{◌⊎◌}
use Rattle.page_book.specs.declared.row.PageRow.{PageRow}
use Rattle.bind_book.specs.declared.binding.Binding.{Binding}
use Rattle.world_model.specs.declared.slot.Runner.{Runner}
use Rattle.world_model.specs.Book.{Book, is_idle_book, running}
use Rattle.world_model.specs.World.{World, after}
use Rattle.world_model.specs.Tick.{act_now, timer, step, step_when}
use Rattle.call_verdicts.specs.Granted.{GrantedMay}
use Rattle.run_model.specs.Run.{System, at_step, world_after}
use Rattle.run_model.proofs.Phases.{moments_in_order}
use Rattle.sharing_law.specs.Agreement.{IsAllocated, AreBoundAllocated}
use Rattle.sharing_law.proofs.Replies.{IsCarried, IsPut, WasListed, Remains, carried_allocated, told_carries}
use Rattle.sharing_law.proofs.Listing.{ListsLess, allocated_less}
use Rattle.sharing_law.proofs.Moments.{stays_idle, turned_lists}
use Rattle.sharing_law.proofs.Timing.{timer_remains}

step_carries : GrantedMay → (w : World) → AreBoundAllocated w → (runner : Option Runner) → w.book.runner ≡ runner → (e row : ℕ) (b : Binding) → (step_when w runner).book.binds e row ≡ Some b
    → IsPut w (step_when w runner).book.pages e row b ⊎ WasListed w (step_when w runner).book.pages e row b
step_carries granted w allocated None runs e row b is = inr (record { listed = is; carried = inl refl })
step_carries granted w allocated (Some r) runs e row b is = (told_carries granted w r.env allocated (act_now w r.env) (record { runs = ap running runs; comes = refl })).each e row b is

-- so the pages of all bindings are allocated after a step, too
pub step_allocated : GrantedMay → (v : World) → AreBoundAllocated v → AreBoundAllocated (after v (step v))
step_allocated granted v allocated e row b is =
    elim (step_carries granted v allocated v.book.runner refl e row b is) [
      | inl put ↦ subst IsAllocated (sym put.right.owned) tt
      | inr was ↦ carried_allocated e (v.book.pages b.page) ((step v).book.pages b.page) was.carried (allocated e row b was.listed)
    ]

-- what is left up to the step was there before
turned_listed : (w v : World) (pages : ℕ → PageRow) (e row : ℕ) (b : Binding) → ListsLess w.book v.book → WasListed v pages e row b → WasListed w pages e row b
turned_listed w v pages e row b less was =
    let left = less.each e row b was.listed in
    record { listed = left.listed; carried = subst (λ (old : PageRow). IsCarried e old (pages b.page)) left.page was.carried }

-- and the timer leaves what it doesn't unbind
put_timed : (v : World) (old new : Book) (e row : ℕ) (b : Binding) → Remains old new e row b → IsPut v old.pages e row b → IsPut v new.pages e row b
put_timed v old new e row b left put = grind (arith, common_steps)

listed_timed : (w : World) (old new : Book) (e row : ℕ) (b : Binding) → Remains old new e row b → WasListed w old.pages e row b → WasListed w new.pages e row b
listed_timed w old new e row b left was = record { listed = was.listed; carried = subst (λ (one : PageRow). IsCarried e (w.book.pages b.page) one) (sym left.page) was.carried }

-- A binding that is listed after a tick was put by its step, made in this world, or listed before the tick.
abbrev Carried : World → World → World → ℕ → ℕ → Binding → Type 0
Carried w mid next e row b = IsPut mid next.book.pages e row b ⊎ WasListed w next.book.pages e row b

abbrev timed : World → World
timed u = after u (timer u)

tick_carries : GrantedMay → (w mid : World) → ListsLess w.book mid.book → AreBoundAllocated mid → (e row : ℕ) (b : Binding)
    → (timed (after mid (step mid))).book.binds e row ≡ Some b → Carried w mid (timed (after mid (step mid))) e row b
tick_carries granted w mid same allocated e row b is =
    let u = after mid (step mid) in
    let left = timer_remains u e row b is in
    elim (step_carries granted mid allocated mid.book.runner refl e row b left.listed) [
      | inl put ↦ inl (put_timed mid u.book (timer u).book e row b left put)
      | inr was ↦ inr (listed_timed w u.book (timer u).book e row b left (turned_listed w mid u.book.pages e row b same was))
    ]

module _ (granted : GrantedMay) (system : System) (t : ℕ) (allocated : AreBoundAllocated (world_after system t)) where
  abbrev CarriedInto : World → ℕ → ℕ → Binding → Type 0
  CarriedInto next e row b = next.book.binds e row ≡ Some b → Carried (world_after system t) (at_step system t) next e row b

  by_idle : (idle : Bool) → is_idle_book (world_after system t).book ≡ idle → (e row : ℕ) (b : Binding) → CarriedInto (world_after system (suc t)) e row b
  by_idle true idle e row b =
      subst (λ (next : World). CarriedInto next e row b) (sym (stays_idle system t idle)) (λ is. inr (record { listed = is; carried = inl refl }))
  by_idle false busy e row b =
      subst (λ (next : World). CarriedInto next e row b) (sym ((moments_in_order system t).timed busy ∙ ap timed ((moments_in_order system t).stepped)))
      (tick_carries granted (world_after system t) (at_step system t) (turned_lists system t) (allocated_less (world_after system t) (at_step system t) (turned_lists system t) allocated) e row b)

  pub next_carries : (e row : ℕ) (b : Binding) → CarriedInto (world_after system (suc t)) e row b
  next_carries = by_idle (is_idle_book (world_after system t).book) refl
