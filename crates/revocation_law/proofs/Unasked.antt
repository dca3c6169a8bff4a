-- The quantum and the time of a run, and the ticks in which no revocation names an environment.
use Rattle.std.proofs.Common.{arith, ◌≡◌, ◌≢◌, ◌≤◌, ℕ, zero, suc, List, Bool, false, Some, sym, ◌∙◌, ap, subst, inl, inr}
use Rattle.std.specs.Prelude.{if◌then◌else◌, slice_get}
use Rattle.std.proofs.lemmas.Bool.{cases_Bool}
use Rattle.external_event.specs.declared.event.Occurrence.{Occurrence}
use Rattle.external_event.specs.declared.event.Occurrence.TheVariants as outside
use Rattle.world_model.specs.Book.{is_idle_book}
use Rattle.world_model.specs.Event.{Schedule}
use Rattle.world_model.specs.World.{run_phases}
use Rattle.run_model.specs.Boot.{boot_world}
use Rattle.run_model.specs.Run.{System, TimeIsTick, happens_in, next_phases, takings_next, world_after}
use Rattle.revocation_law.specs.Pressure.{IsUnasked}
use Rattle.revocation_law.proofs.Booting.{boot_imaged}
use Rattle.revocation_law.proofs.Fixed.{Pace, pace, tick_pace}

-- none of these events asks the environment
abbrev pub UnaskedIn : ℕ → List Occurrence → Type 0
UnaskedIn e happens = (k count grace : ℕ) → slice_get happens k ≢ Some (outside.Revoke e count grace)

pub sooner : (schedule : Schedule) (e t u : ℕ) → t ≤ u → IsUnasked schedule e u → IsUnasked schedule e t
sooner schedule e t u early unasked = λ s k count grace below. unasked s k count grace (omega (arith, early, below))

-- an idle world stays, and a tick that is made leaves the quantum
pub run_quantum : (system : System) (t : ℕ) → (world_after system t).book.quantum ≡ system.image.quantum
run_quantum system zero = (boot_imaged system.image).quantum
run_quantum system (suc t) =
    let w = world_after system t in
    let v = run_phases w (next_phases system.schedule w) in
    elim (cases_Bool (is_idle_book w.book)) [
      | inl idle ↦ ap (λ (b : Bool). (if b then w else v).book.quantum) idle ∙ run_quantum system t
      | inr busy ↦
          ap (λ (b : Bool). (if b then w else v).book.quantum) busy
          ∙ ap (λ (p : Pace). p.1) (tick_pace (happens_in system.schedule w) (takings_next system.schedule w) w)
          ∙ run_quantum system t
    ]

module _ (times : TimeIsTick) (system : System) where
  time_at : (t : ℕ) → is_idle_book (world_after system t).book ≡ false → (world_after system t).book.time ≡ t
  time_at t busy = times system.schedule (boot_world system.image) t (boot_imaged system.image).time busy

  pub at_pace : (t : ℕ) → is_idle_book (world_after system t).book ≡ false → pace (world_after system t).book ≡ (t, system.image.quantum)
  at_pace t busy = ap (λ (n : ℕ). (n, (world_after system t).book.quantum)) (time_at t busy) ∙ ap (λ (n : ℕ). (t, n)) (run_quantum system t)

  pub unasked_now : (e t : ℕ) → is_idle_book (world_after system t).book ≡ false → IsUnasked system.schedule e t → UnaskedIn e (happens_in system.schedule (world_after system t))
  unasked_now e t busy unasked = subst (λ (n : ℕ). UnaskedIn e (system.schedule n)) (sym (time_at t busy)) (λ k count grace. unasked t k count grace (omega arith))
