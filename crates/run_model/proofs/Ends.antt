-- At the end of a slice its environment doesn't run.
use Rattle.std.proofs.Common.{◌≡◌, ◌+◌, ℕ, zero, suc, List, [], ◌∷◌, None, Bool, true, false, refl, sym, ◌∙◌, ap, arith}
use Rattle.std.specs.Prelude.{◌||◌, not, if◌then◌else◌}
use Rattle.std.proofs.lemmas.Bool.{and_parts, not-true}
use Rattle.boot_image.specs.ImageValue.{ImageValue, ProgramValue}
use Rattle.world_model.specs.Book.{Book, is_runner}
use Rattle.run_model.specs.Boot.{boot_world, book_of_image, with_all_kept, with_kept}
use Rattle.run_model.specs.Slices.{SlicesEndLast, SlicesEndStopped, begins_in, ends_in, runs_after, slices}

-- nobody runs at boot
none_runs : (e : ℕ) (programs : List ProgramValue) (b : Book) → (with_all_kept e programs b).runner ≡ b.runner
none_runs e [] b = refl
none_runs e (p ∷ programs) b = none_runs (e + 1) programs (with_kept e p b)

boot_runs : (image : ImageValue) → (boot_world image).book.runner ≡ None
boot_runs image = none_runs 0 image.programs (book_of_image image)

-- the last of the ticks ends a slice
pub ends_last : SlicesEndLast
ends_last system e n t ends = by_end (ends_in system e t) refl
  where
    by_end : (ended : Bool) → ends_in system e t ≡ ended → ends_in system e t ≡ true
    by_end true is = is
    by_end false is =
        let same : slices system e t ≡ n = omega arith ∙ ap (λ (b : Bool). slices system e t + (if b then 1 else 0)) (sym is) ∙ ends.reached in
        absurd (omega (arith, ends.fewest t (omega arith), same))

pub slices_end_stopped : SlicesEndStopped
slices_end_stopped system e n zero ends = ap (is_runner e) (boot_runs system.image)
slices_end_stopped system e n (suc t) ends =
    not-true (runs_after system e (suc t)) (and_parts (runs_after system e t || begins_in system e t) (not (runs_after system e (suc t))) (ends_last system e n t ends)).1
