-- Which environments there are.
use Rattle.std.proofs.Common.{◌≡◌, ◌<◌, ◌≤◌, ◌∙◌, ℕ, zero, suc, List, [], ◌∷◌, Bool, true, false, ap, arith, length, refl}
use Rattle.std.specs.Prelude.{if◌then◌else◌}
use Rattle.std.proofs.lemmas.Bool.Decides.{Decides-ltb}
use Rattle.world_model.specs.Book.{is_idle_book}
use Rattle.world_model.specs.World.{World, Reply, after, run_phases}
use Rattle.run_model.specs.Run.{System, next_phases, world_after}
use Rattle.twin_run.specs.Answer.{is_there}

phases_keep : (w : World) (phases : List (World → Reply)) → (run_phases w phases).count ≡ w.count
phases_keep w [] = refl
phases_keep w (phase ∷ phases) = phases_keep (after w (phase w)) phases

count_by : (w : World) (n : ℕ) (phases : List (World → Reply)) → w.count ≡ n → (idle : Bool) → (if idle then w else run_phases w phases).count ≡ n
count_by w n phases so_far true = so_far
count_by w n phases so_far false = phases_keep w phases ∙ so_far

-- there are as many as the image has, at each time
pub count_is : (s : System) (t : ℕ) → (world_after s t).count ≡ length s.image.programs
count_is s zero = refl
count_is s (suc t) =
    let w = world_after s t in
    count_by w (length s.image.programs) (next_phases s.schedule w) (count_is s t) (is_idle_book w.book)

pub is_present : (s : System) (e t : ℕ) → e < (world_after s t).count → is_there s e ≡ true
is_present s e t less = let count = count_is s t in grind (arith, less, count)

pub is_absent : (s : System) (e t : ℕ) → (world_after s t).count ≤ e → is_there s e ≡ false
is_absent s e t past = let count = count_is s t in grind (arith, past, count)

pub below_count : (s : System) (e t : ℕ) (shown : World) → shown ≡ world_after s t → is_there s e ≡ true → e < shown.count
below_count s e t shown shows present =
    let count : shown.count ≡ length s.image.programs = ap (λ (w : World). w.count) shows ∙ count_is s t in
    let less : e < length s.image.programs = (Decides-ltb e (length s.image.programs)).0 present in
    omega (arith, count, less)
