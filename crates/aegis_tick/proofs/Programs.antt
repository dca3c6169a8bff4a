-- The programs of an image, as a loop takes them.
use Rattle.std.proofs.Common.{◌≡◌, ◌≤◌, ℕ, zero, suc, ◌+◌, ◌<◌, List, [], ◌∷◌, length, take, arith}
use Rattle.std.specs.Prelude.{slice_index_or, sum_by}
use Rattle.std.proofs.lemmas.List.Sums.{sum_by-cons}
use Rattle.boot_image.specs.ImageValue.{ProgramValue, guaranteed_mappings}

-- the pages of those so far and of the next are within those of all
pages_at : (ps : List ProgramValue) (i : ℕ) (d : ProgramValue) → i < length ps → sum_by guaranteed_mappings (take i ps) + guaranteed_mappings (slice_index_or ps i d) ≤ sum_by guaranteed_mappings ps
pages_at [] i d within = absurd (omega arith)
pages_at (p ∷ ps) zero d within = omega (arith, sum_by-cons guaranteed_mappings p ps)
pages_at (p ∷ ps) (suc i) d within =
    omega (arith, pages_at ps i d (omega arith), sum_by-cons guaranteed_mappings p ps, sum_by-cons guaranteed_mappings p (take i ps))

-- so there are free pages for the next
pub room_at : (ps : List ProgramValue) (i : ℕ) (d : ProgramValue) (free left : ℕ) → i < length ps → sum_by guaranteed_mappings ps ≤ free
    → free ≡ left + sum_by guaranteed_mappings (take i ps) → guaranteed_mappings (slice_index_or ps i d) ≤ left
room_at ps i d free left within all so_far = omega (arith, pages_at ps i d within)
