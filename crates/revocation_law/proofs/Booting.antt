-- At boot the time is 0, the quantum is the image's, and nothing is pending.
use Rattle.std.proofs.Common.{◌≡◌, ◌+◌, ℕ, List, [], ◌∷◌, None, refl}
use Rattle.boot_image.specs.ImageValue.{ImageValue, ProgramValue}
use Rattle.world_model.specs.Book.{Book}
use Rattle.run_model.specs.Boot.{boot_world, book_of_image, with_all_kept, with_kept}

pub record IsAsImaged (image : ImageValue) (b : Book) : Type 0 where
  pub time : b.time ≡ 0
  pub quantum : b.quantum ≡ image.quantum
  pub pending : b.pending ≡ (λ e. None)

all_kept_imaged : (image : ImageValue) (e : ℕ) (programs : List ProgramValue) (b : Book) → IsAsImaged image b → IsAsImaged image (with_all_kept e programs b)
all_kept_imaged image e [] b is = is
all_kept_imaged image e (p ∷ programs) b is = all_kept_imaged image (e + 1) programs (with_kept e p b) (record { time = is.time; quantum = is.quantum; pending = is.pending })

pub boot_imaged : (image : ImageValue) → IsAsImaged image (boot_world image).book
boot_imaged image = all_kept_imaged image 0 image.programs (book_of_image image) (record { time = refl; quantum = refl; pending = refl })
