-- The worlds of a machine on a wire, by what is settled.
use Rattle.std.proofs.Common.{◌≡◌, ℕ, ◌+◌, List, [], ◌∷◌, refl, sym, ◌∙◌, ap}
use Rattle.boot_image.specs.ImageValue.{ImageValue, ProgramValue}
use Rattle.world_model.specs.Book.{Book}
use Rattle.world_model.specs.World.{World}
use Rattle.run_model.specs.Boot.{book_of_image, boot_world, with_all_kept, with_kept}
use Rattle.run_model.specs.Run.{world_after_ticks}
use Rattle.wire_model.specs.Laws.{BeginAtZero, WorldsAreSettled}
use Rattle.wire_model.specs.Wire.{wired}
use Rattle.wire_law.specs.Systems.{MachinesAreSystems}

-- a boot is at time 0
kept_time : (programs : List ProgramValue) (e : ℕ) (b : Book) → (with_all_kept e programs b).time ≡ b.time
kept_time [] e b = refl
kept_time (p ∷ programs) e b = kept_time programs (e + 1) (with_kept e p b)

boot_time : (image : ImageValue) → (boot_world image).book.time ≡ 0
boot_time image = kept_time image.programs 0 (book_of_image image)

pub machines_are_systems : WorldsAreSettled → MachinesAreSystems
machines_are_systems settled wire images i t known boots within below =
    let begins : BeginAtZero wire = λ j there. ap (λ (w : World). w.book.time) (boots j there) ∙ boot_time (images j) in
    sym (settled wire i t known begins within below)
    ∙ ap (λ (start : World). world_after_ticks (wired wire known i) start t) (boots i within)
