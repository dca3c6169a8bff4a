-- What holds of each image that has no fault.
use Rattle.std.specs.Prelude.{ℕ, ◌≡◌, ◌≤◌, ◌<◌, ◌^◌, length, Option, IfSome, IsTrue, sum_by}
use Rattle.std.specs.List.{AllByRecursion}
use Rattle.aegis_limits.specs.Limits.{least_pages, least_quantum, most_quantum, most_slots, most_stack_pages, most_mappings}
use Rattle.aegis_limits.specs.VersionLimits.{most_pages_of, most_environments_of}
use Rattle.elf_static.specs.AcceptedElf.{IsAcceptedElf}
use Rattle.boot_image.specs.ImageValue.{ImageValue, ProgramValue, guaranteed_mappings}
use Rattle.boot_image.specs.ImageFaults.{is_name}

-- a program within its limits
pub record IsFitting (program : ProgramValue) : Type 0 where
  pub name : IsTrue (is_name program.name)
  pub name_length : length program.name ≡ 8
  pub stack : program.stack ≤ most_stack_pages
  pub accept : program.accept < 2 ^ 32
  pub body : IsAcceptedElf program.body
  pub mappings : guaranteed_mappings program ≤ most_mappings

-- a slot's owner, where it has one, is one of so many environments
abbrev pub IsOwnerBelow : ℕ → Option ℕ → Type 0
IsOwnerBelow count owner = IfSome owner (λ e. e < count)

-- an image within the limits of its version
pub record IsAccepted (image : ImageValue) : Type 0 where
  pub pages_least : least_pages ≤ image.pages
  pub pages_most : image.pages ≤ most_pages_of image.version
  pub quantum_least : least_quantum ≤ image.quantum
  pub quantum_most : image.quantum ≤ most_quantum
  pub slots_least : 1 ≤ length image.slots
  pub slots_most : length image.slots ≤ most_slots
  pub owners : AllByRecursion (IsOwnerBelow (length image.programs)) image.slots
  pub programs_least : 1 ≤ length image.programs
  pub programs_most : length image.programs ≤ most_environments_of image.version
  pub programs : AllByRecursion IsFitting image.programs
  pub room : sum_by guaranteed_mappings image.programs ≤ image.pages
