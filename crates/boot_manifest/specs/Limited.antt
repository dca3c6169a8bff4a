-- What holds of each manifest that has no fault.
use Rattle.std.specs.Prelude.{◌≡◌, ◌≤◌, ◌<◌, ◌^◌, length, IsTrue}
use Rattle.std.specs.List.{AllByRecursion}
use Rattle.aegis_limits.specs.Limits.{least_pages, least_quantum, most_quantum, most_slots, most_stack_pages}
use Rattle.aegis_limits.specs.VersionLimits.{most_pages_of, most_environments_of}
use Rattle.boot_image.specs.Accepted.{IsOwnerBelow}
use Rattle.boot_image.specs.ImageFaults.{is_name}
use Rattle.boot_image.specs.Spelling.{base_number}
use Rattle.boot_manifest.specs.ManifestValue.{ManifestEntryValue, ManifestValue}

-- an entry within its limits
pub record IsEntry (e : ManifestEntryValue) : Type 0 where
  pub name : IsTrue (is_name e.entry.name)
  pub name_length : length e.entry.name ≡ 8
  pub base : base_number e.entry.kind < 2 ^ 32
  pub stack : e.entry.stack ≤ most_stack_pages
  pub accept : e.entry.accept < 2 ^ 32

-- a manifest within the limits of its version
pub record IsLimited (manifest : ManifestValue) : Type 0 where
  pub pages_least : least_pages ≤ manifest.pages
  pub pages_most : manifest.pages ≤ most_pages_of manifest.version
  pub quantum_least : least_quantum ≤ manifest.quantum
  pub quantum_most : manifest.quantum ≤ most_quantum
  pub slots_least : 1 ≤ length manifest.slots
  pub slots_most : length manifest.slots ≤ most_slots
  pub owners : AllByRecursion (IsOwnerBelow (most_environments_of manifest.version)) manifest.slots
  pub entries_least : 1 ≤ length manifest.entries
  pub entries_most : length manifest.entries ≤ most_environments_of manifest.version
  pub entries : AllByRecursion IsEntry manifest.entries
