-- What a manifest says: an image without the bytes of its bodies, and the names of the files that have them.
use Rattle.std.specs.Prelude.{ℕ, List, map, Option}
use Rattle.aegis_limits.specs.declared.version.Version.{Version}
use Rattle.boot_image.specs.declared.entry.Entry.{Entry}
use Rattle.boot_image.specs.Spelling.{PlanValue}

-- an entry: a program without its body, and the name of the file that has the body
pub record ManifestEntryValue : Type 0 where
  pub entry : Entry
  pub file : List ℕ

-- a manifest: its version, counts of pages and of a slice's ticks, the owner of each slot, and an entry for each
-- environment
pub record ManifestValue : Type 0 where
  pub version : Version
  pub pages : ℕ
  pub quantum : ℕ
  pub slots : List (Option ℕ)
  pub entries : List ManifestEntryValue

-- the programs of entries, without their bodies
abbrev pub entries_in : List ManifestEntryValue → List Entry
entries_in entries = map (λ (e : ManifestEntryValue). e.entry) entries

-- what it says of the image
abbrev pub plan_in : ManifestValue → PlanValue
plan_in manifest = record {
  version = manifest.version;
  pages = manifest.pages;
  quantum = manifest.quantum;
  slots = manifest.slots;
  entries = entries_in manifest.entries;
}

-- the names of its files, one for each entry
abbrev pub files_in : ManifestValue → List (List ℕ)
files_in manifest = map (λ (e : ManifestEntryValue). e.file) manifest.entries
