-- What the words of a manifest's lines mean, if they are in their ranges.
use Rattle.std.specs.Prelude.{ℕ, ◌-◌, List, [], ◌∷◌, ◌++◌, Option, Some, None, length, nat_le, ◌&&◌, ◌==◌, if◌then◌else◌, codes, replicate}
use Rattle.std.specs.Option.{option_map, option_and_then}
use Rattle.std.specs.Str.{bytes_eq}
use Rattle.aegis_limits.specs.Limits.{most_stack_pages}
use Rattle.aegis_limits.specs.VersionLimits.{most_environments_of}
use Rattle.aegis_limits.specs.declared.version.Version.{Version}
use Rattle.aegis_limits.specs.declared.version.Version.TheVariants.{One, Two}
use Rattle.line_text.specs.Number.{number_of, number_within}
use Rattle.boot_image.specs.ImageFaults.{is_name}
use Rattle.boot_image.specs.declared.entry.Entry.{Entry}
use Rattle.boot_image.specs.declared.entry.Kind.{Kind}
use Rattle.boot_image.specs.declared.entry.Kind.TheVariants.{Flat, Elf}
use Rattle.boot_manifest.specs.Forms.{EnvWords}
use Rattle.boot_manifest.specs.ManifestValue.{ManifestEntryValue}

-- the version of a number
abbrev pub manifest_version : List ℕ → Option Version
manifest_version word =
    option_and_then
    (λ n. if n == 1 then Some One else if n == 2 then Some Two else None)
    (number_of word)

-- the owner of a slot: the number of an environment that the version allows, or `-` for an empty slot
abbrev pub owner_in : Version → List ℕ → Option (Option ℕ)
owner_in version word =
    if bytes_eq word (codes "-") then Some None else
    option_map (λ owner. Some owner) (number_within 0 (most_environments_of version - 1) word)

abbrev pub owners_in : Version → List (List ℕ) → Option (List (Option ℕ))
owners_in version [] = Some []
owners_in version (word ∷ words) =
    option_and_then
    (λ owner. option_map (λ owners. owner ∷ owners) (owners_in version words))
    (owner_in version word)

-- a name in its eight bytes, with zeros behind it
abbrev pub padded : List ℕ → List ℕ
padded word = word ++ replicate (8 - length word) 0

-- a name, by the rule of images
abbrev pub manifest_name : List ℕ → Option (List ℕ)
manifest_name word = if nat_le (length word) 8 && is_name (padded word) then Some (padded word) else None

-- how a body stands in its file: at its base, if it has one
abbrev pub manifest_kind : Option (List ℕ) → Option Kind
manifest_kind None = Some Elf
manifest_kind (Some base) = option_map (λ n. Flat n) (number_of base)

-- a program without its body
abbrev pub program_in : EnvWords → Option Entry
program_in words =
    option_and_then
    (λ name. option_and_then
    (λ kind. option_and_then
    (λ stack. option_map (λ accept. record {
      name = name;
      kind = kind;
      stack = stack;
      accept = accept;
    }) (number_of words.accept))
    (number_within 0 most_stack_pages words.stack))
    (manifest_kind words.base))
    (manifest_name words.name)

-- an entry: a program and the name of its file
abbrev pub entry_in : EnvWords → Option ManifestEntryValue
entry_in words = option_map (λ entry. record { entry = entry; file = words.file }) (program_in words)
