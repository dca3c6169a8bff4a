-- The image of the load: sixteen environments with one program, which own 64 slots in turn.
use Rattle.std.specs.Prelude.{ℕ, ◌+◌, ◌/◌, ◌%◌, ◌^◌, List, ◌++◌, map, replicate, take, Option, Some, codes}
use Rattle.std.specs.List.{range_with_len}
use Rattle.aegis_limits.specs.declared.version.Version.TheVariants.{One}
use Rattle.line_text.specs.Text.{dec_text}
use Rattle.boot_image.specs.ImageValue.{ImageValue}
use Rattle.boot_image.specs.declared.entry.Entry.{Entry}
use Rattle.boot_image.specs.declared.entry.Kind.TheVariants.{Elf}
use Rattle.boot_image.specs.Spelling.{PlanValue, image_text, image_with, program_text}
use Rattle.exos_text.specs.Draws.{drawn}
use Rattle.exos_text.specs.LoadElf.{load_elf}

-- the first draw gives the quantum, from 64 to 127
abbrev pub load_quantum : ℕ → ℕ
load_quantum seed = 64 + drawn 1 seed / 2 ^ 16 % 64

-- slot s is owned by s modulo 16
abbrev pub load_slots : List (Option ℕ)
load_slots = map (λ slot. Some (slot % 16)) (range_with_len 0 64)

-- l0 to l15, with zeros up to eight bytes
abbrev pub load_name : ℕ → List ℕ
load_name env = take 8 (codes "l" ++ dec_text env ++ replicate 8 0)

-- Each program is an ELF file, without a stack, and accepts transfers from nobody.
abbrev pub load_entry : List ℕ → Entry
load_entry name = record { name = name; kind = Elf; stack = 0; accept = 0 }

unfoldable pub load_entries : List Entry
load_entries = map load_entry (map load_name (range_with_len 0 16))

abbrev pub load_plan : ℕ → PlanValue
load_plan seed = record {
  version = One;
  pages = 256;
  quantum = load_quantum seed;
  slots = load_slots;
  entries = load_entries;
}

abbrev pub load_bodies : List (List ℕ)
load_bodies = replicate 16 load_elf

-- how the program of a name stands in the file
abbrev pub named_text : List ℕ → List ℕ
named_text name = program_text (load_entry name) load_elf

-- the image's file, and what it means
unfoldable pub load_image_text : ℕ → List ℕ
load_image_text seed = image_text (load_plan seed) load_bodies

unfoldable pub load_image_value : ℕ → ImageValue
load_image_value seed = image_with (load_plan seed) load_bodies
