-- The parts of a file, as the reader takes them one after another.
use Rattle.std.specs.Prelude.{ℕ, ◌≡◌, ◌<◌, ◌≤◌, true, IsTrue, List, map, Option, None, Some, nat_lt, if◌then◌else◌}
use Rattle.boot_image.specs.declared.program.Placed.{Placed}
use Rattle.boot_image.specs.declared.program.Programs.{Programs}
use Rattle.aegis_limits.specs.Limits.{most_mappings, most_stack_pages}
use Rattle.boot_image.specs.ImageValue.{ProgramValue, headers_from, bodies_end, body_end, name_in, base_in, stack_in, kind_in, length_in, program_at, guaranteed_mappings}
use Rattle.boot_image.specs.ImageFaults.{first_fault, is_base, is_name, mappings_fault}

-- the name and the numbers of a program's header keep the rules
pub record IsSoundHeader (file : List ℕ) (header : ℕ) : Type 0 where
  pub base : is_base (kind_in file header) (base_in file header) (length_in file header) ≡ true
  pub filled : kind_in file header ≡ 0 → 0 < length_in file header
  pub stack : stack_in file header ≤ most_stack_pages
  pub name : IsTrue (is_name (name_in file header))

-- a program, if it needs no more mappings than an environment may have
abbrev pub if_fitting : ProgramValue → Option ProgramValue
if_fitting program = if nat_lt most_mappings (guaranteed_mappings program) then None else Some program

-- the program with a header, and where its body ends
abbrev pub placed_at : List ℕ → ℕ → Placed
placed_at file header = record { program = if_fitting (program_at file header); end = body_end file header }

-- the programs of so many headers, the first of which stands at this place: where the last body ends, which
-- needs too many mappings first, and if none does, all of them
pub record ArePrograms (file : List ℕ) (count first : ℕ) (programs : Programs) : Type 0 where
  pub end : programs.end ≡ bodies_end count file first
  pub crowded : programs.crowded ≡ first_fault (mappings_fault file) (headers_from count file first)
  pub list : programs.crowded ≡ None → programs.list.items ≡ map (program_at file) (headers_from count file first)
