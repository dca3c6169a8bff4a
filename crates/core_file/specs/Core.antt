-- The core of an environment: an ELF core file of its registers and of the pages that it sees.
use Rattle.std.specs.Prelude.{◌≤◌, ◌<◌, ℕ, ◌+◌, ◌*◌, ◌%◌, ◌^◌, Bool, List, [], ◌∷◌, ◌++◌, length, if◌then◌else◌}
use Rattle.std.specs.List.{flat_map}
use Rattle.aegis_limits.specs.Limits.{most_mappings, page_size}
use Rattle.elf_static.specs.Layout.{halves, identification, words}
use Rattle.world_model.specs.Solo.{sight}
use Rattle.world_model.specs.World.{World}
use Rattle.core_file.specs.declared.runs.Run.{Run}
use Rattle.core_file.specs.Notes.{notes_size, notes_text}
use Rattle.core_file.specs.Pages.{PageValue, pages_seen}
use Rattle.core_file.specs.Runs.{runs_of}

-- the file header, for so many program headers, whose number is a half word (`HasFewHeaders`)
unfoldable pub core_header : ℕ → List ℕ
core_header headers =
    identification
    -- type and machine
    ++ halves (4 ∷ 8 ∷ [])
    -- version, entry, places of the program headers and of the section headers, and the flags of the o32 convention
    ++ words (1 ∷ 0 ∷ 52 ∷ 0 ∷ 0x1000 ∷ [])
    -- bytes of this header; bytes and number of the program headers; these of the section headers, and the one of their
    -- names
    ++ halves (52 ∷ 32 ∷ headers % 2 ^ 16 ∷ 0 ∷ 0 ∷ 0 ∷ [])

-- where the notes begin, after so many program headers, and where the pages
abbrev pub notes_start : ℕ → ℕ
notes_start headers = 52 + 32 * headers

abbrev pub pages_start : ℕ → ℕ
pages_start headers = notes_start headers + notes_size

-- the header of the notes
unfoldable pub notes_header : ℕ → List ℕ
notes_header offset = words (4 ∷ offset ∷ 0 ∷ 0 ∷ notes_size ∷ 0 ∷ 0 ∷ 4 ∷ [])

-- reading, writing if a run may be stored to, and executing
abbrev pub run_flags : Bool → ℕ
run_flags writable = if writable then 4 + 2 + 1 else 4 + 1

-- the header of a run whose bytes stand at this offset
unfoldable pub run_header : ℕ → Run → List ℕ
run_header offset run =
    -- type and offset
    words (1 ∷ offset ∷ [])
    -- virtual and physical address
    ++ words (page_size * run.first ∷ 0 ∷ [])
    -- sizes in the file and in memory
    ++ words (page_size * run.count ∷ page_size * run.count ∷ [])
    -- flags and alignment
    ++ words (run_flags run.writable ∷ 1 ∷ [])

-- the headers of runs whose bytes follow one another from this offset on
abbrev pub run_headers : ℕ → List Run → List ℕ
run_headers offset [] = []
run_headers offset (run ∷ runs) = run_header offset run ++ run_headers (offset + page_size * run.count) runs

-- the headers of the file, where the pages make these runs
unfoldable pub headers_text : List Run → List ℕ
headers_text runs =
    let headers = 1 + length runs in
    core_header headers ++ notes_header (notes_start headers) ++ run_headers (pages_start headers) runs

-- the bytes of pages in order
abbrev pub pages_text : List PageValue → List ℕ
pages_text pages = flat_map (λ page. page.bytes) pages

-- the core of an environment: headers, notes, and the pages that it sees
unfoldable pub core_text : World → ℕ → List ℕ
core_text w e =
    let pages = pages_seen (sight (w.solos e)) in
    headers_text (runs_of pages) ++ notes_text w e ++ pages_text pages

-- A core of an environment without more guaranteed pages than an image may give it has fewer than 2 ^ 16 program headers.
abbrev pub HasFewHeaders : World → ℕ → Type 0
HasFewHeaders w e =
    length (w.solos e).kept ≤ most_mappings → 1 + length (runs_of (pages_seen (sight (w.solos e)))) < 2 ^ 16
