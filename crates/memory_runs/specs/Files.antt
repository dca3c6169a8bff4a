-- Files by name.
use Rattle.std.specs.Prelude.{◌≡◌, ℕ, ◌==◌, ◌≤◌, List, [], Bool, Option, Some, None, option_map, IsSomeAnd, String, Vec, length, nat_le, if◌then◌else◌}
use Rattle.std.specs.List.{find, list_any}
use Rattle.std.specs.String.{string_bytes}
use Rattle.std.specs.Str.{bytes_eq}
use Rattle.std.specs.Global.{Global}
use Rattle.edge_io.specs.Limits.{file_limit}
use Rattle.memory_runs.specs.declared.shelf.MemoryShelf.{MemoryShelf}

-- a file: its name and its bytes
abbrev pub File : Type 0
File = String Global × Vec ℕ Global

-- the bytes of the first file of this name
abbrev pub file_named : List File → List ℕ → Option (List ℕ)
file_named files name =
    option_map (λ file. file.1.items) (find (λ file. bytes_eq (string_bytes file.0) name) files)

-- the bytes, where they are no more than a file may have
abbrev pub within_limit : Option (List ℕ) → Option (List ℕ)
within_limit None = None
within_limit (Some bytes) = if nat_le (length bytes) file_limit then Some bytes else None

-- the bytes that the read of this number finds: none where the number is one of those that fail, where there
-- is no such file, or where it is too long
abbrev pub found_at : List File → List ℕ → ℕ → List ℕ → Option (List ℕ)
found_at files fails call name =
    if list_any (λ n. n == call) fails then None else within_limit (file_named files name)

-- the number of the shelf's next read is one of those that fail
abbrev pub is_set_to_fail : MemoryShelf → Bool
is_set_to_fail shelf = list_any (λ n. n == shelf.kept.calls) shelf.fails.items

-- the bytes that the shelf's next read finds at the name
abbrev pub found : MemoryShelf → List ℕ → Option (List ℕ)
found shelf name = found_at shelf.files.items shelf.fails.items shelf.kept.calls name

-- no read has to fail, and the file is there and no longer than a file may be
abbrev pub IsSureOf : MemoryShelf → List ℕ → Type 0
IsSureOf shelf name =
    (shelf.fails.items ≡ [])
    × IsSomeAnd (file_named shelf.files.items name) (λ bytes. length bytes ≤ file_limit)
