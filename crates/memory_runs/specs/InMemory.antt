-- What a call of the program promises over files and a sink in memory.
use Rattle.std.specs.Prelude.{◌≡◌, ◌⊎◌, ◌≤◌, ℕ, List, [], ◌++◌, Option, Some, length, true}
use Rattle.std.specs.List.{AllByRecursion}
use Rattle.edge_io.specs.Limits.{file_limit}
use Rattle.memory_runs.specs.Files.{File, file_named, is_set_to_fail}
use Rattle.memory_runs.specs.Room.{HasRoomFor}
use Rattle.memory_runs.specs.declared.shelf.MemoryShelf.{MemoryShelf}
use Rattle.memory_runs.specs.declared.sink.MemorySink.{MemorySink}
use Rattle.commands.specs.declared.status.Status.{Status}
use Rattle.commands.specs.declared.status.Status.TheVariants as status
use Rattle.commands.specs.Command.{CommandValue, names_of}
use Rattle.commands.specs.Due.{Due, status_of, due_text}
use Rattle.commands.specs.Files.{AreRead}
use Rattle.memory_runs.specs.declared.running.Output.{Output}

-- no longer than a file may be
abbrev pub IsWithinLimit : List ℕ → Type 0
IsWithinLimit bytes = length bytes ≤ file_limit

-- files of these names are there with these contents, and none is too long
pub record AreThere (shelf : MemoryShelf) (names contents : List (List ℕ)) : Type 0 where
  pub told : AreRead (Some (file_named shelf.files.items)) names contents
  pub short : AllByRecursion IsWithinLimit contents

-- no memory was found, and nothing was written
abbrev pub IsWantingInMemory : (before after : MemorySink) → Status → Type 0
IsWantingInMemory before after result = (result ≡ status.OutOfMemory) × (after.bytes.items ≡ before.bytes.items)

-- the text was written whole, with this status
abbrev pub IsWrittenInMemory : Status → List ℕ → (before after : MemorySink) → Status → Type 0
IsWrittenInMemory intended text before after result =
    (result ≡ intended) × (after.bytes.items ≡ before.bytes.items ++ text)

-- Where no call is set to fail, the files of a command are there and short enough, and there is room for what is due,
-- this is written whole with its status, or memory was wanting.
abbrev pub IsSureInMemory : Option CommandValue → MemoryShelf → (before after : MemorySink) → Status → Type 0
IsSureInMemory words shelf before after result =
    (command : CommandValue) (contents : List (List ℕ)) (due : Due) → words ≡ Some command → shelf.fails.items ≡ [] →
    AreThere shelf (names_of command contents) contents → command.due contents ≡ Some due
    → HasRoomFor before (length (due_text due)) →
    IsWrittenInMemory (status_of due) (due_text due) before after result ⊎ IsWantingInMemory before after result

-- Where the first read is set to fail, the program ends with a fault of reading, or for want of memory, and nothing was
-- written.
abbrev pub IsRefusedInMemory : Option CommandValue → MemoryShelf → (before after : MemorySink) → Status → Type 0
IsRefusedInMemory words shelf before after result =
    (command : CommandValue) → words ≡ Some command → 1 ≤ length command.names → is_set_to_fail shelf ≡ true →
    ((result ≡ status.ReadFault) ⊎ (result ≡ status.OutOfMemory)) × (after.bytes.items ≡ before.bytes.items)

-- Where the files of a command are there and short enough, and there is room for what is due, this is the answer with
-- its status, or memory was wanting and there are no bytes.
abbrev pub HasAnswer : Option CommandValue → List File → ℕ → Output → Type 0
HasAnswer words files room output =
    (command : CommandValue) (contents : List (List ℕ)) (due : Due) → words ≡ Some command →
    AreRead (Some (file_named files)) (names_of command contents) contents → AllByRecursion IsWithinLimit contents →
    command.due contents ≡ Some due → length (due_text due) ≤ room →
    ((output.status ≡ status_of due) × (output.bytes.items ≡ due_text due))
    ⊎ ((output.status ≡ status.OutOfMemory) × (output.bytes.items ≡ []))
