-- Which files are read, and how far the reading came.
use Rattle.std.specs.Prelude.{◌≡◌, ℕ, ◌+◌, List, [], ◌∷◌, ◌++◌, Option, Some, None, IfSome, drop, length, take, slice_get}
use Rattle.edge_io.specs.Faults.{one_more, raised}
use Rattle.edge_io.specs.Reads.{Tells}
use Rattle.commands.specs.Edges.{ShelfEdge}

-- the names that are read, in order, as far as the contents of the first ones tell them
abbrev pub Names : Type 0
Names = List (List ℕ) → List (List ℕ)

-- the name that is read after these contents, if one is
abbrev pub next_name : Names → List (List ℕ) → Option (List ℕ)
next_name names contents = slice_get (names contents) (length contents)

-- the names of these contents
abbrev pub names_so_far : Names → List (List ℕ) → List (List ℕ)
names_so_far names contents = take (length contents) (names contents)

-- these are the contents of the names, in order: those that the shelf tells, where it does
abbrev pub AreRead : Option (List ℕ → Option (List ℕ)) → List (List ℕ) → List (List ℕ) → Type 0
AreRead told [] [] = Unit {0}
AreRead told [] (bytes ∷ contents) = ⊥
AreRead told (name ∷ names) [] = ⊥
AreRead told (name ∷ names) (bytes ∷ contents) = Tells told name bytes × AreRead told names contents

-- these are the contents of the first names
abbrev pub AreFirst : Names → Option (List ℕ → Option (List ℕ)) → List (List ℕ) → Type 0
AreFirst names told contents = AreRead told (names_so_far names contents) contents

-- The shelf tells these contents of the names, in order. Where there is no name, every shelf does.
abbrev pub AreTold : Option (List ℕ → Option (List ℕ)) → List (List ℕ) → List (List ℕ) → Type 0
AreTold None names contents = (names ≡ []) × (contents ≡ [])
AreTold (Some files) names contents = AreRead (Some files) names contents

-- the shelf is sure to serve each name that may be next
abbrev pub IsServed : Names → ShelfEdge → Type 0
IsServed names s =
    (contents : List (List ℕ)) → AreFirst names s.told contents → IfSome (next_name names contents) s.Serves

-- the contents that the shelf got in the call
abbrev pub got_contents : ShelfEdge → List (List ℕ)
got_contents s = drop (length s.before.contents) s.after.contents

-- In the call the shelf read the files of these names, each once and in order, and got these contents. So many reads
-- more gave nothing.
pub record Got (s : ShelfEdge) (names contents : List (List ℕ)) (more : ℕ) : Type 0 where
  pub names_read : s.after.names ≡ s.before.names ++ names
  pub contents_read : s.after.contents ≡ s.before.contents ++ contents
  pub calls : s.after.calls ≡ raised s.before.calls (length contents + more)

-- All files were read, each once and in order, and the shelf got these contents. No read failed.
pub record WereRead (names : Names) (s : ShelfEdge) (contents : List (List ℕ)) : Type 0 where
  pub read : AreRead s.told (names contents) contents
  pub got : Got s (names contents) contents 0
  pub no_fault : s.after.faults ≡ s.before.faults

-- how many reads this is: one, or none
abbrev pub reads_of : Option (List ℕ) → ℕ
reads_of None = 0
reads_of (Some name) = 1

-- Some first files were read, each once and in order, and the shelf got their contents. There was no other read, or
-- one, for the next name, which gave nothing.
pub record CameTo (names : Names) (s : ShelfEdge) (last : Option (List ℕ)) : Type 0 where
  pub contents : List (List ℕ)
  pub read : AreFirst names s.told contents
  pub is_next : IfSome last (λ name. next_name names contents ≡ Some name)
  pub got : Got s (names_so_far names contents) contents (reads_of last)

-- The read of a due file failed, and it was the last one.
pub record FailedAt (names : Names) (s : ShelfEdge) : Type 0 where
  pub name : List ℕ
  pub came : CameTo names s (Some name)
  pub failed : s.after.failed ≡ Some name
  pub last : s.after.failed_call ≡ s.after.calls
  pub fault : s.after.faults ≡ one_more s.before.faults

-- No read failed. Memory was wanting for a file, between two reads, or once all files were read.
pub record CameFar (names : Names) (s : ShelfEdge) : Type 0 where
  pub last : Option (List ℕ)
  pub came : CameTo names s last
  pub no_fault : s.after.faults ≡ s.before.faults
