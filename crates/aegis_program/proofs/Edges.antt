-- From the edges of the shelf and the sink that a call makes to what it met.
use Rattle.std.proofs.Common.{◌≡◌, ℕ, List, Option, subst}
use Rattle.edge_io.specs.Reads.{ReadingsValue, no_readings}
use Rattle.commands.specs.Edges.{ShelfEdge, SinkEdge}

-- files that nothing is sure of
abbrev pub files_between : Option (List ℕ → Option (List ℕ)) → (first last : ReadingsValue) → ShelfEdge
files_between told first last = record { told = told; Serves = λ name. ⊥; Refuses = ⊥; before = first; after = last }

-- a writer that nothing is sure of
abbrev pub writer_between : (before after : Option (List ℕ)) → (none faults : ℕ) → SinkEdge
writer_between before after none faults = record {
  written_before = before;
  written_after = after;
  faults_before = none;
  faults_after = faults;
  Takes = λ count. ⊥;
}

-- What holds of these edges holds where the same is told, no read was made before, and no write failed.
pub at_edges : (P : ShelfEdge → SinkEdge → Type 0) (told new_told : Option (List ℕ → Option (List ℕ))) (first last : ReadingsValue)
    (before new_before after : Option (List ℕ)) (none faults : ℕ)
    → new_told ≡ told → first ≡ no_readings → new_before ≡ before → none ≡ 0
    → P (files_between new_told first last) (writer_between new_before after none faults)
    → P (files_between told no_readings last) (writer_between before after 0 faults)
at_edges P told new_told first last before new_before after none faults same_files unread same_out calm holds =
    let one = subst (λ (t : Option (List ℕ → Option (List ℕ))). P (files_between t first last) (writer_between new_before after none faults)) same_files holds in
    let two = subst (λ (r : ReadingsValue). P (files_between told r last) (writer_between new_before after none faults)) unread one in
    let three = subst (λ (b : Option (List ℕ)). P (files_between told no_readings last) (writer_between b after none faults)) same_out two in
    subst (λ (n : ℕ). P (files_between told no_readings last) (writer_between before after n faults)) calm three
