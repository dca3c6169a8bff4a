-- What a call of the program meets: files that are opened by their names, and a writer.
use Rattle.std.specs.Prelude.{ℕ, List, Option}
use Rattle.edge_io.specs.Reads.{no_readings, readings_seen}
use Rattle.edge_io.specs.declared.readings.Readings.{Readings}
use Rattle.commands.specs.Edges.{ShelfEdge, SinkEdge}

-- Files: what they hold, where that is told, and what the call read of them.
abbrev pub files_met : Option (List ℕ → Option (List ℕ)) → Readings → ShelfEdge
files_met told read = record {
  told = told;
  Serves = λ name. ⊥;
  Refuses = ⊥;
  before = no_readings;
  after = readings_seen read;
}

-- A writer: what it holds before and after the call, where that is told, and how many writes failed.
abbrev pub writer_met : (before after : Option (List ℕ)) → ℕ → SinkEdge
writer_met before after faults = record {
  written_before = before;
  written_after = after;
  faults_before = 0;
  faults_after = faults;
  Takes = λ count. ⊥;
}
