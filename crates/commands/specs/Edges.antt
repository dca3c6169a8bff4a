-- What a call meets at its two edges, by what its shelf and its sink say of their states before and after.
use Rattle.std.specs.Prelude.{ℕ, List, Option}
use Rattle.edge_io.specs.Reads.{ReadingsValue}
use Rattle.edge_io.specs.declared.shelf.Shelf.{Ghosts as OfShelf}
use Rattle.edge_io.specs.declared.sink.Sink.{Ghosts as OfSink}

-- Of the shelf: what it tells of its files, which names it is sure to serve, and whether it is sure that its next read
-- gives no bytes; what it had read before, and what it has read after.
pub record ShelfEdge : Type 1 where
  pub told : Option (List ℕ → Option (List ℕ))
  pub Serves : List ℕ → Type 0
  pub Refuses : Type 0
  pub before : ReadingsValue
  pub after : ReadingsValue

-- Of the sink: what it tells was written before and after, how many writes had failed, and how many more
-- bytes it was sure to take.
pub record SinkEdge : Type 1 where
  pub written_before : Option (List ℕ)
  pub written_after : Option (List ℕ)
  pub faults_before : ℕ
  pub faults_after : ℕ
  pub Takes : ℕ → Type 0

-- a shelf, in a call that took it from one state to another
abbrev pub shelf_edge : {S : Type 0} → OfShelf S → S → S → ShelfEdge
shelf_edge of before after = record {
  told = of.told before;
  Serves = of.Serves before;
  Refuses = of.Refuses before;
  before = of.readings before;
  after = of.readings after;
}

-- a sink, in a call that took it from one state to another
abbrev pub sink_edge : {K : Type 0} → OfSink K → K → K → SinkEdge
sink_edge of before after = record {
  written_before = of.written before;
  written_after = of.written after;
  faults_before = of.faults before;
  faults_after = of.faults after;
  Takes = of.Takes before;
}
