-- How a call of the program ends, by its status.
use Rattle.std.specs.Prelude.{◌≡◌, ◌⊎◌, ℕ, List, Option, Some, IfSome, IfNone}
use Rattle.edge_io.specs.Faults.{one_more}
use Rattle.edge_io.specs.Written.{AppendsPart}
use Rattle.std.specs.Io.KnownBytes.{Appends}
use Rattle.commands.specs.declared.status.Status.{Status}
use Rattle.commands.specs.declared.status.Status.TheVariants as status
use Rattle.commands.specs.Edges.{ShelfEdge, SinkEdge}
use Rattle.commands.specs.Command.{CommandValue, names_of}
use Rattle.commands.specs.Files.{WereRead, FailedAt, CameFar}
use Rattle.commands.specs.Due.{Due, due_text, status_of, usage_text}

-- All files of the command were read, these are the contents that the shelf got in the call, and this is due for them.
pub record Decided (command : CommandValue) (s : ShelfEdge) : Type 0 where
  pub contents : List (List ℕ)
  pub read : WereRead (names_of command) s contents
  pub due : Due
  pub is_due : command.due contents ≡ Some due

-- The text was written whole, and no write failed.
pub record IsWhole (k : SinkEdge) (text : List ℕ) : Type 0 where
  pub appended : Appends k.written_before k.written_after text
  pub no_fault : k.faults_after ≡ k.faults_before

-- One write failed, and before it a first part of the text was written, but not all.
pub record IsPart (k : SinkEdge) (text : List ℕ) : Type 0 where
  pub appended : AppendsPart k.written_before k.written_after text
  pub fault : k.faults_after ≡ one_more k.faults_before

-- Nothing was written, and no write failed.
pub record IsUntouched (k : SinkEdge) : Type 0 where
  pub nothing : k.written_after ≡ k.written_before
  pub no_fault : k.faults_after ≡ k.faults_before

-- What is due was written whole, with its status.
abbrev pub Wrote : CommandValue → ShelfEdge → SinkEdge → Status → Type 0
Wrote command s k result =
    (decided : Decided command s) × (status_of decided.due ≡ result) × IsWhole k (due_text decided.due)

-- What holds after a call with the words of this command, by its status. No other status comes.
abbrev pub Outcome : CommandValue → ShelfEdge → SinkEdge → Status → Type 0
Outcome command s k status.Done = Wrote command s k status.Done
Outcome command s k status.Found = Wrote command s k status.Found
Outcome command s k status.Usage = ⊥
Outcome command s k status.Refused = Wrote command s k status.Refused
Outcome command s k status.ReadFault = FailedAt (names_of command) s × IsUntouched k
Outcome command s k status.WriteFault = (decided : Decided command s) × IsPart k (due_text decided.due)
Outcome command s k status.OutOfMemory = CameFar (names_of command) s × IsUntouched k

-- A call with the words of a command ends as this command does.
abbrev pub IsOutcome : Option CommandValue → ShelfEdge → SinkEdge → Status → Type 0
IsOutcome words s k result = IfSome words (λ command. Outcome command s k result)

-- A text was written with this status, or a write failed after a first part of it.
abbrev pub Finished : Status → List ℕ → SinkEdge → Status → Type 0
Finished intended text k result =
    ((result ≡ intended) × IsWhole k text) ⊎ ((result ≡ status.WriteFault) × IsPart k text)

-- A call with the words of no command writes the usage.
abbrev pub IsUsage : Option CommandValue → SinkEdge → Status → Type 0
IsUsage words k result = IfNone words (Finished status.Usage usage_text k result)
