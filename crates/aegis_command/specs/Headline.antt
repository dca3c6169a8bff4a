-- What a call of the program promises.
use Rattle.std.specs.Prelude.{◌≡◌, ◌≢◌, ◌⊎◌, ◌≤◌, ℕ, List, [], ◌∷◌, ◌++◌, Option, Some, None, IfSome, length, codes}
use Rattle.boot_image.specs.ImageFaults.{image_fault}
use Rattle.boot_image.specs.ImageValue.{image_of}
use Rattle.boot_schedule.specs.Schedule.{events_of, schedule_fault}
use Rattle.edge_io.specs.Faults.{Rose, one_more}
use Rattle.edge_io.specs.Reads.{Tells}
use Rattle.std.specs.Io.KnownBytes.{Appends}
use Rattle.commands.specs.declared.status.Status.{Status}
use Rattle.commands.specs.declared.status.Status.TheVariants as status
use Rattle.commands.specs.Command.{CommandValue, names_of}
use Rattle.commands.specs.Due.{Due, Refusal, status_of, due_text, usage_text}
use Rattle.commands.specs.Edges.{ShelfEdge, SinkEdge}
use Rattle.commands.specs.Files.{AreTold, IsServed}
use Rattle.commands.specs.Outcome.{IsPart, IsUntouched, IsWhole}
use Rattle.aegis_command.specs.LoadSeed.{load_summary, seed_of}
use Rattle.aegis_command.specs.Ranges.{long_ticks_of, ticks_of}
use Rattle.aegis_command.specs.RunImage.{report_after, run_due}

-- neither count of faults rose in the call
pub record NoFault (s : ShelfEdge) (k : SinkEdge) : Type 0 where
  pub read : ¬ Rose s.before.faults s.after.faults
  pub write : ¬ Rose k.faults_before k.faults_after

-- the text was written whole, as far as the sink tells what was written, with this status
abbrev pub IsWritten : Status → List ℕ → SinkEdge → Status → Type 0
IsWritten intended text k result = (result ≡ intended) × Appends k.written_before k.written_after text

-- no memory was found, and nothing was written
abbrev pub IsWanting : SinkEdge → Status → Type 0
IsWanting k result = (result ≡ status.OutOfMemory) × (k.written_after ≡ k.written_before)

-- A shelf that is sure to serve a command's names gives no fault of reading.
abbrev pub IsGiven : Option CommandValue → ShelfEdge → Status → Type 0
IsGiven words s result = IfSome words (λ command. IsServed (names_of command) s → result ≢ status.ReadFault)

-- A shelf whose next read is sure to give no bytes ends a command that names a file by a fault of reading, or memory
-- was wanting.
abbrev pub IsDenied : Option CommandValue → ShelfEdge → Status → Type 0
IsDenied words s result =
    IfSome words (λ command. s.Refuses → 1 ≤ length command.names → (result ≡ status.ReadFault) ⊎
    (result ≡ status.OutOfMemory))

-- what is due, if anything, was written whole, or memory was wanting and nothing was written
abbrev pub Ends : Option Due → SinkEdge → Status → Type 0
Ends None k result = IsWanting k result
Ends (Some due) k result = IsWritten (status_of due) (due_text due) k result ⊎ IsWanting k result

-- A sink that is sure to take so many bytes as are to be written gives no fault: those of the usage, or of
-- what is due, where the shelf tells the contents.
abbrev pub TakesAll : Option CommandValue → ShelfEdge → SinkEdge → Status → Type 0
TakesAll None s k result = k.Takes (length usage_text) → result ≢ status.WriteFault
TakesAll (Some command) s k result =
    (contents : List (List ℕ)) (due : Due) → AreTold s.told (names_of command contents) contents
    → command.due contents ≡ Some due →
    k.Takes (length (due_text due)) → result ≢ status.WriteFault

-- Where no fault is met, what is due for the told contents is written whole, or memory was wanting.
abbrev pub IsComplete : Option CommandValue → ShelfEdge → SinkEdge → Status → Type 0
IsComplete words s k result =
    (command : CommandValue) (contents : List (List ℕ)) → words ≡ Some command
    → AreTold s.told (names_of command contents) contents → NoFault s k →
    Ends (command.due contents) k result

-- `run IMAGE SCHEDULE TICKS`, or `long IMAGE SCHEDULE TICKS`, whose ticks may be more
abbrev pub AsksRun : List (List ℕ) → (image_name schedule_name : List ℕ) → ℕ → Type 0
AsksRun words image_name schedule_name ticks =
    (number : List ℕ) ×
    (((words ≡ codes "run" ∷ image_name ∷ schedule_name ∷ number ∷ []) × (ticks_of number ≡ Some ticks))
    ⊎ ((words ≡ codes "long" ∷ image_name ∷ schedule_name ∷ number ∷ []) × (long_ticks_of number ≡ Some ticks)))

-- The files of these two names, in this order, are all that was read in the call, and this is what the reads gave: what the
-- shelf tells of the names, where it tells.
pub record BothRead (image_name schedule_name : List ℕ) (s : ShelfEdge) : Type 0 where
  pub image : List ℕ
  pub schedule : List ℕ
  pub names_read : s.after.names ≡ s.before.names ++ image_name ∷ schedule_name ∷ []
  pub contents_read : s.after.contents ≡ s.before.contents ++ image ∷ schedule ∷ []
  pub image_told : Tells s.told image_name image
  pub schedule_told : Tells s.told schedule_name schedule

-- Both were read, neither has a fault, and what was written is the report of the image's world after so many ticks, in
-- which the schedule's events happen: all of it, once.
pub record WroteReport (image_name schedule_name : List ℕ) (ticks : ℕ) (s : ShelfEdge) (k : SinkEdge) : Type 0 where
  pub both : BothRead image_name schedule_name s
  pub sound_image : image_fault both.image ≡ None
  pub sound_schedule : schedule_fault both.schedule ≡ None
  pub whole : IsWhole k (report_after (image_of both.image) (events_of both.schedule) ticks)

-- what is due for two files that were read: the report, or the refusal of the first of them that has a fault
abbrev pub due_of_both : {image_name schedule_name : List ℕ} {s : ShelfEdge} → ℕ → BothRead image_name schedule_name s → Due
due_of_both {image_name} {schedule_name} ticks both =
    run_due (record { image = image_name; schedule = schedule_name }) ticks both.image both.schedule

-- Both were read, one has a fault, and what was written is its refusal: all of it, once.
pub record WroteRefusal (image_name schedule_name : List ℕ) (ticks : ℕ) (s : ShelfEdge) (k : SinkEdge) : Type 0 where
  pub both : BothRead image_name schedule_name s
  pub text : List ℕ
  pub is_due : due_of_both ticks both ≡ Refusal text
  pub whole : IsWhole k text

-- Both were read, and a write failed after a first part of what is due for them.
pub record WrotePart (image_name schedule_name : List ℕ) (ticks : ℕ) (s : ShelfEdge) (k : SinkEdge) : Type 0 where
  pub both : BothRead image_name schedule_name s
  pub part : IsPart k (due_text (due_of_both ticks both))

-- The last read was of one of these names, and failed. Nothing was written.
pub record FailedToRead (image_name schedule_name : List ℕ) (s : ShelfEdge) (k : SinkEdge) : Type 0 where
  pub name : List ℕ
  pub is_one : (name ≡ image_name) ⊎ (name ≡ schedule_name)
  pub failed : s.after.failed ≡ Some name
  pub last : s.after.failed_call ≡ s.after.calls
  pub fault : s.after.faults ≡ one_more s.before.faults
  pub untouched : IsUntouched k

-- How a run ends, by its status. No other status comes.
abbrev pub RunEnds : (image_name schedule_name : List ℕ) → ℕ → ShelfEdge → SinkEdge → Status → Type 0
RunEnds image_name schedule_name ticks s k status.Done = WroteReport image_name schedule_name ticks s k
RunEnds image_name schedule_name ticks s k status.Refused = WroteRefusal image_name schedule_name ticks s k
RunEnds image_name schedule_name ticks s k status.ReadFault = FailedToRead image_name schedule_name s k
RunEnds image_name schedule_name ticks s k status.WriteFault = WrotePart image_name schedule_name ticks s k
RunEnds image_name schedule_name ticks s k status.OutOfMemory = IsUntouched k
RunEnds image_name schedule_name ticks s k status.Found = ⊥
RunEnds image_name schedule_name ticks s k status.Usage = ⊥

-- The headline: for the words of `run` and of `long`, each file and each number of ticks, the status says how the call
-- ended, and what was written then.
abbrev pub IsHeadline : List (List ℕ) → ShelfEdge → SinkEdge → Status → Type 0
IsHeadline words s k result =
    (image_name schedule_name : List ℕ) (ticks : ℕ) → AsksRun words image_name schedule_name ticks
    → RunEnds image_name schedule_name ticks s k result

-- For the words `load SEED`, where no fault is met, the run of the seed's image and events is written in short, or
-- memory was wanting. There is no file that could be refused.
abbrev pub IsLoad : List (List ℕ) → ShelfEdge → SinkEdge → Status → Type 0
IsLoad words s k result =
    (number : List ℕ) (seed : ℕ) → words ≡ codes "load" ∷ number ∷ [] → seed_of number ≡ Some seed → NoFault s k →
    IsWritten status.Done (load_summary seed) k result ⊎ IsWanting k result
