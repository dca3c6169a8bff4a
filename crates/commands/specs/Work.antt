-- What the work of a command gives, before anything is written.
use Rattle.std.specs.Prelude.{◌≡◌, Option, IsSomeAnd, Result, IfErr}
use Rattle.edge_io.specs.declared.shelf.ReadFail.{ReadFail}
use Rattle.edge_io.specs.declared.shelf.ReadFail.TheVariants as read
use Rattle.commands.specs.declared.work.Answer.{Answer}
use Rattle.commands.specs.declared.work.Stop.{Stop}
use Rattle.commands.specs.declared.work.Stop.TheVariants as stop
use Rattle.commands.specs.Edges.{ShelfEdge}
use Rattle.commands.specs.Command.{CommandValue}
use Rattle.commands.specs.Files.{Names, FailedAt, CameFar}
use Rattle.commands.specs.Due.{Due, due_text, status_of}
use Rattle.commands.specs.Outcome.{Decided}

-- the answer is what is due, with its status
pub record Settles (due : Due) (answer : Answer) : Type 0 where
  pub text : answer.text.items ≡ due_text due
  pub status : answer.status ≡ status_of due

-- something is due, and it is the answer
abbrev pub IsSettled : Option Due → Answer → Type 0
IsSettled due answer = IsSomeAnd due (λ one. Settles one answer)

-- All files were read, and the answer is what is due.
abbrev pub Performed : CommandValue → ShelfEdge → Answer → Type 0
Performed command s answer = (decided : Decided command s) × Settles decided.due answer

-- why a read that gave nothing stops the work
abbrev pub stop_of : ReadFail → Stop
stop_of read.Failed = stop.ReadFault
stop_of read.OutOfMemory = stop.OutOfMemory

-- There is no answer: a read of a due file failed, or no memory was found.
abbrev pub Stopped : Names → ShelfEdge → Stop → Type 0
Stopped names s stop.ReadFault = FailedAt names s
Stopped names s stop.OutOfMemory = CameFar names s

-- Where there is no answer, memory was wanting and no read failed.
abbrev pub StopsByWantAlone : {A : Type 0} → Result A Stop → Type 0
StopsByWantAlone result = IfErr result (λ s. s ≡ stop.OutOfMemory)
