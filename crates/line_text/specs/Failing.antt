-- What readers answer of texts that have faults.
use Rattle.std.specs.Prelude.{◌≡◌, ℕ, Option, Some, Result, Ok, Err}
use Rattle.line_text.specs.declared.failure.Failure.{Failure}
use Rattle.line_text.specs.declared.failure.Failure.TheVariants.{Fault, OutOfMemory}
use Rattle.line_text.specs.declared.failure.LineFault.{LineFault}

-- the fault of the line of this number, which breaks this rule
abbrev pub fault_at : {W : Type 0} → ℕ → W → LineFault W
fault_at line why = record { line = line; why = why }

-- an answer, or the rule that the line of this number breaks
abbrev pub in_line : {X W : Type 0} → ℕ → Result X W → Result X (LineFault W)
in_line line (Ok x) = Ok x
in_line line (Err why) = Err (fault_at line why)

-- the program's answer, or the rule that the line of this number breaks
abbrev pub at_line : {X W : Type 0} → ℕ → Result X (Failure W) → Result X (Failure (LineFault W))
at_line line (Ok x) = Ok x
at_line line (Err (Fault why)) = Err (Fault (fault_at line why))
at_line line (Err OutOfMemory) = Err OutOfMemory

-- An answer, seen by a view, is what is due, unless memory ran out.
abbrev pub Gives : {X Y F : Type 0} → (X → Y) → Result X (Failure F) → Result Y F → Type 0
Gives view (Ok x) due = due ≡ Ok (view x)
Gives view (Err (Fault fault)) due = due ≡ Err fault
Gives view (Err OutOfMemory) due = Unit {0}

-- Why there is no answer is the fault that is found, unless memory ran out.
abbrev pub IsFound : {F : Type 0} → Option F → Failure F → Type 0
IsFound found (Fault fault) = found ≡ Some fault
IsFound found OutOfMemory = Unit {0}
