-- The second pass: the bytes of the sections.
use Rattle.std.specs.Prelude.{ℕ, ◌+◌, ◌%◌, Bool, List, [], ◌∷◌, ◌++◌, Option, Some, None, Result, Ok, Err, nat_lt, nat_le, ◌==◌, ◌&&◌, not, if◌then◌else◌}
use Rattle.line_text.specs.declared.failure.LineFault.{LineFault}
use Rattle.line_text.specs.declared.failure.Failure.{Failure}
use Rattle.line_text.specs.declared.failure.Failure.TheVariants as failures
use Rattle.line_text.specs.Failing.{in_line}
use Rattle.asm_parse.specs.declared.fault.AsmWhy.{AsmWhy}
use Rattle.asm_parse.specs.declared.fault.AsmWhy.TheVariants.{OutOfRange, Unaligned}
use Rattle.asm_layout.specs.declared.section.Section.{Section}
use Rattle.asm_layout.specs.declared.section.Section.TheVariants.{Text, Data}
use Rattle.asm_layout.specs.Layout.{Layout, Placed, base_of}
use Rattle.line_text.specs.Outcome.{◌>>=◌}
use Rattle.asm_layout.specs.Value.{Names}
use Rattle.mips_asm.specs.Emission.{bytes_of}

-- the bytes of the sections
pub record Sections : Type 0 where
  pub text : List ℕ
  pub data_bytes : List ℕ

abbrev pub extended : Section → List ℕ → Sections → Sections
extended Text bs sections = record sections { text = sections.text ++ bs }
extended Data bs sections = record sections { data_bytes = sections.data_bytes ++ bs }

-- whether an address is that of a byte of a text of so many bytes
abbrev pub is_in_text : ℕ → ℕ → Bool
is_in_text size address = nat_le (base_of Text) address && nat_lt address (base_of Text + size)

-- what is wrong with the label `start` at a place
abbrev pub start_fault : ℕ → ℕ → Option AsmWhy
start_fault size place =
    if not (place % 4 == 0) then Some Unaligned else
    if not (is_in_text size place) then Some OutOfRange else
    None

-- of two causes in a line, the second of which is `start`'s: Undefined, then Unaligned, then OutOfRange
abbrev pub earlier : AsmWhy → AsmWhy → AsmWhy
earlier OutOfRange other = other
earlier why other = why

-- an answer, where nothing is wrong with `start`
abbrev pub unless_start : {A : Type 0} → Option AsmWhy → Result A AsmWhy → Result A AsmWhy
unless_start None answer = answer
unless_start (Some why) (Ok x) = Err why
unless_start (Some why) (Err other) = Err (earlier other why)

-- the same of the program's answer
abbrev pub unless_start_failure : {A : Type 0} → Option AsmWhy → Result A (Failure AsmWhy) → Result A (Failure AsmWhy)
unless_start_failure None answer = answer
unless_start_failure (Some why) (Ok x) = Err (failures.Fault why)
unless_start_failure (Some why) (Err (failures.Fault other)) = Err (failures.Fault (earlier other why))
unless_start_failure (Some why) (Err failures.OutOfMemory) = Err failures.OutOfMemory

-- what is wrong with `start`, where it is the label of a statement
abbrev pub start_fault_of : ℕ → Placed → Option AsmWhy
start_fault_of size placed = if placed.is_start then start_fault size placed.place else None

-- the bytes of a statement, in a text of so many bytes
unfoldable pub emitted : Names → ℕ → Placed → Result (List ℕ) AsmWhy
emitted names size placed =
    unless_start (start_fault_of size placed) (bytes_of names placed.place placed.content)

-- the sections with the bytes of a statement more
abbrev pub widened : Names → ℕ → Sections → Placed → Result Sections (LineFault AsmWhy)
widened names size sections placed = do
  bytes ← in_line placed.line (emitted names size placed)
  Ok (extended placed.section bytes sections)

-- statements in order, up to the first fault
abbrev pub filled_from : Names → ℕ → Sections → List Placed → Result Sections (LineFault AsmWhy)
filled_from names size sections [] = Ok sections
filled_from names size sections (placed ∷ rest) = do
  after ← widened names size sections placed
  filled_from names size after rest

-- bytes, and behind them those of an answer
abbrev pub onto : List ℕ → Result (List ℕ) AsmWhy → Result (List ℕ) AsmWhy
onto front bytes = do
  bs ← bytes
  Ok (front ++ bs)

-- the second pass over what the first has placed
unfoldable pub filled : Layout → Result Sections (LineFault AsmWhy)
filled layout = filled_from layout.names layout.text (record { text = []; data_bytes = [] }) layout.placed
