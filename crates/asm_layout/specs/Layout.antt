-- The first pass: where each statement stands, and the values of the names.
use Rattle.std.specs.Prelude.{ℕ, ◌+◌, ◌-◌, ◌%◌, ◌^◌, Bool, true, false, List, [], ◌∷◌, ◌++◌, Option, Some, None, Result, Ok, Err, nat_le, ◌==◌, if◌then◌else◌, replicate, codes}
use Rattle.std.specs.Option.{is_some}
use Rattle.std.specs.Str.{bytes_eq}
use Rattle.asm_parse.specs.Expression.{ExpressionValue}
use Rattle.asm_parse.specs.Form.{due_of}
use Rattle.line_text.specs.declared.failure.LineFault.{LineFault}
use Rattle.line_text.specs.Failing.{in_line}
use Rattle.asm_parse.specs.declared.fault.AsmWhy.{AsmWhy}
use Rattle.asm_parse.specs.declared.fault.AsmWhy.TheVariants.{Redefined, OutOfRange, Unaligned}
use Rattle.asm_parse.specs.declared.syntax.AsmLine.{AsmLine}
use Rattle.line_text.specs.Lines.{LineValue, lines_of}
use Rattle.asm_layout.specs.declared.section.Section.{Section}
use Rattle.asm_layout.specs.declared.section.Section.TheVariants.{Text, Data}
use Rattle.asm_layout.specs.Action.{Action, Put, Align, Enter, Define, action_of}
use Rattle.asm_layout.specs.Content.{Content, Given, alignment, content_length}
use Rattle.line_text.specs.Outcome.{◌>>=◌}
use Rattle.asm_layout.specs.Value.{Names, defined, value_of_name}
use Rattle.asm_layout.specs.Limits.{section_limit}

-- what a statement puts, and where
pub record Placed : Type 0 where
  pub line : ℕ
  pub section : Section
  -- the address of the statement
  pub place : ℕ
  -- whether its label is `start`
  pub is_start : Bool
  pub content : Content

-- how far the first pass has come
pub record Layout : Type 0 where
  -- the section to which statements are added
  pub section : Section
  -- how many bytes the sections have
  pub text : ℕ
  pub data_bytes : ℕ
  -- the labels and the names of `.equ`
  pub names : Names
  -- the address of the label `start`
  pub start : Option ℕ
  -- the statements in order
  pub placed : List Placed

-- before the first line
abbrev pub nothing_placed : Layout
nothing_placed = record { section = Text; text = 0; data_bytes = 0; names = []; start = None; placed = [] }

-- the address of a section's first byte
abbrev pub base_of : Section → ℕ
base_of Text = 0x00400000
base_of Data = 0x10000000

-- of the length of the text and that of the data, that of a section
abbrev pub length_of : Section → ℕ → ℕ → ℕ
length_of Text text data_bytes = text
length_of Data text data_bytes = data_bytes

-- how many bytes a section has
abbrev pub used_by : Section → Layout → ℕ
used_by section layout = length_of section layout.text layout.data_bytes

-- the address at which the next statement stands
abbrev pub place_of : Layout → ℕ
place_of layout = base_of layout.section + used_by layout.section layout

-- so many bytes more in the section
abbrev pub grown_by : Section → ℕ → Layout → Layout
grown_by Text n layout = record layout { text = layout.text + n }
grown_by Data n layout = record layout { data_bytes = layout.data_bytes + n }

-- a name that has no value yet gets one
abbrev pub with_name : List ℕ → ℕ → Layout → Result Layout AsmWhy
with_name name value layout =
    if is_some (value_of_name name layout.names) then Err Redefined
    else Ok (record layout { names = layout.names ++ (name, value) ∷ [] })

-- whether a label is `start`
abbrev pub is_start : Option (List ℕ) → Bool
is_start None = false
is_start (Some name) = bytes_eq name (codes "start")

-- the label `start` gets an address
abbrev pub started : Bool → ℕ → Layout → Layout
started true place layout = record layout { start = Some place }
started false place layout = layout

-- a label gets the address of its statement
abbrev pub labelled : Option (List ℕ) → Layout → Result Layout AsmWhy
labelled None layout = Ok layout
labelled (Some name) layout = do
  after ← with_name name (place_of layout) layout
  Ok (started (is_start (Some name)) (place_of layout) after)

-- a content at its place
abbrev pub appended : ℕ → Bool → Content → Layout → Layout
appended line starts content layout =
    grown_by layout.section (content_length content) (record layout {
      placed =
          layout.placed ++ (record {
            line = line;
            section = layout.section;
            place = place_of layout;
            is_start = starts;
            content = content;
          }) ∷ [];
    })

-- a content, where its place is aligned and the section has room
abbrev pub put : ℕ → Bool → Content → Layout → Result Layout AsmWhy
put line starts content layout =
    if place_of layout % alignment content == 0 then (
    if nat_le (content_length content) (section_limit - used_by layout.section layout)
    then Ok (appended line starts content layout) else Err OutOfRange
    ) else Err Unaligned

-- how many bytes it takes from a place to a multiple of a number
abbrev pub padding : ℕ → ℕ → ℕ
padding place multiple = (multiple - place % multiple) % multiple

-- zeros up to a multiple of a power of 2, at most 2 ^ 12
abbrev pub padded : ℕ → Bool → ℕ → Layout → Result Layout AsmWhy
padded line starts n layout =
    if nat_le n 12 then put line starts (Given (replicate (padding (place_of layout) (2 ^ n)) 0)) layout
    else Err OutOfRange

-- a name of `.equ`, whose expression has a value already
abbrev pub equated : List ℕ → ExpressionValue → Layout → Result Layout AsmWhy
equated name e layout =
    if is_some (value_of_name name layout.names) then Err Redefined else do
      value ← defined layout.names e
      with_name name value layout

-- what an action does
unfoldable pub acted : ℕ → Bool → Action → Layout → Result Layout AsmWhy
acted line starts (Put content) layout = put line starts content layout
acted line starts (Align n) layout = padded line starts n layout
acted line starts (Enter section) layout = do
  after ← put line starts (Given []) layout
  Ok (record after { section = section })
acted line starts (Define name e) layout = do
  after ← equated name e layout
  put line starts (Given []) after

-- a statement: its operation is read, its label gets a value, and then it acts
unfoldable pub stated : AsmLine → Layout → Result Layout AsmWhy
stated statement layout = do
  action ← action_of layout.section statement.body
  after ← labelled statement.label layout
  acted statement.line (is_start statement.label) action after

-- a line's statement, where it has one
abbrev pub added : Option AsmLine → Layout → Result Layout (LineFault AsmWhy)
added None layout = Ok layout
added (Some statement) layout = in_line statement.line (stated statement layout)

-- what a line says
abbrev pub line_added : LineValue → Layout → Result Layout (LineFault AsmWhy)
line_added line layout = do
  said ← due_of line
  added said layout

-- lines in order, up to the first fault
abbrev pub laid_from : Layout → List LineValue → Result Layout (LineFault AsmWhy)
laid_from layout [] = Ok layout
laid_from layout (line ∷ lines) = do
  after ← line_added line layout
  laid_from after lines

-- the first pass over a source
unfoldable pub laid : List ℕ → Result Layout (LineFault AsmWhy)
laid source = laid_from nothing_placed (lines_of source)
