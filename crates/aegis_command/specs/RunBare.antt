-- `bare FILE TICKS PERIOD`: a flat file runs in kernel mode, on the machine alone.
use Rattle.std.specs.Prelude.{ℕ, List, [], ◌∷◌, Option, Some, None, option_map}
use Rattle.std.specs.Option.{option_and_then}
use Rattle.bare_board.specs.declared.fault.BareFault.{BareFault}
use Rattle.bare_board.specs.Faults.{bare_fault, bare_fault_name, bare_fault_place}
use Rattle.bare_board.specs.Run.{bare_text_of}
use Rattle.commands.specs.Command.{CommandValue, content, no_further}
use Rattle.commands.specs.Due.{Due, Whole, refused, unless_refused}
use Rattle.aegis_command.specs.Ranges.{ticks_of}
use Rattle.aegis_command.specs.declared.run_bare.RunBare.{RunBare}

-- a file with this fault is refused
abbrev pub bare_refused : List ℕ → Option BareFault → Option Due
bare_refused name fault = option_map (λ (f : BareFault). refused name (bare_fault_name f) (bare_fault_place f)) fault

-- a file with a fault is refused, and of any other the text of its run is due
abbrev pub bare_due : List ℕ → List ℕ → ℕ → ℕ → Due
bare_due name file ticks period =
    unless_refused (bare_refused name (bare_fault file) ∷ []) (Whole (bare_text_of file ticks period))

abbrev pub run_bare : List ℕ → ℕ → ℕ → CommandValue
run_bare file ticks period = record {
  names = file ∷ [];
  further = no_further;
  due = λ contents. Some (bare_due file (content contents 0) ticks period);
}

-- the command that was read from words
abbrev pub bare_seen : RunBare → CommandValue
bare_seen c = run_bare c.file.now c.ticks.number c.period.number

-- the words behind `bare`: PERIOD has the limit of TICKS
abbrev pub bare_words : List (List ℕ) → Option CommandValue
bare_words (file ∷ ticks ∷ period ∷ []) =
    option_and_then (λ t. option_map (run_bare file t) (ticks_of period)) (ticks_of ticks)
bare_words words = None
