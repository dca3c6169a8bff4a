-- `long IMAGE SCHEDULE TICKS`: the report of a run, as `run` writes it, with TICKS up to the end of a machine's time.
use Rattle.std.specs.Prelude.{ℕ, List, [], ◌∷◌, Option, None, option_map}
use Rattle.commands.specs.Command.{CommandValue}
use Rattle.aegis_command.specs.Ranges.{long_ticks_of}
use Rattle.aegis_command.specs.RunImage.{run_writing}
use Rattle.aegis_command.specs.SystemDue.{Writing, system_words}
use Rattle.aegis_command.specs.declared.long_run.LongReport.{LongReport}

abbrev pub long_writing : LongReport → Writing
long_writing report = run_writing report.ticks.number

-- the words behind the names of the files
abbrev pub long_asked : List (List ℕ) → Option Writing
long_asked (ticks ∷ []) = option_map run_writing (long_ticks_of ticks)
long_asked words = None

-- the words behind `long`
abbrev pub long_words : List (List ℕ) → Option CommandValue
long_words = system_words long_asked
