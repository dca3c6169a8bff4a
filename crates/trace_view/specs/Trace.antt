-- The trace of an environment: a line for each tick in which it makes a step.
use Rattle.std.specs.Prelude.{ℕ, List, [], ◌∷◌, ◌++◌, codes, if◌then◌else◌, ◌&&◌, nat_le, nat_lt, Bool, Option, Some, None, Result, Ok, Err}
use Rattle.external_event.specs.EventValue.{EventValue}
use Rattle.line_text.specs.Text.{dec_text, hex_text}
use Rattle.line_text.specs.WrittenLine.{line}
use Rattle.boot_image.specs.ImageValue.{ImageValue}
use Rattle.machine_text.specs.Differences.{differences}
use Rattle.machine_text.specs.Series.{for_each}
use Rattle.mips_exec.specs.declared.registers.Cpu.{Cpu}
use Rattle.mips_exec.specs.declared.exception.Exc.{Exc}
use Rattle.mips_exec.specs.Step.{fetched}
use Rattle.mips_list.specs.WordText.{word_text}
use Rattle.world_model.specs.Book.{is_runner}
use Rattle.world_model.specs.Event.{schedule_of}
use Rattle.world_model.specs.Page.{answers_by}
use Rattle.world_model.specs.Solo.{Solo, is_dead, sight}
use Rattle.world_model.specs.World.{World}
use Rattle.run_model.specs.Run.{System, end_of_run, next_world, world_after}
use Rattle.run_report.specs.Report.{end_line}
use Rattle.aegis_tick.specs.Halves.{mid}

abbrev pub word_answered : Result ℕ Exc → Option ℕ
word_answered (Ok word) = Some word
word_answered (Err exc) = None

-- the word that the next step of an environment fetches, where the fetch isn't refused
abbrev pub next_word : Solo → Option ℕ
next_word s = word_answered (fetched (answers_by (sight s)) s.cpu.pc)

-- a word, and the instruction that it spells at an address, as a listing has it
abbrev pub word_words : ℕ → Option ℕ → List (List ℕ)
word_words address None = codes "--------" ∷ codes "fetch" ∷ []
word_words address (Some word) = hex_text 8 word ∷ word_text word address ∷ []

-- what a tick left of an environment that had these registers: that it is dead, or what differs
abbrev pub outcome_words : Cpu → Solo → List (List ℕ)
outcome_words before s = if is_dead s.life then codes "dead" ∷ [] else differences before s.cpu

-- the line of a step, from the world in the middle of its tick to the world after it
unfoldable pub step_line : ℕ → World → World → List ℕ
step_line e w v =
    line (dec_text w.book.time ∷ hex_text 8 (w.solos e).cpu.pc
    ∷ word_words (w.solos e).cpu.pc (next_word (w.solos e)) ++ outcome_words (w.solos e).cpu (v.solos e))

-- whether an environment is there, and runs
abbrev pub makes_step : ℕ → World → Bool
makes_step e w = nat_lt e w.count && is_runner e w.book.runner

-- a tick has a line where the environment makes its step
abbrev pub tick_line : ℕ → World → World → List ℕ
tick_line e w v = if makes_step e w then step_line e w v else []

-- the line of a tick of a run, if the environment makes its step in it
abbrev pub line_in : System → ℕ → ℕ → List ℕ
line_in system e t = let now = world_after system t in tick_line e (mid system.schedule now) (next_world system.schedule now)

-- and if it isn't before the tick from which on there are lines
abbrev pub line_from : System → (e from t : ℕ) → List ℕ
line_from system e from t = if nat_le from t then line_in system e t else []

-- the lines of so many ticks of a run, from one of them on
abbrev pub trace_lines : System → (e from ticks : ℕ) → List ℕ
trace_lines system e from ticks = for_each (line_from system e from) ticks

-- the trace of an environment in a run of so many ticks: a line for each tick below its end, from one on
unfoldable pub trace_text : ImageValue → List EventValue → (from limit e : ℕ) → List ℕ
trace_text image events from limit e =
    let system : System = record { image = image; schedule = schedule_of events } in
    let w = world_after system limit in
    line (codes "aegis" ∷ codes "trace" ∷ dec_text e ∷ [])
    ++ trace_lines system e from w.book.time
    ++ end_line w (end_of_run w limit) ++ line (codes "done" ∷ [])
