-- `load SEED`: a run in short, of the image and the schedule that a number gives.
use Rattle.std.specs.Prelude.{ℕ, List, [], ◌∷◌, ◌++◌, Option, Some, option_map, codes}
use Rattle.std.specs.Option.{option_and_then}
use Rattle.line_text.specs.Number.{digits_number}
use Rattle.line_text.specs.Text.{dec_text}
use Rattle.line_text.specs.WrittenLine.{line}
use Rattle.boot_image.specs.ImageValue.{ImageValue}
use Rattle.external_event.specs.EventValue.{EventValue}
use Rattle.exos_text.specs.LoadImage.{load_image_value}
use Rattle.exos_text.specs.LoadSchedule.{load_events}
use Rattle.world_model.specs.Event.{schedule_of}
use Rattle.run_model.specs.Run.{world_after, end_of_run}
use Rattle.run_report.specs.Report.{summary_text}
use Rattle.commands.specs.Command.{CommandValue, no_further, only_name}
use Rattle.commands.specs.Due.{Whole}

-- SEED: one to ten decimal digits, of a number below 2^32
abbrev pub seed_of : List ℕ → Option ℕ
seed_of word = digits_number 10 10 word

-- a run of so many ticks in short, of an image and events
unfoldable pub summary_after : ImageValue → List EventValue → ℕ → List ℕ
summary_after image events ticks =
    let w = world_after (record { image = image; schedule = schedule_of events }) ticks
    in summary_text w (end_of_run w ticks)

-- how many ticks are run
unfoldable pub load_ticks : ℕ
load_ticks = 1000000

-- the seed, and its run in short
unfoldable pub load_summary : ℕ → List ℕ
load_summary seed =
    line (codes "load" ∷ dec_text seed ∷ []) ++ summary_after (load_image_value seed) (load_events seed) load_ticks

-- It names no file, and is never refused.
abbrev pub load_seed : ℕ → CommandValue
load_seed seed = record {
  names = [];
  further = no_further;
  due = λ contents. Some (Whole (load_summary seed));
}

-- the words behind `load`
abbrev pub load_words : List (List ℕ) → Option CommandValue
load_words words = option_map load_seed (option_and_then seed_of (only_name words))
