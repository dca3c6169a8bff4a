-- A command of a system: an image and a schedule, and what is written of its run.
use Rattle.std.specs.Prelude.{ℕ, List, [], ◌∷◌, Option, Some, None, option_map}
use Rattle.boot_image.specs.declared.fault.ImageFault.{ImageFault}
use Rattle.boot_image.specs.ImageFaults.{image_fault}
use Rattle.boot_image.specs.ImageValue.{ImageValue, image_of}
use Rattle.boot_image.specs.Names.{image_why_text}
use Rattle.boot_schedule.specs.declared.fault.ScheduleWhy.{ScheduleWhy}
use Rattle.boot_schedule.specs.Names.{schedule_why_text}
use Rattle.boot_schedule.specs.Schedule.{events_of, schedule_fault}
use Rattle.external_event.specs.EventValue.{EventValue}
use Rattle.world_model.specs.Event.{schedule_of}
use Rattle.run_model.specs.Run.{System}
use Rattle.line_text.specs.declared.failure.LineFault.{LineFault}
use Rattle.commands.specs.Command.{CommandValue, content, no_further}
use Rattle.commands.specs.Due.{Due, Whole, refused, unless_refused}

-- the names of a system's files
pub record FileNames : Type 0 where
  pub image : List ℕ
  pub schedule : List ℕ

-- the system of an image and events
abbrev pub meant : ImageValue → List EventValue → System
meant image events = record { image = image; schedule = schedule_of events }

-- what is written of a system, by its image and its events
abbrev pub Writing : Type 0
Writing = ImageValue → List EventValue → List ℕ

-- an image with this fault is refused
abbrev pub image_refused : List ℕ → Option ImageFault → Option Due
image_refused name fault = option_map (λ (f : ImageFault). refused name (image_why_text f.why) f.place) fault

-- a schedule with this fault is refused
abbrev pub schedule_refused : List ℕ → Option (LineFault ScheduleWhy) → Option Due
schedule_refused name fault =
    option_map (λ (f : LineFault ScheduleWhy). refused name (schedule_why_text f.why) f.line) fault

-- the refusals of a system's files, before others
abbrev pub system_refusals : FileNames → (image schedule : List ℕ) → List (Option Due) → List (Option Due)
system_refusals names image schedule others =
    image_refused names.image (image_fault image) ∷ schedule_refused names.schedule (schedule_fault schedule) ∷ others

-- the first file with a fault is refused, and if none has one, what is written of the system is due
abbrev pub system_due : FileNames → Writing → (image schedule : List ℕ) → Due
system_due names writing image schedule =
    unless_refused (system_refusals names image schedule []) (Whole (writing (image_of image) (events_of schedule)))

abbrev pub system_command : FileNames → Writing → CommandValue
system_command names writing = record {
  names = names.image ∷ names.schedule ∷ [];
  further = no_further;
  due = λ contents. Some (system_due names writing (content contents 0) (content contents 1));
}

-- the words behind such a command: the names of its files, and words that ask for what is written
abbrev pub system_words : (List (List ℕ) → Option Writing) → List (List ℕ) → Option CommandValue
system_words asked (image ∷ schedule ∷ words) =
    option_map (system_command (record { image = image; schedule = schedule })) (asked words)
system_words asked words = None
