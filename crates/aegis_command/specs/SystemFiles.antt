-- An image and a schedule that are read as a system.
use Rattle.std.specs.Prelude.{◌≡◌, List, Option, None, ℕ, true}
use Rattle.boot_image.specs.ImageFaults.{image_fault}
use Rattle.boot_image.specs.ImageValue.{ImageValue, image_of}
use Rattle.boot_schedule.specs.Schedule.{events_of, schedule_fault}
use Rattle.external_event.specs.EventValue.{EventValue}
use Rattle.external_event.specs.Order.{are_in_order}
use Rattle.commands.specs.Due.{Due, unless_refused}
use Rattle.commands.specs.Work.{Settles}
use Rattle.aegis_command.specs.SystemDue.{FileNames, system_refusals}
use Rattle.aegis_command.specs.declared.system_files.SystemFiles.{SystemFiles}
use Rattle.aegis_command.specs.declared.system_files.SystemFiles.TheVariants as files
use Rattle.aegis_command.specs.declared.system_files.SystemNames.{SystemNames}

-- the names that were read from words
abbrev pub names_seen : SystemNames → FileNames
names_seen names = record { image = names.image.now; schedule = names.schedule.now }

-- neither of two files has a fault
pub record AreSound (program plan : List ℕ) : Type 0 where
  pub image : image_fault program ≡ None
  pub schedule : schedule_fault plan ≡ None

-- they mean this image and these events, which are in order
pub record AreMeant (program plan : List ℕ) (image : ImageValue) (events : List EventValue) : Type 0 where
  pub boots : image ≡ image_of program
  pub happens : events ≡ events_of plan
  pub ordered : are_in_order 0 events ≡ true

-- two files are a system, or the first that has a fault is refused, whatever else is due
abbrev pub AreSystemFiles : FileNames → (image schedule : List ℕ) → SystemFiles → Type 0
AreSystemFiles names image schedule (files.Refused answer) =
    (others : List (Option Due)) (due : Due)
    → Settles (unless_refused (system_refusals names image schedule others) due) answer
AreSystemFiles names image schedule (files.Sound meant events) =
    AreSound image schedule × AreMeant image schedule meant events.items
