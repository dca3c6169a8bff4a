-- `core IMAGE SCHEDULE TICKS ENV`: the state of an environment after a run, as a core file.
use Rattle.std.specs.Prelude.{ℕ, List, [], ◌∷◌, Option, Some, None, option_map, nat_lt, if◌then◌else◌, codes}
use Rattle.std.specs.Option.{option_and_then}
use Rattle.boot_image.specs.ImageValue.{ImageValue, image_of}
use Rattle.boot_schedule.specs.Schedule.{events_of}
use Rattle.external_event.specs.EventValue.{EventValue}
use Rattle.world_model.specs.Solo.{is_dead}
use Rattle.world_model.specs.World.{World}
use Rattle.run_model.specs.Run.{world_after}
use Rattle.core_file.specs.Core.{core_text}
use Rattle.commands.specs.Command.{CommandValue, content, no_further}
use Rattle.commands.specs.Due.{Due, Whole, refused, unless_refused}
use Rattle.aegis_command.specs.declared.core_env.CoreEnv.{CoreEnv}
use Rattle.aegis_command.specs.Ranges.{env_of, long_ticks_of}
use Rattle.aegis_command.specs.SystemDue.{FileNames, meant, system_refusals}
use Rattle.aegis_command.specs.SystemFiles.{names_seen}

-- the core of an environment that lives; of a dead one, and of one that the image of this name lacks, there is none
abbrev pub core_due : List ℕ → World → ℕ → Due
core_due image w e =
    if nat_lt e w.count
    then (if is_dead (w.solos e).life then refused image (codes "Dead") e else Whole (core_text w e))
    else refused image (codes "Absent") e

-- the core after so many ticks of a run
abbrev pub core_after : List ℕ → (ticks e : ℕ) → ImageValue → List EventValue → Due
core_after name ticks e image events = core_due name (world_after (meant image events) ticks) e

-- the first file with a fault is refused, and if none has one, the core is due
abbrev pub due_of_core : FileNames → (ticks e : ℕ) → (image schedule : List ℕ) → Due
due_of_core names ticks e image schedule =
    unless_refused (system_refusals names image schedule [])
    (core_after names.image ticks e (image_of image) (events_of schedule))

abbrev pub core_env : FileNames → (ticks e : ℕ) → CommandValue
core_env names ticks e = record {
  names = names.image ∷ names.schedule ∷ [];
  further = no_further;
  due = λ contents. Some (due_of_core names ticks e (content contents 0) (content contents 1));
}

abbrev pub core_seen : CoreEnv → CommandValue
core_seen c = core_env (names_seen c.names) c.ticks.number c.env

abbrev pub core_due_seen : CoreEnv → (image schedule : List ℕ) → Due
core_due_seen c = due_of_core (names_seen c.names) c.ticks.number c.env

-- the words behind `core`
abbrev pub core_words : List (List ℕ) → Option CommandValue
core_words (image ∷ schedule ∷ ticks ∷ env ∷ []) =
    option_and_then (λ t. option_map (core_env (record { image = image; schedule = schedule }) t) (env_of env))
    (long_ticks_of ticks)
core_words words = None
