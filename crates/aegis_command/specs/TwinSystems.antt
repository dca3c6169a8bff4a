-- `twin IMAGE SCHEDULE IMAGE SCHEDULE ENV N`: two runs compared by what one environment is given in them.
use Rattle.std.specs.Prelude.{ℕ, List, [], ◌∷◌, Option, Some, None, option_map, if◌then◌else◌}
use Rattle.std.specs.Option.{option_and_then}
use Rattle.aegis_limits.specs.Limits.{most_run_ticks}
use Rattle.boot_image.specs.ImageValue.{image_of}
use Rattle.boot_schedule.specs.Schedule.{events_of}
use Rattle.run_model.specs.Run.{System}
use Rattle.twin_run.specs.declared.answer.TwinAnswer.{TwinAnswer}
use Rattle.twin_run.specs.Answer.{twin_answer}
use Rattle.twin_run.specs.Law.{is_same}
use Rattle.twin_run.specs.Text.{twin_text}
use Rattle.commands.specs.Command.{CommandValue, content, no_further}
use Rattle.commands.specs.Due.{Due, Found, Whole, unless_refused}
use Rattle.aegis_command.specs.declared.twin_systems.TwinSystems.{TwinSystems}
use Rattle.aegis_command.specs.Ranges.{env_of, slice_of}
use Rattle.aegis_command.specs.SystemDue.{FileNames, meant, system_refusals}
use Rattle.aegis_command.specs.SystemFiles.{names_seen}

-- the system that two files are
abbrev pub meant_by : (image schedule : List ℕ) → System
meant_by image schedule = meant (image_of image) (events_of schedule)

-- an answer is found something, unless it is that both are the same
abbrev pub answer_due : ℕ → TwinAnswer → Due
answer_due e answer = if is_same answer then Whole (twin_text e answer) else Found (twin_text e answer)

-- the answer on two systems, each of at most so many ticks as a run may have
abbrev pub answer_on : (left right : System) → ℕ → ℕ → Due
answer_on left right e n = answer_due e (twin_answer left right e n most_run_ticks)

-- the first file with a fault is refused, and if none has one, the answer is due
abbrev pub twin_due : (left right : FileNames) → ℕ → ℕ → (image schedule other other_schedule : List ℕ) → Due
twin_due left right e n image schedule other other_schedule =
    unless_refused
    (system_refusals left image schedule (system_refusals right other other_schedule []))
    (answer_on (meant_by image schedule) (meant_by other other_schedule) e n)

abbrev pub twin_systems : (left right : FileNames) → ℕ → ℕ → CommandValue
twin_systems left right e n = record {
  names = left.image ∷ left.schedule ∷ right.image ∷ right.schedule ∷ [];
  further = no_further;
  due = λ contents. Some (twin_due left right e n (content contents 0) (content contents 1) (content contents 2)
      (content contents 3));
}

-- a comparison that was read from words, and what is due for it
abbrev pub twin_seen : TwinSystems → CommandValue
twin_seen c = twin_systems (names_seen c.left) (names_seen c.right) c.env c.slice.number

abbrev pub answer_seen : TwinSystems → (left right : System) → Due
answer_seen c left right = answer_on left right c.env c.slice.number

abbrev pub due_seen : TwinSystems → (image schedule other other_schedule : List ℕ) → Due
due_seen c = twin_due (names_seen c.left) (names_seen c.right) c.env c.slice.number

-- the words behind `twin`
abbrev pub twin_words : List (List ℕ) → Option CommandValue
twin_words (image ∷ schedule ∷ other ∷ other_schedule ∷ env ∷ slice ∷ []) =
    option_and_then (λ e. option_map (twin_systems (record { image = image; schedule = schedule })
    (record { image = other; schedule = other_schedule }) e) (slice_of slice)) (env_of env)
twin_words words = None
