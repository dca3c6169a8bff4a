-- `trace IMAGE SCHEDULE TICKS ENV`, and with `FROM` behind it: the steps of one environment in a run of an image.
use Rattle.std.specs.Prelude.{ℕ, ◌-◌, List, [], ◌∷◌, Option, Some, None, nat_le, ◌&&◌, if◌then◌else◌}
use Rattle.std.specs.Option.{option_and_then}
use Rattle.trace_view.specs.Limit.{most_traced_ticks}
use Rattle.trace_view.specs.Trace.{trace_text}
use Rattle.commands.specs.Command.{CommandValue}
use Rattle.aegis_command.specs.Ranges.{env_of, long_ticks_of}
use Rattle.aegis_command.specs.SystemDue.{Writing, system_words}
use Rattle.aegis_command.specs.declared.trace_env.Trace.{Trace}

-- the trace of an environment, of the ticks from one on up to another
abbrev pub trace_of : (from ticks e : ℕ) → Writing
trace_of from ticks e image events = trace_text image events from ticks e

abbrev pub trace_writing : Trace → Writing
trace_writing trace = trace_of trace.from trace.ticks trace.env

-- it isn't from after the last tick on, and of not too many ticks
abbrev pub trace_within : (from ticks e : ℕ) → Option Writing
trace_within from ticks e =
    if nat_le from ticks && nat_le (ticks - from) most_traced_ticks then Some (trace_of from ticks e) else None

-- the trace from a tick on
abbrev pub trace_from : ℕ → (ticks env : List ℕ) → Option Writing
trace_from from ticks env =
    option_and_then (λ t. option_and_then (λ e. trace_within from t e) (env_of env)) (long_ticks_of ticks)

-- the words behind the names of the files: FROM is 0 where it isn't there
abbrev pub trace_asked : List (List ℕ) → Option Writing
trace_asked (ticks ∷ env ∷ []) = trace_from 0 ticks env
trace_asked (ticks ∷ env ∷ from ∷ []) = option_and_then (λ f. trace_from f ticks env) (long_ticks_of from)
trace_asked words = None

-- the words behind `trace`
abbrev pub trace_words : List (List ℕ) → Option CommandValue
trace_words = system_words trace_asked
