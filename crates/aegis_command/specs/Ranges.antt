-- The numbers that words give, each with its limits.
use Rattle.std.specs.Prelude.{ℕ, ◌-◌, List, Option, Some, None, nat_le, ◌&&◌, if◌then◌else◌}
use Rattle.aegis_limits.specs.Limits.{environment_numbers, least_quantum, most_quantum, most_run_ticks, most_ticks}
use Rattle.line_text.specs.Number.{digits_number}
use Rattle.twin_run.specs.Limit.{most_compared_slices}
use Rattle.wire_model.specs.Limits.{most_delay, most_wire_ticks}

-- a number from a least to a most
abbrev pub within : (least most : ℕ) → Option ℕ → Option ℕ
within least most None = None
within least most (Some n) = if nat_le least n && nat_le n most then Some n else None

-- one to ten decimal digits of such a number
abbrev pub ranged_of : (least most : ℕ) → List ℕ → Option ℕ
ranged_of least most word = within least most (digits_number 10 10 word)

-- TICKS of a run, of a long one, and on a wire
abbrev pub ticks_of : List ℕ → Option ℕ
ticks_of word = ranged_of 0 most_run_ticks word

abbrev pub long_ticks_of : List ℕ → Option ℕ
long_ticks_of word = ranged_of 0 most_ticks word

abbrev pub wire_ticks_of : List ℕ → Option ℕ
wire_ticks_of word = ranged_of 0 most_wire_ticks word

-- DELAY: at least 1
abbrev pub delay_of : List ℕ → Option ℕ
delay_of word = ranged_of 1 most_delay word

-- QUANTUM: within the limits of an image's
abbrev pub quantum_of : List ℕ → Option ℕ
quantum_of word = ranged_of least_quantum most_quantum word

-- N: the number of a slice
abbrev pub slice_of : List ℕ → Option ℕ
slice_of word = ranged_of 1 most_compared_slices word

-- ENV: a number that an environment may have, there or not
abbrev pub env_of : List ℕ → Option ℕ
env_of word = ranged_of 0 (environment_numbers - 1) word
