-- What a line of a schedule says by itself.
use Rattle.std.specs.Prelude.{ℕ, ◌-◌, List, Result, Ok}
use Rattle.std.specs.Option.{ok_or, option_and_then}
use Rattle.std.specs.Result.{result_ok}
use Rattle.aegis_limits.specs.Limits.{most_run_ticks}
use Rattle.hex.specs.Hex.{decode_of}
use Rattle.line_text.specs.Number.{number_within}
use Rattle.line_text.specs.Outcome.{◌>>=◌}
use Rattle.line_text.specs.Words.{line_words}
use Rattle.external_event.specs.declared.event.Occurrence.{Occurrence}
use Rattle.external_event.specs.declared.event.Occurrence.TheVariants.{Packet, Line, Revoke}
use Rattle.external_event.specs.EventValue.{EventValue}
use Rattle.external_event.specs.Limits.{last_environment, lines, most_asked}
use Rattle.external_event.specs.Packet.{packet_of}
use Rattle.boot_schedule.specs.declared.fault.ScheduleWhy.{ScheduleWhy}
use Rattle.boot_schedule.specs.declared.fault.ScheduleWhy.TheVariants.{Syntax, Range, Hex}
use Rattle.boot_schedule.specs.Forms.{EventWords, PacketWords, LineWords, RevokeWords, event_form}

-- a number, at most so much
abbrev pub in_range : ℕ → List ℕ → Result ℕ ScheduleWhy
in_range most word = ok_or (number_within 0 most word) Range

-- the bytes of a packet
abbrev pub bytes_said : List ℕ → Result (List ℕ) ScheduleWhy
bytes_said word = do
  bytes ← ok_or (result_ok (decode_of word)) Hex
  ok_or (packet_of bytes) Range

abbrev pub event_at : ℕ → Occurrence → EventValue
event_at time what = record { time = time; what = what }

-- what the words of each form say, the time first
abbrev pub words_said : EventWords → Result EventValue ScheduleWhy
words_said (PacketWords time word) = do
  t ← in_range most_run_ticks time
  bytes ← bytes_said word
  Ok (event_at t (Packet bytes))
words_said (LineWords time number) = do
  t ← in_range most_run_ticks time
  n ← in_range (lines - 1) number
  Ok (event_at t (Line n))
words_said (RevokeWords time env count grace) = do
  t ← in_range most_run_ticks time
  e ← in_range last_environment env
  pages ← in_range most_asked count
  ticks ← in_range most_run_ticks grace
  Ok (event_at t (Revoke e pages ticks))

-- the event that a line says
abbrev pub said : List ℕ → Result EventValue ScheduleWhy
said text = do
  words ← ok_or (option_and_then event_form (line_words text)) Syntax
  words_said words
