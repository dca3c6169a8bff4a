-- An event, as it is seen.
use Rattle.std.specs.Prelude.{ℕ, ◌&&◌, nat_le, nat_lt, Bool}
use Rattle.aegis_limits.specs.Limits.{most_run_ticks}
use Rattle.external_event.specs.declared.event.Occurrence.{Occurrence}
use Rattle.external_event.specs.declared.event.Occurrence.TheVariants.{Packet, Line, Revoke}
use Rattle.external_event.specs.Limits.{last_environment, lines, most_asked}
use Rattle.external_event.specs.Packet.{is_packet}

-- what happens at a time
pub record EventValue : Type 0 where
  pub time : ℕ
  pub what : Occurrence

-- the numbers of what happens are within their limits
abbrev pub is_occurrence : Occurrence → Bool
is_occurrence (Packet bytes) = is_packet bytes
is_occurrence (Line line) = nat_lt line lines
is_occurrence (Revoke env count grace) =
    nat_le env last_environment && (nat_le count most_asked && nat_le grace most_run_ticks)

-- the numbers of an event are within their limits
abbrev pub is_event : EventValue → Bool
is_event e = nat_le e.time most_run_ticks && is_occurrence e.what
