-- The order of events.
use Rattle.std.specs.Prelude.{ℕ, ◌&&◌, nat_le, Bool, true, List, [], ◌∷◌}
use Rattle.external_event.specs.EventValue.{EventValue}

-- whether times don't fall from one event to the next, from this time on
abbrev pub are_in_order : ℕ → List EventValue → Bool
are_in_order before [] = true
are_in_order before (event ∷ events) = nat_le before event.time && are_in_order event.time events
