-- The limits of a wire.
use Rattle.std.specs.Prelude.{ℕ}

-- the machines on a wire
abbrev pub most_machines : ℕ
most_machines = 8

-- the number by which a packet names all machines but its sender
abbrev pub all_others : ℕ
all_others = 255

-- the ticks that a wire takes to carry a packet
abbrev pub most_delay : ℕ
most_delay = 65536

-- the ticks of a run of machines on a wire
abbrev pub most_wire_ticks : ℕ
most_wire_ticks = 1048576
