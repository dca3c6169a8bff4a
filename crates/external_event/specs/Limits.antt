-- The limits of what comes from outside.
use Rattle.std.specs.Prelude.{ℕ, ◌-◌}
use Rattle.aegis_limits.specs.Limits.{environment_numbers}

-- the bytes of the longest packet
abbrev pub most_packet_size : ℕ
most_packet_size = 1514

-- the bytes of the shortest packet that is sent: a frame's header
abbrev pub least_frame_size : ℕ
least_frame_size = 14

-- the packets that an environment sends at most
abbrev pub most_sent : ℕ
most_sent = 256

-- the interrupt lines, numbered from 0
abbrev pub lines : ℕ
lines = 8

-- the greatest number of an environment that is asked for pages, and the most pages for which one is asked at once
abbrev pub last_environment : ℕ
last_environment = environment_numbers - 1

abbrev pub most_asked : ℕ
most_asked = 4096
