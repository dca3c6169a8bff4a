-- The room of a sink in memory.
use Rattle.std.specs.Prelude.{◌≡◌, ℕ, ◌+◌, ◌-◌, ◌==◌, ◌||◌, ◌≤◌, [], Bool, length, min}
use Rattle.std.specs.List.{list_any}
use Rattle.memory_runs.specs.declared.sink.MemorySink.{MemorySink}

-- for how many bytes more there is room
abbrev pub room_left : MemorySink → ℕ
room_left sink = sink.room - length sink.bytes.items

-- the number of the next write is one of those that fail
abbrev pub is_set_to_fail : MemorySink → Bool
is_set_to_fail sink = list_any (λ n. n == sink.calls) sink.fails.items

-- the next write fails: it is set to fail, or no room is left
abbrev pub is_refused : MemorySink → Bool
is_refused sink = is_set_to_fail sink || (room_left sink == 0)

-- how many bytes of a piece of this length are taken: as many as one write takes and as there is room for
abbrev pub taken_of : MemorySink → ℕ → ℕ
taken_of sink piece = min piece (min sink.most (room_left sink))

-- no write has to fail, and there is room for so many bytes more
abbrev pub HasRoomFor : MemorySink → ℕ → Type 0
HasRoomFor sink more = (sink.fails.items ≡ []) × (length sink.bytes.items + more ≤ sink.room)
