-- Rings: pages into whose two buffers packets go in turn.
use Rattle.std.specs.Prelude.{ℕ, Bool, not, ◌==◌, List, ◌++◌, length}
use Rattle.frame_store.specs.Pages.{with_bytes, word_at, word_bytes}
use Rattle.packet_ring.specs.declared.buffer.Buffer.{Buffer}
use Rattle.packet_ring.specs.declared.buffer.Buffer.TheVariants.{First, Second}

-- where a buffer begins in its page
abbrev pub buffer_offset : Buffer → ℕ
buffer_offset First = 0x000
buffer_offset Second = 0x800

-- the buffer whose turn is after this one's
abbrev pub other_buffer : Buffer → Buffer
other_buffer First = Second
other_buffer Second = First

-- a buffer is full while its first word, the length of a packet, isn't 0
abbrev pub is_full : List ℕ → Buffer → Bool
is_full page buffer = not (word_at page (buffer_offset buffer) == 0)

-- a page with a packet in one of its buffers: a word with its length, and then its bytes
abbrev pub with_packet : List ℕ → Buffer → List ℕ → List ℕ
with_packet page buffer packet = with_bytes page (buffer_offset buffer) (word_bytes (length packet) ++ packet)
