-- The limits of the first pass.
use Rattle.std.specs.Prelude.{ℕ}

-- the most bytes that a section may have
abbrev pub section_limit : ℕ
section_limit = 1048576

-- Places lie below this address: the data's base, and what the data may have.
abbrev pub place_limit : ℕ
place_limit = 0x20000000

-- The word of an instruction with its registers lies below this one, so that no sum of its parts wraps.
abbrev pub word_limit : ℕ
word_limit = 0xd0000000
