-- The limits of files.
use Rattle.std.specs.Prelude.{ℕ, nat_le, if◌then◌else◌, Option, Some, None}

-- the most bytes that a file may have
abbrev pub file_limit : ℕ
file_limit = 67108864

-- a length, where a file may be so long
abbrev pub limited_length : ℕ → Option ℕ
limited_length length = if nat_le length file_limit then Some length else None
