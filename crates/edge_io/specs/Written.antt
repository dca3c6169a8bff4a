-- What was written.
use Rattle.std.specs.Prelude.{ℕ, ◌<◌, List, Option, length, take}
use Rattle.std.specs.Io.KnownBytes.{Appends}

-- a first part of the bytes was appended to what was written, where that is told, and not all
pub record AppendsPart (before now : Option (List ℕ)) (bytes : List ℕ) : Type 0 where
  pub count : ℕ
  pub fewer : count < length bytes
  pub appended : Appends before now (take count bytes)
