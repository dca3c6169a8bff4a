-- The bodies of an image, as the writer appends them one after another.
use Rattle.std.specs.Prelude.{ℕ, ◌<◌, ◌^◌, List, length, map}
use Rattle.std.specs.Global.{Vec}

-- the bytes of bodies
abbrev pub bodies_seen : List (Vec ℕ) → List (List ℕ)
bodies_seen bodies = map (λ (body : Vec ℕ). body.items) bodies

-- the length of a body is a word
abbrev pub HasWordLength : List ℕ → Type 0
HasWordLength bytes = length bytes < 2 ^ 32
