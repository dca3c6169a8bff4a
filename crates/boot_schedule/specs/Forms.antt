-- The forms of a schedule's lines.
use Rattle.std.specs.Prelude.{ℕ, List, [], ◌∷◌, Option, Some, None, if◌then◌else◌, codes}
use Rattle.std.specs.Str.{bytes_eq}

-- the words of a line, by its form
pub data EventWords : Type 0 where
  PacketWords : (time bytes : List ℕ) → EventWords
  LineWords : (time number : List ℕ) → EventWords
  RevokeWords : (time env count grace : List ℕ) → EventWords

-- `TIME packet BYTES` and `TIME line NUMBER`
abbrev pub short_form : List ℕ → List ℕ → List ℕ → Option EventWords
short_form time kind word =
    if bytes_eq kind (codes "packet") then Some (PacketWords time word) else
    if bytes_eq kind (codes "line") then Some (LineWords time word) else
    None

-- these and `TIME revoke ENV COUNT GRACE`
abbrev pub event_form : List (List ℕ) → Option EventWords
event_form (time ∷ kind ∷ word ∷ []) = short_form time kind word
event_form (time ∷ kind ∷ env ∷ count ∷ grace ∷ []) =
    if bytes_eq kind (codes "revoke") then Some (RevokeWords time env count grace) else None
event_form words = None
