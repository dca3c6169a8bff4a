-- What atoms ask of each byte of a packet.
use Rattle.std.specs.Prelude.{ℕ, zero, suc, ◌+◌, ◌-◌, Bool, true, ◌==◌, ◌&&◌, nat_le, nat_lt, if◌then◌else◌, List, [], ◌∷◌, bit_and, bit_or}
use Rattle.std.specs.Int.{byte_at}
use Rattle.std.specs.List.{list_all}
use Rattle.filter_core.specs.declared.atom.Atom.{Atom}

-- whether a byte of a packet is one of an atom's field
abbrev pub is_in_field : Atom → ℕ → Bool
is_in_field a place = nat_le a.offset place && nat_lt place (a.offset + a.width)

-- the byte of an atom's mask or value that stands at a place of the packet; 0 outside its field
abbrev pub byte_for : Atom → ℕ → ℕ → ℕ
byte_for a number place = if is_in_field a place then byte_at (a.offset + a.width - 1 - place) number else 0

abbrev pub mask_at : ℕ → Atom → ℕ
mask_at place a = byte_for a a.mask place

abbrev pub value_at : ℕ → Atom → ℕ
value_at place a = byte_for a a.value place

-- two atoms agree on a byte if they ask for the same value of each bit for which both ask
abbrev pub agree_at : ℕ → Atom → Atom → Bool
agree_at place a b = bit_and (value_at place a) (mask_at place b) == bit_and (value_at place b) (mask_at place a)

-- they agree on the first so many bytes of the field of the one
abbrev pub agree_on_first : ℕ → Atom → Atom → Bool
agree_on_first zero a b = true
agree_on_first (suc n) a b = agree_on_first n a b && agree_at (a.offset + n) a b

-- two atoms agree if they do on each byte
abbrev pub atoms_agree : Atom → Atom → Bool
atoms_agree a b = agree_on_first a.width a b

-- two filters agree if each atom of the one does with each of the other
unfoldable pub agree : List Atom → List Atom → Bool
agree f g = list_all (λ a. list_all (λ b. atoms_agree a b) g) f

-- all bits of a byte for which the atoms of a filter ask, by what each asks
abbrev pub asked : (Atom → ℕ) → List Atom → ℕ
asked part [] = 0
asked part (a ∷ f) = bit_or (part a) (asked part f)
