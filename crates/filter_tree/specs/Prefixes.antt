-- How many fields a search reads at most.
use Rattle.std.specs.Prelude.{ℕ, ◌+◌, Bool, true, false, ◌==◌, ◌&&◌, if◌then◌else◌, List, [], ◌∷◌, map, drop}
use Rattle.std.specs.List.{flat_map, list_any}
use Rattle.filter_core.specs.declared.atom.Atom.{Atom}
use Rattle.filter_tree.specs.ClaimBook.{ClaimBook, ClaimValue, claims_in}

-- the shape of an atom: the field that it reads, and the bits of it for which it asks
pub record Shape : Type 0 where
  pub offset : ℕ
  pub width : ℕ
  pub mask : ℕ

abbrev pub shape_of : Atom → Shape
shape_of a = record { offset = a.offset; width = a.width; mask = a.mask }

abbrev pub same_shape : Shape → Shape → Bool
same_shape s t = s.offset == t.offset && s.width == t.width && s.mask == t.mask

abbrev pub same_shapes : List Shape → List Shape → Bool
same_shapes [] [] = true
same_shapes [] (t ∷ more) = false
same_shapes (s ∷ shapes) [] = false
same_shapes (s ∷ shapes) (t ∷ more) = same_shape s t && same_shapes shapes more

-- the prefixes of a list that aren't empty
abbrev pub prefixes_of : List Shape → List (List Shape)
prefixes_of [] = []
prefixes_of (s ∷ shapes) = (s ∷ []) ∷ map (λ prefix. s ∷ prefix) (prefixes_of shapes)

-- how many different ones there are of some lists: each is counted where it stands last
abbrev pub distinct : List (List Shape) → ℕ
distinct [] = 0
distinct (p ∷ lists) = (if list_any (same_shapes p) lists then 0 else 1) + distinct lists

-- the shapes of a claim's atoms from a depth on
abbrev pub shapes_from : ℕ → ClaimValue → List Shape
shapes_from depth c = map shape_of (drop depth c.filter)

-- how many different prefixes the shapes of some claims have from a depth on
abbrev pub prefixes_from : ℕ → List ClaimValue → ℕ
prefixes_from depth claims = distinct (flat_map (λ c. prefixes_of (shapes_from depth c)) claims)

-- how many different prefixes the shapes of the claims have
abbrev pub prefixes : ClaimBook → ℕ
prefixes book = prefixes_from 0 (claims_in book)
