-- The bodies and the entries that are left, from one of them on.
use Rattle.std.proofs.Common.{◌≡◌, ℕ, zero, suc, ◌+◌, ◌<◌, ◌^◌, List, [], ◌∷◌, ◌++◌, length, get_or, drop, refl, sym, ap, add-one, arith}
use Rattle.std.proofs.Math.Seq.{drop-cons}
use Rattle.std.specs.Global.{Vec}
use Rattle.std.specs.List.{AllByRecursion}
use Rattle.boot_image.specs.Spelling.{program_text, programs_text}
use Rattle.boot_manifest.specs.ManifestValue.{ManifestEntryValue, entries_in}
use Rattle.boot_manifest.specs.Layout.{bodies_seen, HasWordLength}

first_of : {X : Type 0} (xs : List X) (i : ℕ) (x : X) → i < length xs → x ≡ get_or xs i x → drop i xs ≡ x ∷ drop (i + 1) xs
first_of {X} xs i x within read = rw (add-one, drop-cons xs i x within) (ap (λ (first : X). first ∷ drop (suc i) xs) (sym read))

-- the bytes of a program with this body
abbrev pub program_size : List ℕ → ℕ
program_size bytes = 28 + length bytes

-- the length of each body is a word
pub short_at : (bodies : List (Vec ℕ)) (i : ℕ) (d : Vec ℕ) → i < length bodies → AllByRecursion HasWordLength (bodies_seen bodies) → length (get_or bodies i d).items < 2 ^ 32
short_at [] i d within short = absurd (omega arith)
short_at (body ∷ bodies) zero d within short = short.0
short_at (body ∷ bodies) (suc i) d within short = short_at bodies i d (omega arith) short.1

pub programs_left : (entries : List ManifestEntryValue) (bodies : List (Vec ℕ)) (i : ℕ) (entry : ManifestEntryValue) (body : Vec ℕ)
    → i < length entries → entry ≡ get_or entries i entry → i < length bodies → body ≡ get_or bodies i body
    → programs_text (entries_in (drop i entries)) (bodies_seen (drop i bodies))
    ≡ program_text entry.entry body.items ++ programs_text (entries_in (drop (i + 1) entries)) (bodies_seen (drop (i + 1) bodies))
programs_left entries bodies i entry body within read inside stands = rw (first_of entries i entry within read, first_of bodies i body inside stands) refl
