-- Programs that are equal but for their names.
use Rattle.std.proofs.Common.{◌≡◌, ℕ, zero, suc, ◌+◌, List, [], ◌∷◌, ◌++◌, length, map, replicate, ap, arith, refl}
use Rattle.std.specs.List.{flat_map, range_with_len}
use Rattle.std.proofs.lemmas.List.FromFn.{map-range_with_len_more}
use Rattle.boot_image.specs.Spelling.{programs_text}
use Rattle.exos_text.specs.LoadElf.{load_elf}
use Rattle.exos_text.specs.LoadImage.{load_entries, load_entry, load_name, named_text}

-- the names of the programs
abbrev pub names : List (List ℕ)
names = map load_name (range_with_len 0 16)

pub entries_are : load_entries ≡ map load_entry names
unfolding load_entries
entries_are = refl

-- programs with one body stand one after another
pub with_one_body : (names : List (List ℕ)) (count : ℕ) → length names ≡ count → programs_text (map load_entry names) (replicate count load_elf) ≡ flat_map named_text names
with_one_body [] count is = refl
with_one_body (name ∷ names) zero is = absurd (omega arith)
with_one_body (name ∷ names) (suc count) is = ap (λ (others : List ℕ). named_text name ++ others) (with_one_body names count (omega (arith, is)))

-- what is made of one number more
pub made_more : {X : Type 0} (f : ℕ → X) (n : ℕ) → map f (range_with_len 0 (n + 1)) ≡ map f (range_with_len 0 n) ++ f n ∷ []
made_more f n = map-range_with_len_more f 0 n n (omega arith)
