-- The items of one number more.
use Rattle.std.proofs.Common.{◌≡◌, ℕ, ◌+◌, List, ◌++◌, refl, add-one}
use Rattle.std.proofs.lemmas.Grind.{flat_map-append}
use Rattle.std.specs.List.{flat_map}
use Rattle.line_text.specs.WrittenLine.{spaced}
use Rattle.machine_text.specs.Series.{for_each}

pub for_each_more : (text : ℕ → List ℕ) (i : ℕ) → for_each text (i + 1) ≡ for_each text i ++ text i
for_each_more text i = rw add-one refl

pub more_words : (words : ℕ → List (List ℕ)) (i : ℕ)
    → flat_map spaced (for_each words (i + 1)) ≡ flat_map spaced (for_each words i) ++ flat_map spaced (words i)
more_words words i = rw (add-one, flat_map-append) refl

pub three_parts : (xs ys zs : List (List ℕ)) → flat_map spaced (xs ++ ys ++ zs) ≡ flat_map spaced xs ++ flat_map spaced ys ++ flat_map spaced zs
three_parts xs ys zs = rw (flat_map-append, flat_map-append) refl
