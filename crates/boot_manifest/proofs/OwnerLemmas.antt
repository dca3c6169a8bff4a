-- The owners of slots, one after another.
use Rattle.std.proofs.Common.{◌≡◌, ℕ, ◌+◌, ◌<◌, List, [], ◌∷◌, ◌++◌, Option, Some, None, length, get_or, drop, refl, ap, ◌∙◌, ◌≤◌, append_assoc, add-one, arith}
use Rattle.std.proofs.Math.Seq.{drop-cons}
use Rattle.std.specs.Borrow.{Bor}
use Rattle.std.specs.Option.{option_map}
use Rattle.aegis_limits.specs.VersionLimits.{most_environments_of}
use Rattle.aegis_limits.specs.declared.version.Version.{Version}
use Rattle.aegis_limits.specs.declared.version.Version.TheVariants.{One, Two}
use Rattle.line_text.specs.WordView.{words_seen}
use Rattle.boot_manifest.specs.Ranges.{owner_in, owners_in}

-- how many environments a version allows
pub some_environments : (version : Version) → (1 ≤ most_environments_of version) × (most_environments_of version ≤ 32)
some_environments One = (omega arith, omega arith)
some_environments Two = (omega arith, omega arith)

-- owners that stand before others
abbrev pub before_owners : List (Option ℕ) → Option (List (Option ℕ)) → Option (List (Option ℕ))
before_owners owners left = option_map (λ more. owners ++ more) left

one_more : (owners : List (Option ℕ)) (owner : Option ℕ) (left : Option (List (Option ℕ)))
    → before_owners (owners ++ owner ∷ []) left ≡ before_owners owners (option_map (λ more. owner ∷ more) left)
one_more owners owner None = refl
one_more owners owner (Some more) = ap Some (append_assoc owners (owner ∷ []) more)

-- where a word names one
pub owner_more : (version : Version) (d : Bor (List ℕ)) (words : List (Bor (List ℕ))) (i : ℕ) (owners : List (Option ℕ)) (owner : Option ℕ) (all : Option (List (Option ℕ)))
    → i < length words → Some owner ≡ owner_in version (get_or words i d).now → before_owners owners (owners_in version (words_seen (drop i words))) ≡ all
    → before_owners (owners ++ owner ∷ []) (owners_in version (words_seen (drop (i + 1) words))) ≡ all
owner_more version d words i owners owner all within is so_far =
    rw add-one (one_more owners owner _ ∙ (rw (drop-cons words i d within, ← is) at so_far))

-- where it names none
pub owner_none : (version : Version) (d : Bor (List ℕ)) (words : List (Bor (List ℕ))) (i : ℕ) (owners : List (Option ℕ)) (all : Option (List (Option ℕ)))
    → i < length words → None ≡ owner_in version (get_or words i d).now → before_owners owners (owners_in version (words_seen (drop i words))) ≡ all → None ≡ all
owner_none version d words i owners all within is so_far = rw (drop-cons words i d within, ← is) at so_far
