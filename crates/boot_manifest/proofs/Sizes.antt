-- The length of an image.
use Rattle.std.proofs.Common.{◌≡◌, ℕ, ◌+◌, List, [], ◌∷◌, length, refl, arith, length-append}
use Rattle.std.proofs.lemmas.List.{length-map}
use Rattle.std.proofs.lemmas.List.Sums.{sum_by-cons}
use Rattle.std.specs.Prelude.{sum_by}
use Rattle.std.specs.List.{AllByRecursion}
use Rattle.boot_image.specs.Spelling.{programs_text, image_text}
use Rattle.boot_manifest.specs.ManifestValue.{ManifestEntryValue, ManifestValue, entries_in, plan_in}
use Rattle.boot_manifest.specs.Limited.{IsEntry}
use Rattle.boot_manifest.proofs.Bodies.{program_size}
use Rattle.boot_image.specs.ImageValue.{header_size}
use Rattle.boot_image.proofs.Read.{magic_size}

programs_are : (entries : List ManifestEntryValue) (bodies : List (List ℕ)) → AllByRecursion IsEntry entries → length bodies ≡ length entries
    → length (programs_text (entries_in entries) bodies) ≡ sum_by program_size bodies
programs_are [] [] are same = refl
programs_are [] (bytes ∷ bodies) are same = absurd (omega arith)
programs_are (e ∷ entries) [] are same = absurd (omega arith)
programs_are (e ∷ entries) (bytes ∷ bodies) are same =
    simp length-append (omega (arith, are.0.name_length, programs_are entries bodies are.1 (omega arith), sum_by-cons program_size bytes bodies))

pub image_is : (manifest : ManifestValue) (bodies : List (List ℕ)) → AllByRecursion IsEntry manifest.entries → length bodies ≡ length manifest.entries
    → length (image_text (plan_in manifest) bodies) ≡ header_size + length manifest.slots + sum_by program_size bodies
image_is manifest bodies are same = simp (length-append, length-map) (omega (arith, magic_size manifest.version, programs_are manifest.entries bodies are same))
