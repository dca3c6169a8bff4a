-- Each is what is due at a file without fault.
use Rattle.std.proofs.Common.{◌≡◌, ◌<◌, ◌^◌, ◌∙◌, ℕ, List, Some, None, length, ap, arith, refl}
use Rattle.std.specs.Prelude.{nat_le, false}
use Rattle.boot_image.specs.ImageFaults.{image_fault}
use Rattle.boot_image.specs.Spelling.{image_text}
use Rattle.boot_manifest.specs.ManifestValue.{plan_in}
use Rattle.boot_manifest.specs.Reading.{manifest_of}
use Rattle.commands.specs.Asm.{asm_due}
use Rattle.commands.specs.Due.{Due, Whole}
use Rattle.commands.specs.ListElf.{list_due}
use Rattle.commands.specs.MakeImage.{files_named, image_due, sized_due}
use Rattle.commands.proofs.laws.whole_files_are_due.Goals as goal

-- an image that can be read is due as it is
made_whole : (name image : List ℕ) → length image < 2 ^ 27 → image_fault image ≡ None → sized_due name image ≡ Whole image
made_whole name image short ok =
    let long : nat_le (2 ^ 27) (length image) ≡ false = grind (arith, short) in
    rw (long, ok) refl

pub returns-clause-assembles : goal.returns-clause-assembles
returns-clause-assembles c = λ name source object is. ap (λ found. Some (asm_due name found)) is

pub returns-clause-lists : goal.returns-clause-lists
returns-clause-lists c = λ name elf ok. ap (λ f. Some (list_due name elf f)) ok

pub returns-clause-names_files : goal.returns-clause-names_files
returns-clause-names_files c = λ name text ok. ap (files_named text) ok

pub returns-clause-images : goal.returns-clause-images
returns-clause-images c = λ name text bodies ok short can.
    ap (λ f. Some (image_due name text bodies f)) ok ∙ ap (λ (d : Due). Some d) (made_whole name (image_text (plan_in (manifest_of text)) bodies) short can)
