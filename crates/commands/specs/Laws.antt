-- What is due for files without fault.
use Rattle.std.specs.Prelude.{◌≡◌, ◌<◌, ◌^◌, ℕ, List, [], ◌∷◌, Some, None, Ok, length}
use Rattle.elf_static.specs.ObjectValue.{ObjectValue}
use Rattle.elf_static.specs.Layout.{elf_text}
use Rattle.elf_static.specs.ElfFaults.{elf_fault}
use Rattle.elf_static.specs.ElfValue.{elf_of}
use Rattle.mips_asm.specs.Assembled.{assembled}
use Rattle.mips_list.specs.Listed.{listed}
use Rattle.boot_image.specs.Spelling.{image_text}
use Rattle.boot_image.specs.ImageFaults.{image_fault}
use Rattle.boot_manifest.specs.ManifestValue.{files_in, plan_in}
use Rattle.boot_manifest.specs.Reading.{manifest_fault, manifest_of}
use Rattle.commands.specs.Asm.{asm}
use Rattle.commands.specs.Due.{Whole}
use Rattle.commands.specs.ListElf.{list_elf}
use Rattle.commands.specs.MakeImage.{make_image}

-- for a source without fault, the ELF file of what it assembles to
abbrev pub Assembles : Type 0
Assembles =
    (name source : List ℕ) (object : ObjectValue) → assembled source ≡ Ok object →
    (asm name).due (source ∷ []) ≡ Some (Whole (elf_text object))

-- for an ELF file without fault, its listing
abbrev pub Lists : Type 0
Lists =
    (name elf : List ℕ) → elf_fault elf ≡ None →
    (list_elf name).due (elf ∷ []) ≡ Some (Whole (listed (elf_of elf)))

-- a manifest without fault names the files that it says
abbrev pub NamesFiles : Type 0
NamesFiles =
    (name text : List ℕ) → manifest_fault text ≡ None →
    (make_image name).further (text ∷ []) ≡ files_in (manifest_of text)

-- for a manifest without fault, and bodies that make an image that can be read, this image
abbrev pub Images : Type 0
Images =
    (name text : List ℕ) (bodies : List (List ℕ)) → manifest_fault text ≡ None →
    length (image_text (plan_in (manifest_of text)) bodies) < 2 ^ 27
    → image_fault (image_text (plan_in (manifest_of text)) bodies) ≡ None →
    (make_image name).due (text ∷ bodies) ≡ Some (Whole (image_text (plan_in (manifest_of text)) bodies))
