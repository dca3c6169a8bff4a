-- `image MANIFEST`: the image of a manifest and the files that it names.
use Rattle.std.specs.Prelude.{ℕ, ◌^◌, List, [], ◌∷◌, Option, Some, None, drop, length, nat_le, if◌then◌else◌}
use Rattle.boot_image.specs.declared.fault.ImageFault.{ImageFault}
use Rattle.boot_image.specs.declared.fault.ImageWhy.TheVariants.{TooBig}
use Rattle.boot_image.specs.ImageFaults.{image_fault}
use Rattle.boot_image.specs.Names.{image_why_text}
use Rattle.boot_image.specs.Spelling.{image_text}
use Rattle.line_text.specs.declared.failure.LineFault.{LineFault}
use Rattle.boot_manifest.specs.declared.fault.ManifestWhy.{ManifestWhy}
use Rattle.boot_manifest.specs.ManifestValue.{files_in, plan_in}
use Rattle.boot_manifest.specs.Names.{manifest_why_text}
use Rattle.boot_manifest.specs.Reading.{manifest_fault, manifest_of}
use Rattle.commands.specs.Due.{Due, Whole, refused}
use Rattle.commands.specs.Command.{CommandValue, content}

-- the files that a manifest names, if it has no fault
abbrev pub files_named : List ℕ → Option (LineFault ManifestWhy) → List (List ℕ)
files_named text None = files_in (manifest_of text)
files_named text (Some fault) = []

-- a made image with a fault is refused under its manifest's name, and another is written
abbrev pub made_due : List ℕ → List ℕ → Option ImageFault → Due
made_due name image (Some fault) = refused name (image_why_text fault.why) fault.place
made_due name image None = Whole image

-- one that is too long to be read is refused before
abbrev pub sized_due : List ℕ → List ℕ → Due
sized_due name image =
    if nat_le (2 ^ 27) (length image) then refused name (image_why_text TooBig) 4
    else made_due name image (image_fault image)

-- a manifest with a fault is refused, and another makes an image of its bodies
abbrev pub image_due : List ℕ → List ℕ → List (List ℕ) → Option (LineFault ManifestWhy) → Due
image_due name text bodies (Some fault) = refused name (manifest_why_text fault.why) fault.line
image_due name text bodies None = sized_due name (image_text (plan_in (manifest_of text)) bodies)

abbrev pub make_image : List ℕ → CommandValue
make_image manifest = record {
  names = manifest ∷ [];
  further = λ contents. files_named (content contents 0) (manifest_fault (content contents 0));
  due = λ contents. Some
      (image_due manifest (content contents 0) (drop 1 contents) (manifest_fault (content contents 0)));
}
