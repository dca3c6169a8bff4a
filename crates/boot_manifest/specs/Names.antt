-- What is printed of each cause.
use Rattle.std.specs.Prelude.{ℕ, List, codes}
use Rattle.boot_manifest.specs.declared.fault.ManifestWhy.{ManifestWhy}
use Rattle.boot_manifest.specs.declared.fault.ManifestWhy.TheVariants.{Syntax, Range, Many}

-- the printed name of a cause
abbrev pub manifest_why_text : ManifestWhy → List ℕ
manifest_why_text Syntax = codes "Syntax"
manifest_why_text Range = codes "Range"
manifest_why_text Many = codes "Many"
