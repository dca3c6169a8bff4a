-- The names so far are those of the entries so far.
use Rattle.std.proofs.Common.{◌≡◌, map, take}
use Rattle.std.specs.Prelude.{string_bytes}
use Rattle.boot_manifest.specs.ManifestValue.{ManifestEntryValue}
use Rattle.commands.proofs.make_image.entry_files.Given as goal

abbrev pub invariant-loop-entry : goal.invariant-loop-entry
invariant-loop-entry l = map string_bytes l.names.items ≡ map (λ (e : ManifestEntryValue). e.file) (take l.entry-index l.entries)
