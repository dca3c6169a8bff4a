use Rattle.std.proofs.Common.{◌≡◌, ◌++◌, drop, length}
use Rattle.std.specs.List.{AllByRecursion}
use Rattle.std.specs.Option.{option_map}
use Rattle.aegis_limits.specs.VersionLimits.{most_environments_of}
use Rattle.boot_image.specs.Accepted.{IsOwnerBelow}
use Rattle.line_text.specs.WordView.{words_seen}
use Rattle.boot_manifest.specs.Ranges.{owners_in}
use Rattle.boot_manifest.proofs.ranges.owners_of.Given as goal

-- the owners so far and those of the words that are left are all of them
abbrev pub invariant-loop-word : goal.invariant-loop-word
invariant-loop-word l = record {
  told : option_map (λ left. l.owners.items ++ left) (owners_in l.version (words_seen (drop l.word-index l.words))) ≡ owners_in l.version (words_seen l.words);
  below : AllByRecursion (IsOwnerBelow (most_environments_of l.version)) l.owners.items;
  count : length l.owners.items ≡ l.word-index;
}
