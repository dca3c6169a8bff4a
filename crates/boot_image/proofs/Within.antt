-- An image within the limits of its version is within those of all versions.
use Rattle.std.proofs.Common.{◌≤◌, length, arith}
use Rattle.aegis_limits.specs.Limits.{most_environments, most_pages}
use Rattle.aegis_limits.specs.VersionLimits.{most_environments_of, most_pages_of}
use Rattle.aegis_limits.specs.declared.version.Version.{Version}
use Rattle.aegis_limits.specs.declared.version.Version.TheVariants.{One, Two}
use Rattle.boot_image.specs.Accepted.{IsAccepted}
use Rattle.boot_image.specs.ImageValue.{ImageValue}

pages_within : (version : Version) → most_pages_of version ≤ most_pages
pages_within One = omega arith
pages_within Two = omega arith

environments_within : (version : Version) → most_environments_of version ≤ most_environments
environments_within One = omega arith
environments_within Two = omega arith

pub few_pages : (image : ImageValue) → IsAccepted image → image.pages ≤ most_pages
few_pages image accepted = omega (arith, accepted.pages_most, pages_within image.version)

pub few_programs : (image : ImageValue) → IsAccepted image → length image.programs ≤ most_environments
few_programs image accepted = omega (arith, accepted.programs_most, environments_within image.version)
