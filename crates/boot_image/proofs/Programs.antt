-- Programs one after another, as the loop takes them.
use Rattle.std.proofs.Common.{◌≡◌, ℕ, zero, suc, List, Option, None, Some, length, refl, ap, arith}
use Rattle.std.specs.Option.{option_or}
use Rattle.std.specs.Prelude.{nat_lt, ◌≢◌, if◌then◌else◌}
use Rattle.aegis_limits.specs.Limits.{most_mappings}
use Rattle.boot_image.specs.declared.fault.ImageFault.{ImageFault}
use Rattle.boot_image.specs.declared.fault.ImageWhy.TheVariants.{TooMany}
use Rattle.boot_image.specs.ImageValue.{ProgramValue, guaranteed_mappings, body_end, headers_from}
use Rattle.boot_image.specs.ImageFaults.{fault}
use Rattle.boot_image.specs.Parts.{if_fitting}

-- so many programs have so many headers
pub length-headers_from : (count : ℕ) (file : List ℕ) (header : ℕ) → length (headers_from count file header) ≡ count
length-headers_from zero file header = refl
length-headers_from (suc count) file header = ap suc (length-headers_from count file (body_end file header))

-- a program that is handed on is the one that was read, and needs no more mappings than it may have
pub is_read : (read program : ProgramValue) → if_fitting read ≡ Some program → program ≡ read
is_read read program is = grind (arith, is)

pub few : (read program : ProgramValue) (place : ℕ) → if_fitting read ≡ Some program → (if nat_lt most_mappings (guaranteed_mappings read) then fault TooMany place else None) ≡ None
few read program place is = grind (arith, is)

-- one that isn't needs more
pub many : (read : ProgramValue) (place : ℕ) → if_fitting read ≡ None → (if nat_lt most_mappings (guaranteed_mappings read) then fault TooMany place else None) ≡ fault TooMany place
many read place is = grind (arith, is)

-- behind one that needs more nothing is the first
pub or_some : (found later : Option ImageFault) (f : ImageFault) → option_or (option_or found (Some f)) later ≡ option_or found (Some f)
or_some None later f = refl
or_some (Some g) later f = refl

pub none_or_some : (found : Option ImageFault) (f : ImageFault) → option_or found (Some f) ≢ None
none_or_some None f none = cc
none_or_some (Some g) f none = cc
