-- The parts that are left, from one of them on.
use Rattle.std.proofs.Common.{◌≡◌, ℕ, ◌+◌, ◌<◌, List, ◌∷◌, length, get_or, drop, suc, sym, ap, add-one}
use Rattle.std.proofs.Math.Seq.{drop-cons}
use Rattle.std.proofs.lemmas.List.Sums.{sum_by-cons}
use Rattle.elf_static.specs.declared.object.Part.{Part}
use Rattle.elf_static.specs.ObjectValue.{PartValue}
use Rattle.elf_static.specs.Layout.{bodies_length}
use Rattle.elf_static.specs.Seen.{part_seen, parts_seen}

pub first_of : (parts : List Part) (i : ℕ) (part : Part) → i < length parts → part ≡ get_or parts i part
    → drop i parts ≡ part ∷ drop (i + 1) parts
first_of parts i part within read =
    let e = drop-cons parts i part within in
    rw (add-one, e) (ap (λ (first : Part). first ∷ drop (suc i) parts) (sym read))

pub bodies_length_left : (parts : List Part) (i : ℕ) (part : Part) → i < length parts → part ≡ get_or parts i part
    → bodies_length (parts_seen (drop i parts)) ≡ length part.bytes.items + bodies_length (parts_seen (drop (i + 1) parts))
bodies_length_left parts i part within read =
    rw (first_of parts i part within read) (sum_by-cons (λ (part : PartValue). length part.bytes) (part_seen part) (parts_seen (drop (i + 1) parts)))
