-- What is written, part by part, is the image's file.
use Rattle.std.proofs.Common.{◌≡◌, ◌∙◌, ℕ, List, [], ◌++◌, length, map, ap, refl, sym}
use Rattle.std.specs.List.{flat_map}
use Rattle.std.specs.Fmt.{digits}
use Rattle.aegis_limits.specs.declared.version.Version.TheVariants.{One}
use Rattle.line_text.specs.Text.{dec_text}
use Rattle.boot_image.specs.declared.entry.Entry.{Entry}
use Rattle.boot_image.specs.declared.header.Header.{Header}
use Rattle.boot_image.specs.Spelling.{header_text, programs_text, slot_byte}
use Rattle.exos_text.specs.declared.image.TheConstants.{NAMES}
use Rattle.exos_text.specs.LoadImage.{load_bodies, load_entries, load_entry, load_image_text, load_quantum, load_slots, named_text}
use Rattle.exos_text.proofs.Programs.{entries_are, names, with_one_body}

-- texts one behind the other
joined : (none one two three header owners programs : List ℕ) → none ≡ [] → one ≡ none ++ header → two ≡ one ++ owners → three ≡ two ++ programs
    → three ≡ header ++ owners ++ programs
joined none one two three header owners programs empty a b c = rw (c, b, a, empty) refl

-- the names are l0 to l15
names_are : NAMES ≡ names
unfolding dec_text digits
names_are = refl

entries_count : length load_entries ≡ 16
unfolding load_entries
entries_count = refl

programs_are : (written : List (List ℕ)) → written ≡ names → flat_map named_text written ≡ programs_text load_entries load_bodies
programs_are written are =
    sym (with_one_body written 16 (ap length are))
    ∙ ap (λ (entries : List Entry). programs_text entries load_bodies) (ap (map load_entry) are ∙ sym entries_are)

-- the header, with a quantum
abbrev header : ℕ → ℕ → Header
header quantum environments = record { version = One; pages = 256; quantum = quantum; environments = environments; slots = 64 }

text_is : (seed : ℕ) (programs : List ℕ) → programs ≡ programs_text load_entries load_bodies
    → header_text (header (load_quantum seed) 16) ++ map slot_byte load_slots ++ programs ≡ load_image_text seed
unfolding load_image_text
text_is seed programs are =
    let whole = λ (count : ℕ) (text : List ℕ). header_text (header (load_quantum seed) count) ++ map slot_byte load_slots ++ text in
    ap (whole 16) are ∙ ap (λ (count : ℕ). whole count (programs_text load_entries load_bodies)) (sym entries_count)

pub written : (seed q : ℕ) (none one two three : List ℕ) → q ≡ load_quantum seed → none ≡ [] → one ≡ none ++ header_text (header q 16)
    → two ≡ one ++ map slot_byte load_slots → three ≡ two ++ flat_map named_text NAMES → three ≡ load_image_text seed
written seed q none one two three is empty a b c =
    let drawn : one ≡ none ++ header_text (header (load_quantum seed) 16) = a ∙ ap (λ (n : ℕ). none ++ header_text (header n 16)) is in
    joined none one two three (header_text (header (load_quantum seed) 16)) (map slot_byte load_slots) (flat_map named_text NAMES) empty drawn b c
    ∙ text_is seed (flat_map named_text NAMES) (programs_are NAMES names_are)
