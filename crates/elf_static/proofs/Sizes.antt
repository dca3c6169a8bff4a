-- The length of the file.
use Rattle.std.proofs.Common.{◌≡◌, ℕ, ◌+◌, ◌*◌, List, [], ◌∷◌, length, refl, arith, length-append}
use Rattle.std.proofs.lemmas.List.Concat.{length-flat_map}
use Rattle.elf_static.specs.ObjectValue.{ObjectValue, PartValue}
use Rattle.elf_static.specs.Layout.{halves, words, identification, file_header, program_header, program_headers, file_length, elf_text}

pub file_header_size : (object : ObjectValue) → length (file_header object) ≡ 52
unfolding file_header halves words identification
file_header_size object = refl

pub program_header_size : (offset : ℕ) (part : PartValue) → length (program_header offset part) ≡ 32
unfolding program_header words
program_header_size offset part = refl

pub program_headers_size : (offset : ℕ) (parts : List PartValue) → length (program_headers offset parts) ≡ 32 * length parts
program_headers_size offset [] = refl
program_headers_size offset (part ∷ parts) =
    simp (length-append, program_header_size, program_headers_size (offset + length part.bytes) parts) (omega arith)

pub elf_text_size : (object : ObjectValue) → length (elf_text object) ≡ file_length object.parts
unfolding elf_text
elf_text_size object = simp (length-append, file_header_size, program_headers_size, length-flat_map) (omega arith)
