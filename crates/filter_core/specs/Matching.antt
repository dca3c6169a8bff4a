-- Which packets a filter matches, and when two filters overlap.
use Rattle.std.specs.Prelude.{◌≡◌, ◌<◌, ℕ, ◌+◌, Bool, true, ◌==◌, ◌&&◌, nat_le, List, length, drop, slice_index, bit_and}
use Rattle.std.specs.List.{list_all}
use Rattle.byteorder.specs.Endian.{big_number}
use Rattle.external_event.specs.Packet.{is_packet}
use Rattle.filter_core.specs.declared.atom.Atom.{Atom}

-- the number in so many bytes of a packet from an offset on, the highest byte first
abbrev pub field : ℕ → ℕ → List ℕ → ℕ
field offset width packet = big_number width (drop offset packet)

-- an atom matches a packet in which its field lies, if the field's bits under the mask are the value
abbrev pub atom_matches : Atom → List ℕ → Bool
atom_matches a packet =
    nat_le (a.offset + a.width) (length packet) && bit_and (field a.offset a.width packet) a.mask == a.value

-- a filter matches a packet that each of its atoms matches
abbrev pub matches : List Atom → List ℕ → Bool
matches filter packet = list_all (λ a. atom_matches a packet) filter

-- a packet: 1 to 1,514 bytes
pub record IsPacket (packet : List ℕ) : Type 0 where
  pub size : is_packet packet ≡ true
  pub bytes : (i : ℕ) → slice_index packet i < 256

-- a packet that both filters match
pub record IsCommon (f g : List Atom) (packet : List ℕ) : Type 0 where
  pub is : IsPacket packet
  pub left : matches f packet ≡ true
  pub right : matches g packet ≡ true

-- two filters overlap if there is such a packet
abbrev pub Overlap : List Atom → List Atom → Type 0
Overlap f g = (packet : List ℕ) × IsCommon f g packet
