-- The index of the rows by their first words. For proofs: nobody has to believe it.
use Rattle.std.specs.Prelude.{◌≡◌, ◌≢◌, ℕ, ◌*◌, ◌/◌, ◌%◌, ◌^◌, ◌<◌, Bool, true, ◌==◌, ◌&&◌, nat_lt, if◌then◌else◌, List, length, slice_index}
use Rattle.std.specs.Int.{bit_at}
use Rattle.r3k_tlb.specs.declared.row.Row.{Row}
use Rattle.r3k_tlb.specs.Row.{emptied_row, is_odd}
use Rattle.r3k_tlb.specs.Rows.{row_at, row_count}

-- the index has so many places, each for the rows whose first words have it as their hash
abbrev pub place_count : ℕ
place_count = 256

-- the hash of a first word
unfoldable pub hash_of : ℕ → ℕ
hash_of word = word * 0x9E3779B1 % 2 ^ 32 / 2 ^ 24

-- a row has this first word
abbrev pub has_word : ℕ → Row → Bool
has_word word row = row.hi == word

-- a row of a user's address stands at the place of its first word
abbrev pub is_at : ℕ → Row → Bool
is_at place row = nat_lt row.hi emptied_row.hi && hash_of row.hi == place

-- the bit that says so
abbrev pub bit_of : Bool → ℕ
bit_of b = if b then 1 else 0

-- one bit is another, and no other is
pub record IsBitSet (old i : ℕ) (to : Bool) (new : ℕ) : Type 0 where
  pub here : bit_at new i ≡ bit_of to
  pub others : (k : ℕ) → k < row_count → k ≢ i → bit_at new k ≡ bit_at old k

-- at the place of a row, the bit with this number is another; no other bit is
pub record IsMarked (old : List ℕ) (row : Row) (i : ℕ) (to : Bool) (new : List ℕ) : Type 0 where
  pub count : length new ≡ length old
  pub each : (place k : ℕ) → place < place_count → k < row_count
      → bit_at (slice_index new place) k
      ≡ (if k == i && is_at place row then bit_of to else bit_at (slice_index old place) k)

-- each row that has this first word is among those with these bits
pub record Covers (rows : List Row) (bits word : ℕ) : Type 0 where
  pub all : length rows ≡ row_count
  pub each : (k : ℕ) → k < row_count → has_word word (row_at rows k) ≡ true → bit_at bits k ≡ 1

-- each place of the index has the bits of the rows that stand there, and `odd` those of the odd rows
pub record IsIndexed (rows : List Row) (index : List ℕ) (odd : ℕ) : Type 0 where
  pub all : length rows ≡ row_count
  pub places : length index ≡ place_count
  pub bits : (place k : ℕ) → place < place_count → k < row_count
      → bit_at (slice_index index place) k ≡ bit_of (is_at place (row_at rows k))
  pub odd_bits : (k : ℕ) → k < row_count → bit_at odd k ≡ bit_of (is_odd (row_at rows k))
