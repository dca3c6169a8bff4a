-- The TLB between two ticks: its rows, Random, and how often each environment was refilled.
use Rattle.std.specs.Prelude.{ℕ, ◌+◌, List, replicate, slice_index_or, slice_set, Bool, true, false}
use Rattle.mips_exec.specs.Word.{low_word}
use Rattle.env_frames.specs.declared.mapping.Mapping.{Mapping}
use Rattle.aegis_limits.specs.Limits.{environment_numbers}
use Rattle.r3k_cp0.specs.Random.{fallen}
use Rattle.r3k_cp0.specs.Registers.{blank_cp0}
use Rattle.tlb_model.specs.declared.fills.Fills.{Fills}
use Rattle.r3k_tlb.specs.declared.row.Row.{Row}
use Rattle.r3k_tlb.specs.Row.{hi_word_of, lo_word_of}
use Rattle.r3k_tlb.specs.Rows.{emptied_rows, with_row_at}

-- The 64 rows; Random, the row that the next refill takes; and the fills of each environment number. These are words.
pub record Cache : Type 0 where
  pub rows : List Row
  pub random : ℕ
  pub fills : List Fills

abbrev pub no_fills : Fills
no_fills = record { guaranteed = 0; stripe = 0; forwarded = 0 }

-- all rows are emptied
abbrev pub boot_cache : Cache
boot_cache = record { rows = emptied_rows; random = blank_cp0.random; fills = replicate environment_numbers no_fills }

-- Random falls by one
abbrev pub with_random_fallen : Cache → Cache
with_random_fallen c = record c { random = fallen c.random }

abbrev pub one_more : ℕ → ℕ
one_more n = low_word (n + 1)

-- one more row was refilled, from the guaranteed mappings or from the stripe
abbrev pub with_refill : Bool → Fills → Fills
with_refill true f = record f { guaranteed = one_more f.guaranteed }
with_refill false f = record f { stripe = one_more f.stripe }

-- one more miss was forwarded
abbrev pub with_forward : Fills → Fills
with_forward f = record f { forwarded = one_more f.forwarded }

-- an environment's fills
abbrev pub fills_of : List Fills → ℕ → Fills
fills_of fills e = slice_index_or fills e no_fills

abbrev pub with_fills : (Fills → Fills) → ℕ → List Fills → List Fills
with_fills f e fills = slice_set fills e (f (fills_of fills e))

-- the row of an environment's mapping
abbrev pub row_for : ℕ → Mapping → Row
row_for e m = record { hi = hi_word_of m.vpn e; lo = lo_word_of m.page m.writable }

-- A refill: the mapping is written into the row that Random names, it is counted, and Random falls.
abbrev pub refilled : Bool → ℕ → Mapping → Cache → Cache
refilled guaranteed e m c = record {
  rows = with_row_at c.rows c.random (row_for e m);
  random = fallen c.random;
  fills = with_fills (with_refill guaranteed) e c.fills;
}

abbrev pub with_forwarded : ℕ → Cache → Cache
with_forwarded e c = record c { fills = with_fills with_forward e c.fills }
