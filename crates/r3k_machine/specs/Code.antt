-- A page that instructions are fetched from. For proofs: nobody has to believe it.
use Rattle.std.specs.Prelude.{◌≡◌, ℕ, ◌+◌, ◌-◌, ◌%◌, ◌<◌, ◌==◌, Bool, List, length, Ok}
use Rattle.aegis_limits.specs.Limits.{page_size}
use Rattle.r3k_tlb.specs.declared.row.Row.{Row}
use Rattle.r3k_cp0.specs.declared.registers.Cp0.{Cp0}
use Rattle.r3k_machine.specs.declared.code.CodePage.{CodePage}
use Rattle.mips_exec.specs.declared.access_kind.AccessKind.TheVariants.{Fetch}
use Rattle.r3k_machine.specs.Translation.{page_by_mode}

-- the address is that of a word in the page
abbrev pub has : CodePage → ℕ → Bool
has code address = (address - address % page_size) + address % 4 == code.base

-- fetches from its addresses lead to it
pub record IsCode (cp0 : Cp0) (rows : List Row) (frames : List (List ℕ)) (code : CodePage) : Type 0 where
  pub leads : page_by_mode cp0 rows Fetch code.base ≡ Ok code.page
  pub there : code.page < length frames
  pub first : code.base % page_size ≡ 0
