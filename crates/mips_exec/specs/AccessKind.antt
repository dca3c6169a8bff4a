-- What an access to memory raises, by what it is for.
use Rattle.std.specs.Prelude.{ℕ, Bool, true, false, Result, Err}
use Rattle.mips_exec.specs.declared.access_kind.AccessKind.{AccessKind}
use Rattle.mips_exec.specs.declared.access_kind.AccessKind.TheVariants.{Fetch, Load, Store}
use Rattle.mips_exec.specs.declared.exception.Exc.{Exc}
use Rattle.mips_exec.specs.declared.exception.ExcCode.{ExcCode}
use Rattle.mips_exec.specs.declared.exception.ExcCode.TheVariants as code
use Rattle.mips_exec.specs.Exception.{at_address, plain}

-- users name the addresses below this one
abbrev pub user_end : ℕ
user_end = 0x80000000

abbrev pub is_store : AccessKind → Bool
is_store Fetch = false
is_store Load = false
is_store Store = true

-- what an address raises that users may not name
abbrev pub address_error : AccessKind → ExcCode
address_error Fetch = code.Adel
address_error Load = code.Adel
address_error Store = code.Ades

-- what an address raises that leads nowhere
abbrev pub miss : AccessKind → ExcCode
miss Fetch = code.Tlbl
miss Load = code.Tlbl
miss Store = code.Tlbs

-- what an address raises whose page physical memory hasn't got
abbrev pub bus_error : AccessKind → ExcCode
bus_error Fetch = code.Ibe
bus_error Load = code.Dbe
bus_error Store = code.Dbe

-- an exception at the address of an access
abbrev pub raised : {A : Type 0} → ExcCode → ℕ → Result A Exc
raised c address = Err (at_address (plain c) address)
