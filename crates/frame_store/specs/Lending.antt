-- What is lent of physical memory.
use Rattle.std.specs.Prelude.{ℕ, List}
use Rattle.std.specs.Borrow.{Lends, MutBor, Fml, Array, u8}
use Rattle.frame_store.specs.contracts.frames.Frames.{the_row}
use Rattle.frame_store.specs.Memory.{with_bytes_from}

-- memory ends with the last bytes behind r from the beginning of the page with this number on
abbrev pub LendsPage : MutBor (List (List ℕ)) → ℕ → MutBor (List ℕ) → Fml
LendsPage pages n r = Lends the_row (Array u8 0) pages r (with_bytes_from pages.now n)
