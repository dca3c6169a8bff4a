-- Why kernel calls are refused, and the numbers of these codes; 0 is that of a call that is granted.
use Rattle.std.specs.Prelude.{ℕ}
use Rattle.world_model.specs.declared.code.Code.{Code}
use Rattle.world_model.specs.declared.code.Code.TheVariants as code
use Rattle.page_book.specs.declared.refusal.PageNo.{PageNo}
use Rattle.page_book.specs.declared.refusal.PageNo.TheVariants as no

abbrev pub code_number : Code → ℕ
code_number code.NoPage = 1
code_number code.Taken = 2
code_number code.NoneFree = 3
code_number code.NotOwner = 4
code_number code.NoRight = 5
code_number code.BadVpn = 6
code_number code.Guaranteed = 7
code_number code.NoEnv = 8
code_number code.NotAccepted = 9
code_number code.NoSlice = 10
code_number code.SlotTaken = 11
code_number code.NotHolder = 12
code_number code.BadFilter = 13
code_number code.Overlap = 14
code_number code.NoFilter = 15
code_number code.BadHandler = 16
code_number code.LineTaken = 17
code_number code.ConsoleFull = 18
code_number code.Full = 19
code_number code.BadCall = 20
code_number code.BadPointer = 21

-- what a caller is told of a refusal by the book of pages
abbrev pub code_of : PageNo → Code
code_of no.NoPage = code.NoPage
code_of no.Taken = code.Taken
code_of no.NoneFree = code.NoneFree
code_of no.NotOwner = code.NotOwner
code_of no.NoRight = code.NoRight
code_of no.Guaranteed = code.Guaranteed
