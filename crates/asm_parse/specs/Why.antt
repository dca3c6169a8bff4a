-- The printed names of what is wrong in a line.
use Rattle.std.specs.Prelude.{ℕ, List, codes}
use Rattle.asm_parse.specs.declared.fault.AsmWhy.{AsmWhy}
use Rattle.asm_parse.specs.declared.fault.AsmWhy.TheVariants.{Syntax, UnknownName, Redefined, Undefined, OutOfRange, Unaligned, Empty}

abbrev pub why_text : AsmWhy → List ℕ
why_text Syntax = codes "Syntax"
why_text UnknownName = codes "UnknownName"
why_text Redefined = codes "Redefined"
why_text Undefined = codes "Undefined"
why_text OutOfRange = codes "OutOfRange"
why_text Unaligned = codes "Unaligned"
why_text Empty = codes "Empty"
