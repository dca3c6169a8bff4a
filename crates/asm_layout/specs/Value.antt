-- Values of names and of expressions. A value is a number modulo 2 ^ 32.
use Rattle.std.specs.Prelude.{ℕ, ◌+◌, ◌%◌, ◌^◌, List, Option, Some, Result, Vec, map}
use Rattle.std.specs.declared.alloc.Global.{Global}
use Rattle.std.specs.Map.{lookup}
use Rattle.std.specs.Option.{ok_or, option_map}
use Rattle.std.specs.Str.{bytes_eq}
use Rattle.asm_parse.specs.Expression.{ExpressionValue, InnerValue, Number, Name, Sum, halves_of}
use Rattle.asm_parse.specs.declared.fault.AsmWhy.{AsmWhy}
use Rattle.asm_parse.specs.declared.fault.AsmWhy.TheVariants.{Undefined}

-- the names that have a value, each with it, in the order in which they got it
abbrev pub Names : Type 0
Names = List (List ℕ × ℕ)

-- the same of a map whose keys are the names
abbrev pub names_of : List (Vec ℕ Global × ℕ) → Names
names_of entries = map (λ e. (e.0.items, e.1)) entries

-- the value of a name, where it has one
abbrev pub value_of_name : List ℕ → Names → Option ℕ
value_of_name name names = lookup (bytes_eq name) names

abbrev pub value_of_inner : Names → InnerValue → Option ℕ
value_of_inner names (Number n) = Some n
value_of_inner names (Name name) = value_of_name name names
value_of_inner names (Sum name n) = option_map (λ v. (v + n) % 2 ^ 32) (value_of_name name names)

-- the value of an expression, where its name has one
unfoldable pub value_of : Names → ExpressionValue → Option ℕ
value_of names e = option_map (halves_of e.halves) (value_of_inner names e.inner)

-- the value of an expression whose name has one
abbrev pub defined : Names → ExpressionValue → Result ℕ AsmWhy
defined names e = ok_or (value_of names e) Undefined
