-- The first of several faults, and what a reader of a file answers.
use Rattle.std.specs.Prelude.{◌≡◌, Option, None, Some, Result, Ok, Err}
use Rattle.std.specs.Option.{option_or}

-- the first of two faults
infixr 4 ◌or_else◌
abbrev pub ◌or_else◌ : {F : Type 0} → Option F → Option F → Option F
first or_else later = option_or first later

-- A reader answers the fault, where there is one, and else the value.
abbrev pub Answers : {X Y F : Type 0} → (X → Y) → Result X F → Option F → Y → Type 0
Answers seen (Ok x) fault value = (fault ≡ None) × (seen x ≡ value)
Answers seen (Err found) fault value = fault ≡ Some found
