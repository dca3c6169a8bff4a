-- The kernel's answer to a call.
use Rattle.std.specs.Prelude.{ℕ, Option, Some, None, Result, Ok, Err}
use Rattle.world_model.specs.declared.code.Code.{Code}
use Rattle.world_model.specs.declared.verdict.Verdict.{Verdict}
use Rattle.world_model.specs.declared.verdict.Verdict.TheVariants.{Refuse, Again, Grant}
use Rattle.world_model.specs.Code.{code_number}

-- the code of a call that is to be made again, since another environment is asked for a page
abbrev pub again_number : ℕ
again_number = 22

-- the code that the caller finds: 0 where its call is granted
abbrev pub verdict_code : Verdict → ℕ
verdict_code (Refuse code value) = code_number code
verdict_code (Again who) = again_number
verdict_code (Grant value) = 0

abbrev pub verdict_value : Verdict → ℕ
verdict_value (Refuse code value) = value
verdict_value (Again who) = who
verdict_value (Grant value) = value

-- a call is granted with a value, unless there is a reason to refuse it
abbrev pub granted_unless : Option Code → ℕ → Verdict
granted_unless None value = Grant value
granted_unless (Some why) value = Refuse why 0

abbrev pub verdict_of : Result ℕ Code → Verdict
verdict_of (Ok value) = Grant value
verdict_of (Err why) = Refuse why 0
