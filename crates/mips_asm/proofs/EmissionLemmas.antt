-- What stands after a statement's bytes are put, or a fault.
use Rattle.std.proofs.Common.{◌≡◌, ℕ, List, Option, Some, None, Result, Ok, Err, refl, ap}
use Rattle.asm_parse.specs.declared.fault.AsmWhy.{AsmWhy}
use Rattle.line_text.specs.declared.failure.Failure.{Failure}
use Rattle.line_text.specs.declared.failure.Failure.TheVariants.{Fault, OutOfMemory}
use Rattle.line_text.specs.Failing.{Gives}
use Rattle.mips_asm.specs.Second.{earlier, onto, unless_start, unless_start_failure}

-- what is put, or a fault, is due also where something is wrong with `start`
start_gives : (start : Option AsmWhy) (pushed : Result (Unit {0}) (Failure AsmWhy)) (old new : List ℕ) (due : Result (List ℕ) AsmWhy) →
    Gives (λ _. new) pushed (onto old due) → Gives (λ _. new) (unless_start_failure start pushed) (onto old (unless_start start due))
start_gives None pushed old new due gives = gives
start_gives (Some why) (Ok u) old new (Ok bs) gives = refl
start_gives (Some why) (Ok u) old new (Err e) gives = cc
start_gives (Some why) (Err OutOfMemory) old new due gives = tt
start_gives (Some why) (Err (Fault w)) old new (Ok bs) gives = cc
start_gives (Some why) (Err (Fault w)) old new (Err e) gives =
    let same : e ≡ w = cc in
    ap (λ f. Err (earlier f why)) same

pub emit_gives : (start cause : Option AsmWhy) (pushed answer : Result (Unit {0}) (Failure AsmWhy)) (old new : List ℕ) (due : Result (List ℕ) AsmWhy) →
    start ≡ cause → answer ≡ unless_start_failure start pushed → Gives (λ _. new) pushed (onto old due) →
    Gives (λ _. new) answer (onto old (unless_start cause due))
emit_gives start cause pushed answer old new due same is gives = rw (is, ← same) (start_gives start pushed old new due gives)
