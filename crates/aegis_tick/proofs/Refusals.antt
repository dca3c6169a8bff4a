-- What holds after a refusal.
use Rattle.std.proofs.Common.{Result, rules}
use Rattle.std.specs.Prelude.{OnErr}

pub on_err : {T E P : Type 0} (r : Result T E) → P → OnErr r P
on_err r p = search rules
