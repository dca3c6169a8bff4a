-- The law is the lemmas.
use Rattle.quiet_law.proofs.TwoSystems.{quiet_never_differs, quiet_writes_alike}
use Rattle.quiet_law.proofs.laws.law_quiet_never_differs.Goals as goal

pub returns : goal.returns
returns c =
    let never = quiet_never_differs c.law_quiet_each_tick.ensures.begins in
    record { feeds = never; written = quiet_writes_alike never c.law_quiet_each_tick.ensures.own c.law_alone.ensures }
