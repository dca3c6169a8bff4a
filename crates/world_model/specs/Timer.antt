-- What the timer answers after a tick of a runner's quantum.
use Rattle.std.specs.Prelude.{ℕ, ◌+◌, ◌==◌, nat_lt, if◌then◌else◌, Bool, true, false}
use Rattle.aegis_limits.specs.Limits.{excess_limit}
use Rattle.world_model.specs.declared.slot.Phase.{Phase}
use Rattle.world_model.specs.declared.slot.Phase.TheVariants as phase
use Rattle.world_model.specs.declared.slot.Runner.{Runner}
use Rattle.world_model.specs.declared.timer.Timer.{Timer}
use Rattle.world_model.specs.declared.timer.Timer.TheVariants as timer

-- At the end of its slice a runner is told, if it has a handler of ends, or stopped; at the end of a quantum of grace
-- it owes one more, or dies of it.
abbrev pub timer_at_end : Phase → Bool → ℕ → Timer
timer_at_end phase.Own true excess = timer.End
timer_at_end phase.Own false excess = timer.Stop
timer_at_end phase.Grace has_end excess =
    if nat_lt excess_limit (excess + 1) then timer.Kill else timer.Over (excess + 1)

-- what the timer answers for a runner that has a handler of ends or not, and owes so much
abbrev pub timer_of : Runner → Bool → ℕ → Timer
timer_of r has_end excess = if r.left == 1 then timer_at_end r.phase has_end excess else timer.Nothing
