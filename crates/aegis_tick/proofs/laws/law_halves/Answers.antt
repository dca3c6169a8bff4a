-- The moments of a tick come in their order.
use Rattle.std.proofs.Common.{sym, ap, ◌∙◌}
use Rattle.world_model.specs.Tick.{turn}
use Rattle.run_model.specs.Run.{after_phase, once_happened}
use Rattle.run_model.proofs.Phases.{tick_in_parts}
use Rattle.aegis_tick.specs.Halves.{first_half}
use Rattle.aegis_tick.proofs.Happening.{then_ticks}
use Rattle.aegis_tick.proofs.Whole.{next_busy}
use Rattle.aegis_tick.proofs.laws.law_halves.Goals as goal

pub returns-clause-tick : goal.returns-clause-tick
returns-clause-tick c = tick_in_parts

pub returns-clause-next : goal.returns-clause-next
returns-clause-next c schedule w busy = next_busy schedule w busy ∙ then_ticks schedule w ∙ tick_in_parts (once_happened schedule w)

pub returns-clause-middle : goal.returns-clause-middle
returns-clause-middle c system t =
    let order = c.law_moments.ensures system t in
    sym (order.turned ∙ ap (after_phase turn) order.served ∙ ap first_half order.happened)
