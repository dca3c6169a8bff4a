-- The laws are the lemmas.
use Rattle.wire_model.proofs.Settled.{happens_on_wire, ticks_on_wire}
use Rattle.wire_model.proofs.laws.law_tick.Goals as goal

pub returns-clause-happens : goal.returns-clause-happens
returns-clause-happens c = happens_on_wire

pub returns-clause-ticks : goal.returns-clause-ticks
returns-clause-ticks c = ticks_on_wire c.law_time.ensures
