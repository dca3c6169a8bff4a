-- A tick that is refused stands where some of its events have happened.
use Rattle.aegis_tick.proofs.Refusals.{on_err}
use Rattle.aegis_tick.proofs.running.tick_with.Goals as goal

pub returns-in_err-happen_first-clause-early : goal.returns-in_err-happen_first-clause-early
returns-in_err-happen_first-clause-early c = on_err c.from_residual.result (c.happen_first.ensures.same, c.happen_first.ensures.tlb)
