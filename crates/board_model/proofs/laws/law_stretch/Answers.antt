use Rattle.board_model.proofs.Stretching.{at_step, stretch_is_steady, stretch_ticks}
use Rattle.board_model.proofs.laws.law_stretch.Goals as goal

pub returns-clause-world : goal.returns-clause-world
returns-clause-world c = stretch_ticks c.law_serving.ensures c.law_timer.ensures

pub returns-clause-steady : goal.returns-clause-steady
returns-clause-steady c = stretch_is_steady c.law_serving.ensures c.law_timer.ensures

pub returns-clause-at_step : goal.returns-clause-at_step
returns-clause-at_step c = at_step c.law_serving.ensures c.law_timer.ensures
