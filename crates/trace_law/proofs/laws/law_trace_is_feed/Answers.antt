use Rattle.trace_law.proofs.Tracing.{trace_is_feed}
use Rattle.trace_law.proofs.laws.law_trace_is_feed.Goals as goal

pub returns : goal.returns
returns c = trace_is_feed c.law_halves.ensures.middle c.law_runners_are_told.ensures c.law_steps_are_told.ensures
