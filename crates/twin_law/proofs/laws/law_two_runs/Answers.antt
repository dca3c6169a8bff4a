-- The laws are the lemmas.
use Rattle.twin_law.proofs.Texts.{leave_same, left_alike, show_same}
use Rattle.twin_law.proofs.laws.law_two_runs.Goals as goal

pub returns : goal.returns
returns c =
    let agree = c.law_agreement.ensures in
    let end = c.law_pages_end.ensures in
    let fold = c.law_alone.ensures in
    let left = leave_same agree end fold in
    record { left = left; shown = show_same agree end fold; quiet = left_alike left c.law_quiet_each_tick.ensures.rests }
