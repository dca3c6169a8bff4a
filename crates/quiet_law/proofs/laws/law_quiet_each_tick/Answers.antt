-- The law is the lemmas.
use Rattle.quiet_law.proofs.Same.{quiet_has_slices, quiet_is_beginning, quiet_is_given_own, quiet_rests}
use Rattle.quiet_law.proofs.laws.law_quiet_each_tick.Goals as goal

pub returns : goal.returns
returns c =
    let granted = c.law_granted.ensures in
    let again = c.law_again.ensures in
    let rich = c.law_richest.ensures in
    let takable = c.law_takable.ensures in
    let time = c.law_time.ensures in
    let fold = c.law_alone.ensures in
    record {
      begins = quiet_is_beginning granted again rich takable time fold;
      slices = quiet_has_slices granted again rich takable time fold;
      rests = quiet_rests granted again rich takable time fold;
      own = quiet_is_given_own granted again rich takable time fold;
    }
