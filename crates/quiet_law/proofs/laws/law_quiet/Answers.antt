-- The law is the lemma, in one system and in two.
use Rattle.quiet_law.proofs.Same.{quiet_has_own_pages_alone, quiet_is_alone, quiet_owes_alone}
use Rattle.quiet_law.proofs.TwoSystems.{quiet_is_same, quiet_owes_same}
use Rattle.quiet_law.proofs.laws.law_quiet.Goals as goal

pub returns : goal.returns
returns c =
    let granted = c.law_granted.ensures in
    let again = c.law_again.ensures in
    let rich = c.law_richest.ensures in
    let takable = c.law_takable.ensures in
    let time = c.law_time.ensures in
    let fold = c.law_alone.ensures in
    let stopped = c.law_slices.ensures.stopped in
    let last = c.law_slices.ensures.last in
    let alone = quiet_is_alone granted again rich takable time fold stopped last in
    let owes = quiet_owes_alone granted again rich takable time fold stopped last in
    record {
      pages = quiet_has_own_pages_alone granted again rich takable time fold;
      feed = alone;
      excess = owes;
      same_feed = quiet_is_same alone;
      same_excess = quiet_owes_same owes;
    }
