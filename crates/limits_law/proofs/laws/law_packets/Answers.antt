-- The laws are the lemmas.
use Rattle.limits_law.proofs.Drops.{drops_are_within}
use Rattle.limits_law.proofs.Wired.{all_is_put, sent_are_frames}
use Rattle.limits_law.proofs.laws.law_packets.Goals as goal

pub returns : goal.returns
returns c =
    let sent = sent_are_frames c.law_granted.ensures c.law_again.ensures c.law_takable.ensures c.law_guaranteed_whole.ensures c.law_whole.ensures c.law_origins.ensures.sent in
    record { sent = sent; put = all_is_put sent; drops = drops_are_within }
