-- The laws are the lemmas.
use Rattle.limits_law.proofs.Wired.{wire_carries_frames, wired_are_within}
use Rattle.limits_law.proofs.laws.law_wired_packets.Goals as goal

pub returns : goal.returns
returns c = record { within = wired_are_within; frames = wire_carries_frames c.law_packets.ensures.sent }
