-- It is so of each turn.
use Rattle.feed_telling.proofs.Turned.{turn_gives}
use Rattle.feed_telling.proofs.timer.law_turn.Goals as goal

pub returns : goal.returns
returns c = turn_gives
