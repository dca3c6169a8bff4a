use Rattle.std.proofs.Common.{rules}
use Rattle.r3k_machine.proofs.Written.{fetched_is, plain_step_writes_nothing, wrote_frames}
use Rattle.r3k_machine.proofs.run.retire_word.Goals as goal

pub returns-then-word-lt-FIRST_ACCESS-clause-frames : goal.returns-then-word-lt-FIRST_ACCESS-clause-frames
returns-then-word-lt-FIRST_ACCESS-clause-frames c =
    plain_step_writes_nothing c.args.cp0.now c.args.tlb.now c.args.frames.now _ c.args.word c.law_plain_words.ensures c.requires.aligned c.requires.fetched c.retire_plain.ensures.plain

pub returns-then-moves_word-clause-frames : goal.returns-then-moves_word-clause-frames
returns-then-moves_word-clause-frames c = search (rules, wrote_frames, fetched_is)

pub returns-clause-frames : goal.returns-clause-frames
returns-clause-frames c = search (rules, wrote_frames, fetched_is)
