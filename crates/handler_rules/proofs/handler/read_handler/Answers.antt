use Rattle.handler_rules.proofs.Words.{too_many}
use Rattle.handler_rules.proofs.handler.read_handler.Goals as goal

pub returns-then-bytes-gt-MOST_WORDS : goal.returns-then-bytes-gt-MOST_WORDS
returns-then-bytes-gt-MOST_WORDS c = too_many c.args.bytes.now c.if-bytes-gt-MOST_WORDS.true
