use Rattle.std.proofs.Common.{arith, ◌/◌, length, length-append}
use Rattle.handler_rules.proofs.Words.{one_more}
use Rattle.handler_rules.proofs.handler.words_in.Goals as goal

pub loop-i-preserved : goal.loop-i-preserved
loop-i-preserved c =
    rw c.push.ensures.items record {
      count = (let before = c.loop-i.invariant.count in simp length-append (omega (arith, before)));
      all = one_more c.args.bytes.now c.loop-i.words.items c.word_at.result c.loop-i.i (length c.args.bytes.now / 4) c.loop-i-test.true c.loop-i.invariant.all c.word_at.ensures;
    }
