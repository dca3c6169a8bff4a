use Rattle.std.proofs.Common.{add-one, append_assoc, ◌∙◌}
use Rattle.std.proofs.Math.Seq.{drop-cons}
use Rattle.elf_static.specs.Layout.{words}
use Rattle.elf_static.proofs.writing.push_words.Goals as goal

pub loop-number-preserved : goal.loop-number-preserved
unfolding words
loop-number-preserved c =
    let left = drop-cons c.args.numbers.now c.loop-number.number-index 0 c.loop-number-test.true in
    rw (add-one, c.in_ok-push_word.ensures.ok) (append_assoc c.loop-number.file.items _ _ ∙ (rw left at c.loop-number.invariant))
