use Rattle.std.proofs.Common.{◌≡◌, Ok, rules}
use Rattle.std.proofs.lemmas.Result.{IfOk-at_ok}
use Rattle.asm_layout.specs.Laid.{IsLaid}
use Rattle.asm_layout.specs.Layout.{laid}
use Rattle.asm_layout.specs.Seen.{layout_seen}
use Rattle.asm_layout.proofs.LaidLemmas.{laid_laid}
use Rattle.asm_layout.proofs.first.lay_out.Goals as goal

pub returns-clause-sound : goal.returns-clause-sound
unfolding laid
returns-clause-sound c =
    let all : laid c.args.source.now ≡ Ok (layout_seen c.loop-line.layout) = search rules in
    IfOk-at_ok IsLaid all (laid_laid c.args.source.now)
