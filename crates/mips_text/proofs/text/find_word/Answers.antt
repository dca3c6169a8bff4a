use Rattle.std.proofs.Common.{◌-◌, ◌∙◌, ap, length, take}
use Rattle.std.specs.List.{find}
use Rattle.mips_text.specs.Seen.{text_row_seen}
use Rattle.mips_text.specs.WordRows.{row_of, spells}
use Rattle.mips_text.proofs.WordLemmas.{find_seen, main_seen}
use Rattle.mips_text.proofs.text.find_word.Goals as goal

pub returns : goal.returns
unfolding row_of
returns c =
    let texts = c.texts-rows.result.now in
    rw (c.copied.ensures, c.find_spelled.ensures)
    (find_seen text_row_seen (λ row. spells row.1 c.args.word) (take (length texts - 5) texts) ∙ ap (find (λ row. spells row.1 c.args.word)) (main_seen texts c.texts-rows.ensures))
