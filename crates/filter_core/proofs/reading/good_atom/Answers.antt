use Rattle.std.proofs.Common.{◌≡◌, ◌/◌, ◌%◌, ◌^◌, ℕ, ap, sym, ◌∙◌, arith}
use Rattle.std.proofs.lemmas.Grind.{common_steps}
use Rattle.std.proofs.lemmas.Nat.{and_mask}
use Rattle.std.specs.Prelude.{bit_and}
use Rattle.byte_numbers.specs.Numbers.{word_at}
use Rattle.filter_core.specs.Filters.{atom_at}
use Rattle.filter_core.proofs.Atoms.{good_some, same_atom}
use Rattle.filter_core.proofs.reading.good_atom.Goals as goal

pub returns-then-is_good : goal.returns-then-is_good
returns-then-is_good c =
    let offset : bit_and c.word_at-shape.result 65535 ≡ word_at c.args.bytes.now c.args.place % 2 ^ 16 =
    and_mask c.word_at-shape.result 16 ∙ ap (λ (n : ℕ). n % 65536) c.word_at-shape.ensures in
    let width : c.in_ok-width.width ≡ word_at c.args.bytes.now c.args.place / 65536 = grind (arith, common_steps) in
    good_some c.args.bytes.now c.args.place _
    (same_atom _ (atom_at c.args.bytes.now c.args.place) offset width c.word_at.ensures c.word_at-2.ensures)
    (sym c.is_good.ensures ∙ c.if-is_good.true)
