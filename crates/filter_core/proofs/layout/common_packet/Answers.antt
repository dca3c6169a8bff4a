use Rattle.std.proofs.Common.{◌≡◌, ℕ, ap, sym, ◌∙◌, true}
use Rattle.std.specs.Prelude.{bit_or}
use Rattle.filter_core.specs.Asking.{agree, asked, value_at}
use Rattle.filter_core.proofs.Overlapping.{common, has_asked}
use Rattle.filter_core.proofs.Tabling.{entry_none}
use Rattle.filter_core.proofs.layout.common_packet.Goals as goal

pub returns-clause-packet : goal.returns-clause-packet
returns-clause-packet c =
    let are : agree c.args.left.now c.args.right.now ≡ true = sym c.overlaps.ensures.value ∙ c.if-not-overlaps.false in
    common c.args.left.now c.args.right.now c.add_values-2.new.table c.atoms.ensures.rule c.atoms-2.ensures.rule are
    (has_asked c.args.left.now c.args.right.now c.add_values-2.new.table c.add_values-2.array_long (λ p below.
    let first = c.add_values.ensures p below ∙ entry_none 1514 p (asked (value_at p) c.atoms.result.now) in
    rw (← c.atoms.ensures.atoms, ← c.atoms-2.ensures.atoms)
    (c.add_values-2.ensures p below ∙ ap (λ (x : ℕ). bit_or x (asked (value_at p) c.atoms-2.result.now)) first)))
