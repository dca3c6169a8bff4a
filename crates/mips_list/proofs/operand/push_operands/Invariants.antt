use Rattle.std.proofs.Common.{◌≡◌, ◌++◌, drop}
use Rattle.line_text.specs.Growth.{Keeps}
use Rattle.mips_list.specs.WordText.{marked, operand_texts}
use Rattle.mips_list.proofs.operand.push_operands.Given as goal

-- what is written so far and what is to come is all
abbrev pub invariant-loop-form : goal.invariant-loop-form
invariant-loop-form l =
    (l.out.items ++ marked l.mark (operand_texts (drop l.form-index l.forms) l.word l.address) ≡ l.fn.out.items ++ marked 32 (operand_texts l.forms l.word l.address))
    × Keeps l.fn.out.items l.out.items
