-- The table is held against the definition at each of the 256 bytes, by computing.
use Rattle.std.proofs.Common.{◌≤◌, refl, subst, sym, ap, ◌∙◌, arith}
use Rattle.boot_schedule.specs.declared.digits.TheConstants.{VALUES}
use Rattle.boot_schedule.proofs.DigitLemmas.{agree_below, from_table, value_most, value_or}
use Rattle.boot_schedule.proofs.digits.value_of.Goals as goal

pub returns-clause-value : goal.returns-clause-value
unfolding agree_below
returns-clause-value c = from_table VALUES value_or c.from.result (omega (arith, c.from.ensures)) refl ∙ ap value_or c.from.ensures

pub returns-clause-most : goal.returns-clause-most
unfolding agree_below
returns-clause-most c = subst (λ n. n ≤ 256) (sym (from_table VALUES value_or c.from.result (omega (arith, c.from.ensures)) refl)) (value_most c.from.result)
