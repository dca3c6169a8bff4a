-- The smallest program has one page.
use Rattle.std.proofs.Common.{◌≡◌, ◌≤◌, ◌<◌, ℕ, ◌+◌, ◌*◌, [], ◌∷◌, false, ap, refl, ◌∙◌, arith}
use Rattle.std.specs.Prelude.{nat_lt, min, max}
use Rattle.std.proofs.lemmas.Bool.{or_from}
use Rattle.elf_static.specs.Smallest.{smallest}
use Rattle.segment_pages.specs.Pages.{vpns}
use Rattle.segment_pages.proofs.FirstPages.{some_page, no_page}

-- its one byte stands in no page below and in none above
not_below : (k : ℕ) → k < 2 → nat_lt (max 0x2000 (4096 * k)) (min 0x2001 (4096 * (k + 1))) ≡ false
not_below k before = let end : 4096 * (k + 1) ≤ 0x2000 = omega arith in grind (arith, end)

not_above : (k : ℕ) → 3 ≤ k → nat_lt (max 0x2000 (4096 * k)) (min 0x2001 (4096 * (k + 1))) ≡ false
not_above k from = let start : 0x2001 ≤ 4096 * k = omega arith in grind (arith, start)

pub page_of_smallest : vpns smallest ≡ 2 ∷ []
page_of_smallest =
    some_page smallest 0 2 (record {
      from = omega arith;
      above = omega arith;
      below = omega arith;
      touched = refl;
      before = λ k from before. or_from (nat_lt (max 0x2000 (4096 * k)) (min 0x2001 (4096 * (k + 1)))) false (not_below k before) refl;
    })
    ∙ ap (λ rest. 2 ∷ rest) (no_page smallest 3 (λ k from. or_from (nat_lt (max 0x2000 (4096 * k)) (min 0x2001 (4096 * (k + 1)))) false (not_above k from) refl))
