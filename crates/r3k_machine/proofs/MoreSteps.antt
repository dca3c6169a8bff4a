-- More steps retire.
use Rattle.std.proofs.Common.{◌≡◌, ◌⊎◌, inl, inr, ℕ, zero, suc, ◌+◌, ◌-◌, ◌<◌, true, false, ap, sym, ◌∙◌, arith, add-one, add-zero, add-suc, List, length, rules}
use Rattle.mips_exec.specs.Step.{Step, outcome_of}
use Rattle.mips_step.specs.WordStep.{has_retired}
use Rattle.r3k_tlb.specs.declared.row.Row.{Row}
use Rattle.r3k_cp0.specs.declared.registers.Cp0.{Cp0}
use Rattle.r3k_machine.specs.declared.code.CodePage.{CodePage}
use Rattle.r3k_machine.specs.Code.{IsCode, has}
use Rattle.r3k_machine.specs.Steps.{Retires, RowStepsRetire, Running, after_row_step, after_row_steps, next_row_step}

retires : (step : Step) → has_retired step ≡ true → Retires step
retires step h = search rules

below_or_last : (j k : ℕ) → j < k + 1 → (j < k) ⊎ (j ≡ k)
below_or_last j k h = grind arith

-- so many steps and one more
pub after_one_more : (c : Cp0) (rows : List Row) (m n : Running) (k : ℕ) → n ≡ after_row_steps c rows m k
    → after_row_step c rows n (next_row_step c rows n) ≡ after_row_steps c rows m (k + 1)
after_one_more c rows m n k at =
    ap (λ (n : Running). after_row_step c rows n (next_row_step c rows n)) at ∙ ap (after_row_steps c rows m) (sym (add-one k))

retires_at : (c : Cp0) (rows : List Row) (m n : Running) (j k : ℕ) → n ≡ after_row_steps c rows m k → has_retired (next_row_step c rows n) ≡ true
    → RowStepsRetire c rows m k → (j < k) ⊎ (j ≡ k) → Retires (next_row_step c rows (after_row_steps c rows m j))
retires_at c rows m n j k at retired all (inl below) = all.each j below
retires_at c rows m n j k at retired all (inr last) =
    ap (λ (n : Running). outcome_of (next_row_step c rows n)) (ap (after_row_steps c rows m) last ∙ sym at) ∙ retires (next_row_step c rows n) retired

pub all_and_one_more : (c : Cp0) (rows : List Row) (m n : Running) (k : ℕ) → n ≡ after_row_steps c rows m k
    → has_retired (next_row_step c rows n) ≡ true → RowStepsRetire c rows m k → RowStepsRetire c rows m (k + 1)
all_and_one_more c rows m n k at retired all = record { each = λ j h. retires_at c rows m n j k at retired all (below_or_last j k h) }

-- so many steps, and so many more
pub after_more : (c : Cp0) (rows : List Row) (m n : Running) (k j : ℕ) → n ≡ after_row_steps c rows m k
    → after_row_steps c rows n j ≡ after_row_steps c rows m (k + j)
after_more c rows m n k zero at = at ∙ ap (after_row_steps c rows m) (sym (add-zero k))
after_more c rows m n k (suc j) at =
    ap (λ (n : Running). after_row_step c rows n (next_row_step c rows n)) (after_more c rows m n k j at)
    ∙ ap (after_row_steps c rows m) (sym (add-suc k j))

below_or_beyond : (i k j : ℕ) → i < k + j → (i < k) ⊎ ((i - k < j) × (k + (i - k) ≡ i))
below_or_beyond i k j h = grind arith

retires_in : (c : Cp0) (rows : List Row) (m n : Running) (i k j : ℕ) → n ≡ after_row_steps c rows m k → RowStepsRetire c rows m k
    → RowStepsRetire c rows n j → (i < k) ⊎ ((i - k < j) × (k + (i - k) ≡ i)) → Retires (next_row_step c rows (after_row_steps c rows m i))
retires_in c rows m n i k j at first then (inl below) = first.each i below
retires_in c rows m n i k j at first then (inr beyond) =
    ap (λ (n : Running). outcome_of (next_row_step c rows n)) (ap (after_row_steps c rows m) (sym beyond.1) ∙ sym (after_more c rows m n k (i - k) at))
    ∙ then.each (i - k) beyond.0

pub all_more : (c : Cp0) (rows : List Row) (m n : Running) (k j : ℕ) → n ≡ after_row_steps c rows m k → RowStepsRetire c rows m k
    → RowStepsRetire c rows n j → RowStepsRetire c rows m (k + j)
all_more c rows m n k j at first then = record { each = λ i h. retires_in c rows m n i k j at first then (below_or_beyond i k j h) }

-- a program that has left a page has made a step
pub has_moved : (c : Cp0) (rows : List Row) (m n : Running) (k : ℕ) (code : CodePage) → n ≡ after_row_steps c rows m k
    → has code m.cpu.pc ≡ true → has code n.cpu.pc ≡ false → 0 < k
has_moved c rows m n zero code at inside outside =
    absurd (search (rules, (sym (ap (λ (n : Running). has code n.cpu.pc) at) ∙ outside)))
has_moved c rows m n (suc k) code at inside outside = omega arith

-- a page that is fetched from still is, in as many pages of memory
pub still_code : (c : Cp0) (rows : List Row) (frames new : List (List ℕ)) (code : CodePage) → length new ≡ length frames
    → IsCode c rows frames code → IsCode c rows new code
still_code c rows frames new code size h = search rules
