-- What rows that are written do to the balance.
use Rattle.std.proofs.lemmas.Grind.{common_steps}
use Rattle.std.proofs.Common.{arith, refl, sym, ap, subst, ◌∙◌, ◌≡◌, ◌<◌, ◌+◌, ℕ, zero, suc, List, [], ◌∷◌, ◌++◌, Bool, true, false, cond, inl, inr, Option, append_assoc, rules}
use Rattle.std.specs.Prelude.{count_by}
use Rattle.std.proofs.lemmas.Bool.{cases_eq, cond_both, eq-eqb, ne_eqb}
use Rattle.std.proofs.lemmas.List.{append-nil}
use Rattle.std.proofs.lemmas.List.Sums.{sum_by_push}
use Rattle.kernel_journal.specs.declared.row.Row.{Row}
use Rattle.kernel_journal.specs.declared.row.Row.TheVariants as row
use Rattle.world_model.specs.declared.hold.Hold.{Hold}
use Rattle.world_model.specs.Book.{excess_after_forfeit}
use Rattle.run_model.specs.Excess.{AreLawfulAfter, IsLawful, Lives, is_over_of, is_pay_of, overs, pays}
use Rattle.world_model.specs.Table.{set_at}
use Rattle.world_model.specs.Death.{released_row, released_rows}
use Rattle.world_model.specs.SlotCalls.{slot_row}
use Rattle.world_model.specs.World.{World}

-- the balance of those who live in a world, over rows and excess
abbrev pub Balances : World → List Row → (ℕ → ℕ) → Type 0
Balances w rows excess = (e : ℕ) → Lives w e → overs e rows ≡ pays e rows + excess e

-- rows after others are lawful, and the balance holds after them, with this excess
pub record Adds (w : World) (before rows : List Row) (excess : ℕ → ℕ) : Type 0 where
  pub lawful : AreLawfulAfter before rows
  pub balanced : Balances w (before ++ rows) excess

pub adds_none : (w : World) (before : List Row) (excess : ℕ → ℕ) → Balances w before excess → Adds w before [] excess
adds_none w before excess balanced = record { lawful = tt; balanced = rw (append-nil before) balanced }

pub adds_row : (w : World) (before rows : List Row) (r : Row) (excess : ℕ → ℕ) → IsLawful before r → Adds w (before ++ r ∷ []) rows excess → Adds w before (r ∷ rows) excess
adds_row w before rows r excess lawful adds = search (rules, append_assoc)

-- rows that are lawful after others are so in two parts
pub lawful_both : (before xs ys : List Row) → AreLawfulAfter before xs → AreLawfulAfter (before ++ xs) ys → AreLawfulAfter before (xs ++ ys)
lawful_both before [] ys first second = subst (λ (all : List Row). AreLawfulAfter all ys) (append-nil before) second
lawful_both before (x ∷ xs) ys (lawful, rest) second =
    (lawful, lawful_both (before ++ x ∷ []) xs ys rest (subst (λ (all : List Row). AreLawfulAfter all ys) (sym (append_assoc before (x ∷ []) xs)) second))

-- one row more in a count
count_more : (p : Row → Bool) (before : List Row) (r : Row) (counts : Bool) → p r ≡ counts → count_by p (before ++ r ∷ []) ≡ count_by p before + cond counts 1 0
count_more p before r counts is = sum_by_push (λ x. cond (p x) 1 0) before r ∙ ap (λ (c : Bool). count_by p before + cond c 1 0) is

-- a row that counts for nobody, and is lawful after all others
pub record IsQuiet (r : Row) : Type 0 where
  pub no_over : (e : ℕ) → is_over_of e r ≡ false
  pub no_pay : (e : ℕ) → is_pay_of e r ≡ false
  pub lawful : (before : List Row) → IsLawful before r

abbrev pub AreQuiet : List Row → Type 0
AreQuiet [] = Unit {0}
AreQuiet (r ∷ rows) = IsQuiet r × AreQuiet rows

pub quiet_own : (t k : ℕ) (owner holder : Option ℕ) → IsQuiet (row.Own t k owner holder)
quiet_own t k owner holder = record { no_over = λ e. refl; no_pay = λ e. refl; lawful = λ before. tt }

pub quiet_slot : (t k : ℕ) (hold : Option Hold) → IsQuiet (slot_row t k hold)
quiet_slot t k hold = search (rules, quiet_own)

pub quiet_both : (xs ys : List Row) → AreQuiet xs → AreQuiet ys → AreQuiet (xs ++ ys)
quiet_both [] ys first second = second
quiet_both (x ∷ xs) ys (quiet, rest) second = (quiet, quiet_both xs ys rest second)

quiet_released : (t e k : ℕ) (hold : Option Hold) → AreQuiet (released_row t e k hold)
quiet_released t e k hold = search (rules, cond_both, quiet_slot)

pub quiet_releases : (t e : ℕ) (slots : ℕ → Option Hold) (count : ℕ) → AreQuiet (released_rows t e slots count)
quiet_releases t e slots zero = tt
quiet_releases t e slots (suc k) = quiet_both (released_rows t e slots k) (released_row t e k (slots k)) (quiet_releases t e slots k) (quiet_released t e k (slots k))

-- a row that counts for nobody leaves the balance
same_balance : (w : World) (before : List Row) (r : Row) (excess : ℕ → ℕ) → ((e : ℕ) → is_over_of e r ≡ false) → ((e : ℕ) → is_pay_of e r ≡ false) → Balances w before excess
    → Balances w (before ++ r ∷ []) excess
same_balance w before r excess no_over no_pay balanced e lives = search (rules, count_more)

pub adds_quiet : (w : World) (before rows : List Row) (excess : ℕ → ℕ) → AreQuiet rows → Balances w before excess → Adds w before rows excess
adds_quiet w before [] excess quiet balanced = adds_none w before excess balanced
adds_quiet w before (r ∷ rows) excess (quiet, rest) balanced =
    adds_row w before rows r excess (quiet.lawful before) (adds_quiet w (before ++ r ∷ []) rows excess rest (same_balance w before r excess quiet.no_over quiet.no_pay balanced))

-- a run of one who owes nothing
pub adds_run : (w : World) (before : List Row) (t k e : ℕ) (excess : ℕ → ℕ) → Lives w e → excess e ≡ 0 → Balances w before excess → Adds w before (row.Run t k e ∷ []) excess
adds_run w before t k e excess lives free balanced = search (rules, adds_row, adds_none, same_balance)

set_own : {A : Type 0} (n : ℕ) (x : A) (f : ℕ → A) (i : ℕ) → i ≡ n → set_at n x f i ≡ x
set_own n x f i same = rw (eq-eqb i n same)

pub set_other : {A : Type 0} (n : ℕ) (x : A) (f : ℕ → A) (i : ℕ) → (i ≡ n → ⊥) → set_at n x f i ≡ f i
set_other n x f i other = rw (ne_eqb i n other)

-- a forfeit of one who owes
pub adds_pay : (w : World) (before rows : List Row) (t k e : ℕ) (excess left : ℕ → ℕ) → Lives w e → 0 < excess e → Balances w before excess
    → (Balances w (before ++ row.Pay t k e ∷ []) (excess_after_forfeit e excess) → Adds w (before ++ row.Pay t k e ∷ []) rows left) → Adds w before (row.Pay t k e ∷ rows) left
adds_pay w before rows t k e excess left lives owes balanced rest = grind (arith, common_steps, adds_row, count_more, set_own, set_other)

-- a quantum that was run past a slice
pub adds_over : (w : World) (before rows : List Row) (t k e : ℕ) (excess : ℕ → ℕ) → Lives w e → AreQuiet rows → Balances w before excess
    → Adds w before (row.Over t k e (excess e + 1) ∷ rows) (set_at e (excess e + 1) excess)
adds_over w before rows t k e excess lives quiet balanced =
    adds_row w before rows (row.Over t k e (excess e + 1)) (set_at e (excess e + 1) excess) (omega (arith, balanced e lives))
    (adds_quiet w (before ++ row.Over t k e (excess e + 1) ∷ []) rows (set_at e (excess e + 1) excess) quiet risen)
  where
    risen : Balances w (before ++ row.Over t k e (excess e + 1) ∷ []) (set_at e (excess e + 1) excess)
    risen i alive =
        let was = balanced i alive in
        let pays_same = count_more (is_pay_of i) before (row.Over t k e (excess e + 1)) false refl in
        elim (cases_eq i e) [
          | inl same ↦
              let one_more = count_more (is_over_of i) before (row.Over t k e (excess e + 1)) true (eq-eqb e i (sym same)) in
              let raised = set_own e (excess e + 1) excess i same in
              let as_much : excess i ≡ excess e = ap excess same in
              omega arith
          | inr other ↦
              let overs_same = count_more (is_over_of i) before (row.Over t k e (excess e + 1)) false (ne_eqb e i (λ (same : e ≡ i). other (sym same))) in
              let kept = set_other e (excess e + 1) excess i other in
              omega arith
        ]
