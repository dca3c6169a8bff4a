-- Tables with another value at one number.
use Rattle.std.proofs.Common.{arith, ◌≡◌, ◌≢◌, ℕ, Bool, true, false, refl, sym, ◌∙◌, ap}
use Rattle.std.specs.Prelude.{◌==◌}
use Rattle.std.proofs.lemmas.Bool.{ne_eqb, eq-eqb, eqb-true, eqb-false}
use Rattle.world_model.specs.Table.{set_at}
use Rattle.page_book.specs.declared.row.PageRow.{PageRow}
use Rattle.page_book.specs.Row.{is_owned_by}

-- one number, and all others
pub by_number : {A : Type 0} (f g : ℕ → A) (n : ℕ) → f n ≡ g n → ((i : ℕ) → i ≢ n → f i ≡ g i) → (i : ℕ) → f i ≡ g i
by_number f g n here others i = by_test (i == n) refl
  where
    by_test : (t : Bool) → (i == n) ≡ t → f i ≡ g i
    by_test true is = let same = eqb-true i n is in ap f same ∙ here ∙ ap g (sym same)
    by_test false is = others i (eqb-false i n is)

pub set_here : {A : Type 0} (n : ℕ) (x : A) (f : ℕ → A) → set_at n x f n ≡ x
set_here n x f = rw (eq-eqb n n refl) refl

pub set_else : {A : Type 0} (n i : ℕ) (x : A) (f : ℕ → A) → i ≢ n → set_at n x f i ≡ f i
set_else n i x f ne = rw (ne_eqb i n ne) refl

-- a number that has its value already
pub set_same : {A : Type 0} (n : ℕ) (f : ℕ → A) (i : ℕ) → set_at n (f n) f i ≡ f i
set_same n f i = by_number (set_at n (f n) f) f n (set_here n (f n) f) (λ j ne. set_else n j (f n) f ne) i

-- who owns no page owns none with another's row for one of them
pub set_owns : (i page : ℕ) (row : PageRow) (pages : ℕ → PageRow) → is_owned_by i row ≡ false → ((p : ℕ) → is_owned_by i (pages p) ≡ false) → (p : ℕ) → is_owned_by i (set_at page row pages p) ≡ false
set_owns i page row pages after before p = grind (arith, before p)
