-- The first difference of two feeds.
use Rattle.std.proofs.Common.{◌≡◌, ℕ, List, [], ◌∷◌, ◌++◌, Bool, true, false, inl, inr, refl, sym, ◌∙◌, ap, subst}
use Rattle.std.specs.Prelude.{◌⊎◌, ◌||◌}
use Rattle.std.proofs.lemmas.List.{append_cancel_left}
use Rattle.world_model.specs.Item.{Item, Step, Start, End, Killed, Answer, absorb, absorb_all}
use Rattle.world_model.specs.Solo.{Solo, absent}
use Rattle.run_model.specs.Boot.{boot_items}
use Rattle.run_model.specs.Run.{feed}
use Rattle.due_law.specs.Due.{AreTold, DifferenceIsTold, FeedIsDue, IsDueAfter, is_answer}
use Rattle.due_law.specs.Standing.{Asks, AreDue, Dooms, Ends, Runs, Standing, Waits, is_awaited, is_further, stands_after}

-- what is awaited at one place
only_start : (x : Item) → is_awaited Waits x ≡ true → x ≡ Start
only_start Start is = refl
only_start x is = let never : false ≡ true = is in cc

only_end : (n : ℕ) (x : Item) → is_awaited (Ends n) x ≡ true → x ≡ End
only_end n End is = refl
only_end n x is = let never : false ≡ true = is in cc

only_killed : (x : Item) → is_awaited Dooms x ≡ true → x ≡ Killed
only_killed Killed is = refl
only_killed x is = let never : false ≡ true = is in cc

only_step : (n : ℕ) (p : _) (m : ℕ) (x : Item) → is_awaited (Runs n p m) x ≡ true → x ≡ Step
only_step n p m Step is = refl
only_step n p m x is = let never : false ≡ true = is in cc

only_answer : (n : ℕ) (p : _) (m : ℕ) (x : Item) → is_awaited (Asks n p m) x ≡ true → is_answer x ≡ true
only_answer n p m (Answer v) is = refl
only_answer n p m x is = let never : false ≡ true = is in cc

both_awaited : (st : Standing) (x y : Item) → is_awaited st x ≡ true → is_awaited st y ≡ true → (x ≡ y) ⊎ AreTold x y
both_awaited Waits x y one other = inl (only_start x one ∙ sym (only_start y other))
both_awaited (Runs n p m) x y one other = inl (only_step n p m x one ∙ sym (only_step n p m y other))
both_awaited (Asks n p m) x y one other = inr (inr (inr (only_answer n p m x one, only_answer n p m y other)))
both_awaited (Ends n) x y one other = inl (only_end n x one ∙ sym (only_end n y other))
both_awaited Dooms x y one other = inl (only_killed x one ∙ sym (only_killed y other))

pub both_due : (st : Standing) (x y : Item) → (is_further x || is_awaited st x) ≡ true → (is_further y || is_awaited st y) ≡ true → (x ≡ y) ⊎ AreTold x y
both_due st x y one other = by_further (is_further x) (is_further y) refl refl one other
  where
    by_further : (a b : Bool) → is_further x ≡ a → is_further y ≡ b → (a || is_awaited st x) ≡ true → (b || is_awaited st y) ≡ true → (x ≡ y) ⊎ AreTold x y
    by_further true b is_x is_y due_x due_y = inr (inl is_x)
    by_further false true is_x is_y due_x due_y = inr (inr (inl is_y))
    by_further false false is_x is_y due_x due_y = both_awaited st x y due_x due_y

-- it stands at the same place after the same items
told_after : (q : ℕ) (st : Standing) (s : Solo) (same xs ys : List Item) (x y : Item) → AreDue q st s (same ++ x ∷ xs) → AreDue q st s (same ++ y ∷ ys) → (x ≡ y) ⊎ AreTold x y
told_after q st s [] xs ys x y left right = both_due st x y left.0 right.0
told_after q st s (z ∷ same) xs ys x y left right = told_after q (stands_after q st s z) (absorb s z) same xs ys x y left.1 right.1

-- what follows the record at boot
pub due_behind : (q e : ℕ) (boot all more : List Item) → IsDueAfter q e boot all → all ≡ boot ++ more → AreDue q Waits (absorb_all (absent e) boot) more
due_behind q e boot all more its is = subst (AreDue q Waits (absorb_all (absent e) boot)) (append_cancel_left boot its.more more (its.is ∙ is)) its.due

pub difference_is_told : FeedIsDue → DifferenceIsTold
difference_is_told due left right e t u same xs ys x y alike left_is right_is =
    let q = left.image.quantum in
    let boot = boot_items left.image e in
    let one = due_behind q e boot (feed left e t) (same ++ x ∷ xs) (due left e t alike.left_nobody) left_is in
    let there : IsDueAfter q e boot (feed right e u) =
    subst (λ (b : List Item). IsDueAfter q e b (feed right e u)) (sym alike.record_same)
    (subst (λ (n : ℕ). IsDueAfter n e (boot_items right.image e) (feed right e u)) (sym alike.quantum_same) (due right e u alike.right_nobody)) in
    let other = due_behind q e boot (feed right e u) (same ++ y ∷ ys) there
    (right_is ∙ ap (λ (b : List Item). b ++ (same ++ y ∷ ys)) (sym alike.record_same)) in
    told_after q Waits (absorb_all (absent e) boot) same xs ys x y one other
