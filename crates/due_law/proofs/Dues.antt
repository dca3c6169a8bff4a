-- Items that are due, one list after another.
use Rattle.std.proofs.Common.{◌≡◌, ℕ, List, [], ◌∷◌, ◌++◌, Bool, true, false, Option, None, Some, refl, sym, ◌∙◌, ap, subst, append_assoc}
use Rattle.std.specs.Prelude.{◌==◌, if◌then◌else◌}
use Rattle.std.proofs.lemmas.Bool.{or_left}
use Rattle.world_model.specs.declared.slot.Runner.{Runner}
use Rattle.world_model.specs.Book.{is_runner}
use Rattle.world_model.specs.Item.{Item, Step, Start, End, Killed, Answer, absorb, absorb_all}
use Rattle.world_model.specs.Solo.{Solo}
use Rattle.world_model.specs.World.{World, Reply, after, in_turn, run_phases}
use Rattle.run_model.proofs.Phases.{in_turn_is_each}
use Rattle.due_law.specs.Standing.{AreDue, Runs, Standing, Waits, standing_counted, is_awaited, is_further, stands_after}

-- where it stands after a list
abbrev pub stands : ℕ → Standing → Solo → List Item → Standing
stands q st s [] = st
stands q st s (x ∷ xs) = stands q (stands_after q st s x) (absorb s x) xs

pub due_both : (q : ℕ) (st : Standing) (s : Solo) (xs ys : List Item) → AreDue q st s xs → AreDue q (stands q st s xs) (absorb_all s xs) ys → AreDue q st s (xs ++ ys)
due_both q st s [] ys first next = next
due_both q st s (x ∷ xs) ys first next = (first.0, due_both q (stands_after q st s x) (absorb s x) xs ys first.1 next)

pub stands_both : (q : ℕ) (st : Standing) (s : Solo) (xs ys : List Item) → stands q st s (xs ++ ys) ≡ stands q (stands q st s xs) (absorb_all s xs) ys
stands_both q st s [] ys = refl
stands_both q st s (x ∷ xs) ys = stands_both q (stands_after q st s x) (absorb s x) xs ys

-- further items are due, and leave it where it stood
abbrev pub AreFurther : List Item → Type 0
AreFurther [] = Unit {0}
AreFurther (x ∷ xs) = (is_further x ≡ true) × AreFurther xs

pub further_both : (xs ys : List Item) → AreFurther xs → AreFurther ys → AreFurther (xs ++ ys)
further_both [] ys first next = next
further_both (x ∷ xs) ys first next = (first.0, further_both xs ys first.1 next)

one_stands : (q : ℕ) (st : Standing) (s : Solo) (x : Item) → is_further x ≡ true → stands_after q st s x ≡ st
one_stands q st s Step is = cc
one_stands q st s Start is = cc
one_stands q st s End is = cc
one_stands q st s Killed is = cc
one_stands q st s (Answer v) is = cc
one_stands q st s x is = refl

pub further_due : (q : ℕ) (st : Standing) (s : Solo) (xs : List Item) → AreFurther xs → AreDue q st s xs
further_due q st s [] all = tt
further_due q st s (x ∷ xs) all = (
  or_left (is_further x) (is_awaited st x) all.0,
  subst (λ (z : Standing). AreDue q z (absorb s x) xs) (sym (one_stands q st s x all.0)) (further_due q st (absorb s x) xs all.1),
)

pub further_stands : (q : ℕ) (st : Standing) (s : Solo) (xs : List Item) → AreFurther xs → stands q st s xs ≡ st
further_stands q st s [] all = refl
further_stands q st s (x ∷ xs) all = ap (λ (z : Standing). stands q z (absorb s x) xs) (one_stands q st s x all.0) ∙ further_stands q st (absorb s x) xs all.1

-- In a world it is given these items, from where it stands to where it stands then.
pub record Goes (e q : ℕ) (w : World) (items : List Item) (from to : Standing) : Type 0 where
  pub due : AreDue q from (w.solos e) items
  pub leads : stands q from (w.solos e) items ≡ to

pub goes_none : (e q : ℕ) (w : World) (st : Standing) → Goes e q w [] st st
goes_none e q w st = record { due = tt; leads = refl }

pub goes_further : (e q : ℕ) (w : World) (items : List Item) (st : Standing) → AreFurther items → Goes e q w items st st
goes_further e q w items st all = record { due = further_due q st (w.solos e) items all; leads = further_stands q st (w.solos e) items all }

pub goes_as : (e q : ℕ) (w : World) (xs ys : List Item) (a b c d : Standing) → xs ≡ ys → a ≡ b → c ≡ d → Goes e q w ys b d → Goes e q w xs a c
goes_as e q w xs ys a b c d items from to goes =
    subst (λ (zs : List Item). Goes e q w zs a c) (sym items) (subst (λ (z : Standing). Goes e q w ys z c) (sym from) (subst (λ (z : Standing). Goes e q w ys b z) (sym to) goes))

-- phases, one after another
pub goes_on : (e q : ℕ) (w : World) (p : World → Reply) (ps : List (World → Reply)) (from mid to : Standing) → Goes e q w ((p w).items e) from mid
    → Goes e q (after w (p w)) ((in_turn ps (after w (p w))).items e) mid to → Goes e q w ((in_turn (p ∷ ps) w).items e) from to
goes_on e q w p ps from mid to first next =
    let xs = (p w).items e in
    let ys = (in_turn ps (after w (p w))).items e in
    let s = w.solos e in
    record {
      due = due_both q from s xs ys first.due (subst (λ (z : Standing). AreDue q z (absorb_all s xs) ys) (sym first.leads) next.due);
      leads = stands_both q from s xs ys ∙ ap (λ (z : Standing). stands q z (absorb_all s xs) ys) first.leads ∙ next.leads;
    }

items_append : (e : ℕ) (xs ys : List (World → Reply)) (w : World) → (in_turn (xs ++ ys) w).items e ≡ (in_turn xs w).items e ++ (in_turn ys (run_phases w xs)).items e
items_append e [] ys w = refl
items_append e (x ∷ xs) ys w =
    let v = after w (x w) in
    ap (λ (zs : List Item). (x w).items e ++ zs) (items_append e xs ys v)
    ∙ sym (append_assoc ((x w).items e) ((in_turn xs v).items e) ((in_turn ys (run_phases v xs)).items e))

pub goes_append : (e q : ℕ) (w : World) (xs ys : List (World → Reply)) (from mid to : Standing) → Goes e q w ((in_turn xs w).items e) from mid
    → Goes e q (run_phases w xs) ((in_turn ys (run_phases w xs)).items e) mid to → Goes e q w ((in_turn (xs ++ ys) w).items e) from to
goes_append e q w xs ys from mid to first next =
    let s = w.solos e in
    let v = run_phases w xs in
    let us = (in_turn xs w).items e in
    let bs = (in_turn ys v).items e in
    let solo : v.solos e ≡ absorb_all s us = ap (λ (u : World). u.solos e) (sym (in_turn_is_each w xs)) in
    let due : AreDue q mid (absorb_all s us) bs = subst (λ (t : Solo). AreDue q mid t bs) solo next.due in
    let leads : stands q mid (absorb_all s us) bs ≡ to = ap (λ (t : Solo). stands q mid t bs) (sym solo) ∙ next.leads in
    goes_as e q w ((in_turn (xs ++ ys) w).items e) (us ++ bs) from from to to (items_append e xs ys w) refl refl
    (record {
      due = due_both q from s us bs first.due (subst (λ (z : Standing). AreDue q z (absorb_all s us) bs) (sym first.leads) due);
      leads = stands_both q from s us bs ∙ ap (λ (z : Standing). stands q z (absorb_all s us) bs) first.leads ∙ leads;
    })

-- where it stands in a world, between ticks
abbrev pub standing_of : ℕ → Option Runner → ℕ → Standing
standing_of e None x = Waits
standing_of e (Some r) x = if r.env == e then Runs r.left r.phase x else Waits

abbrev pub standing : ℕ → World → Standing
standing e w = standing_of e w.book.runner (w.book.excess e)

-- and once the step is made, by what the timer will make of it
abbrev pub counting_of : ℕ → ℕ → Option Runner → ℕ → Solo → Standing
counting_of e q None x s = Waits
counting_of e q (Some r) x s = if r.env == e then standing_counted q r.left r.phase x s else Waits

abbrev pub counting : ℕ → ℕ → World → Standing
counting e q w = counting_of e q w.book.runner (w.book.excess e) (w.solos e)

pub standing_out : (e : ℕ) (o : Option Runner) (x : ℕ) → is_runner e o ≡ false → standing_of e o x ≡ Waits
standing_out e None x out = refl
standing_out e (Some r) x out = ap (λ (b : Bool). if b then Runs r.left r.phase x else Waits) out

pub counting_out : (e q : ℕ) (o : Option Runner) (x : ℕ) (s : Solo) → is_runner e o ≡ false → counting_of e q o x s ≡ Waits
counting_out e q None x s out = refl
counting_out e q (Some r) x s out = ap (λ (b : Bool). if b then standing_counted q r.left r.phase x s else Waits) out
