-- What items make of a request.
use Rattle.std.proofs.Common.{arith, ◌≡◌, ◌<◌, ◌≤◌, ◌-◌, ℕ, zero, suc, List, [], ◌∷◌, ◌++◌, take, true, Option, None, Some, refl, sym, ◌∙◌, ap, subst}
use Rattle.std.specs.Prelude.{◌==◌, fold, slice_get}
use Rattle.std.specs.List.{list_all}
use Rattle.std.proofs.lemmas.Bool.{and_parts, cond_both, eqb-false}
use Rattle.std.proofs.lemmas.List.Sums.{fold-append}
use Rattle.revocation_book.specs.declared.revocation.Pending.{Pending}
use Rattle.revocation_book.specs.Pending.{lowered}
use Rattle.world_model.specs.Item.{Item, Asked, Taken}
use Rattle.revocation_law.specs.Request.{IsDueNow, WasTold, request_after}
use Rattle.revocation_law.proofs.Plain.{ArePlain, is_plain}

abbrev pub request_from : Option Pending → List Item → Option Pending
request_from last items = fold request_after last items

pub request_both : (last : Option Pending) (xs ys : List Item) → request_from last (xs ++ ys) ≡ request_from (request_from last xs) ys
request_both last xs ys = fold-append request_after last xs ys

-- plain items leave it
plain_item : (last : Option Pending) (item : Item) → is_plain item ≡ true → request_after last item ≡ last
plain_item last (Asked outstanding deadline) plain = cc
plain_item last (Taken page backup) plain = cc
plain_item last item plain = refl

pub plain_request : (last : Option Pending) (items : List Item) → ArePlain items → request_from last items ≡ last
plain_request last [] plain = refl
plain_request last (item ∷ items) plain =
    let parts = and_parts (is_plain item) (list_all is_plain items) plain in
    ap (λ (o : Option Pending). request_from o items) (plain_item last item parts.0) ∙ plain_request last items parts.1

-- Each page that is taken was asked for, with a deadline in this tick.
abbrev pub IsDueIf : ℕ → Option Pending → Item → Type 0
IsDueIf t last (Taken page backup) = IsDueNow t last
IsDueIf t last item = Unit {0}

abbrev pub AreDue : ℕ → Option Pending → List Item → Type 0
AreDue t last [] = Unit {0}
AreDue t last (item ∷ items) = IsDueIf t last item × AreDue t (request_after last item) items

plain_item_due : (t : ℕ) (last : Option Pending) (item : Item) → is_plain item ≡ true → IsDueIf t last item
plain_item_due t last (Taken page backup) plain = cc
plain_item_due t last item plain = tt

pub plain_due : (t : ℕ) (last : Option Pending) (items : List Item) → ArePlain items → AreDue t last items
plain_due t last [] plain = tt
plain_due t last (item ∷ items) plain =
    let parts = and_parts (is_plain item) (list_all is_plain items) plain in
    (plain_item_due t last item parts.0, plain_due t (request_after last item) items parts.1)

pub due_both : (t : ℕ) (last : Option Pending) (xs ys : List Item) → AreDue t last xs → AreDue t (request_from last xs) ys → AreDue t last (xs ++ ys)
due_both t last [] ys first second = second
due_both t last (x ∷ xs) ys (here, rest) second = (here, due_both t (request_after last x) xs ys rest second)

pub due_at : (t : ℕ) (last : Option Pending) (items : List Item) (n page : ℕ) (backup : Option ℕ) → AreDue t last items → slice_get items n ≡ Some (Taken page backup)
    → IsDueNow t (request_from last (take n items))
due_at t last [] n page backup are is = cc
due_at t last (item ∷ items) zero page backup are is = let same : item ≡ Taken page backup = cc in subst (λ (i : Item). IsDueIf t last i) same are.0
due_at t last (item ∷ items) (suc n) page backup are is = due_at t (request_after last item) items n page backup are.1 is

-- items that ask once, and take nothing
pub record AsksFor (outstanding deadline : ℕ) (items : List Item) : Type 0 where
  pub before : List Item
  pub behind : List Item
  pub its : items ≡ before ++ Asked outstanding deadline ∷ behind
  pub first : ArePlain before
  pub last : ArePlain behind

abbrev asking : ℕ → ℕ → List Item → List Item
asking outstanding deadline behind = Asked outstanding deadline ∷ behind

pub asks_request : (outstanding deadline : ℕ) (items : List Item) → AsksFor outstanding deadline items → (last : Option Pending)
    → request_from last items ≡ Some (record { outstanding = outstanding; deadline = deadline })
asks_request outstanding deadline items asks last =
    ap (request_from last) asks.its
    ∙ request_both last asks.before (asking outstanding deadline asks.behind)
    ∙ plain_request (Some (record { outstanding = outstanding; deadline = deadline })) asks.behind asks.last

pub asks_due : (t outstanding deadline : ℕ) (items : List Item) → AsksFor outstanding deadline items → (last : Option Pending) → AreDue t last items
asks_due t outstanding deadline items asks last =
    subst (AreDue t last) (sym asks.its)
    (due_both t last asks.before (asking outstanding deadline asks.behind) (plain_due t last asks.before asks.first)
    (tt, plain_due t (Some (record { outstanding = outstanding; deadline = deadline })) asks.behind asks.last))

-- What is pending, if anything is, was told, with a page at least, and, where a quantum isn't 0, with a deadline from this
-- tick on.
pub record IsCovered (quantum time : ℕ) (p : Pending) (last : Option Pending) : Type 0 where
  pub was : WasTold p last
  pub some : 0 < p.outstanding
  pub ahead : 0 < quantum → time ≤ p.deadline

abbrev pub Covers : ℕ → ℕ → Option Pending → Option Pending → Type 0
Covers quantum time None last = Unit {0}
Covers quantum time (Some p) last = IsCovered quantum time p last

-- a page that is freed leaves it so
pub covers_lowered : (q time : ℕ) (pending last : Option Pending) → Covers q time pending last → Covers q time (lowered pending) last
covers_lowered q time None last covers = tt
covers_lowered q time (Some p) last covers =
    let left = p.outstanding - 1 in
    cond_both (left == 0) None (Some (record { outstanding = left; deadline = p.deadline })) (λ (o : Option Pending). Covers q time o last) (λ none. tt)
    (λ more. record {
      was = record { pages = covers.was.pages; its = covers.was.its; most = omega (arith, covers.was.most) };
      some = omega (arith, eqb-false left 0 more);
      ahead = covers.ahead;
    })
