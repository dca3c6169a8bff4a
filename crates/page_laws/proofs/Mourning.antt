-- What others lose with one that dies: its pages one by one, by rising number.
use Rattle.std.proofs.Common.{◌≡◌, ◌≢◌, ℕ, zero, suc, ◌<◌, ◌≤◌, List, [], Bool, true, false, ◌&&◌, ◌||◌, Option, Some, None, refl, sym, ◌∙◌, ap, subst, arith}
use Rattle.std.specs.Prelude.{◌==◌, nat_lt, if◌then◌else◌}
use Rattle.std.proofs.lemmas.Bool.{ne_eqb, eqb-true, eqb-false, le-ltb, lt-ltb, ltb-true, ltb-false}
use mathlib.Core.Bool.{and-false, or-false, or-true}
use Rattle.std.proofs.lemmas.List.Sums.{fold-append}
use Rattle.page_book.specs.declared.row.PageRow.{PageRow}
use Rattle.page_book.specs.declared.row.PageRow.TheVariants.{Free, Guaranteed, Owned}
use Rattle.page_book.specs.Row.{is_owned_by, belongs_to, released}
use Rattle.bind_book.specs.declared.binding.Binding.{Binding}
use Rattle.bind_book.specs.Stripe.{leads_to_page, goes_with, is_bound, without}
use Rattle.world_model.specs.declared.life.Life.TheVariants.{Live}
use Rattle.world_model.specs.Solo.{Solo}
use Rattle.world_model.specs.Item.{Item, absorb, absorb_all}
use Rattle.world_model.specs.Book.{Book}
use Rattle.world_model.specs.Death.{lost_with}
use Rattle.world_model.specs.PageCalls.{lost_if}
use Rattle.page_laws.specs.Sight.{IsStripe, Sees, seen_if}
use Rattle.page_laws.specs.Laws.{MournersLose, broken_stripe, with_row}
use Rattle.page_laws.proofs.Tables.{set_same}
use Rattle.page_laws.proofs.Stripes.{bound_still, kept_row, without_both, without_ends}
use Rattle.page_laws.proofs.Sights.{absorbs_lost, others_lose, sees_alike}

-- a page of one that is gone is nobody else's
pub not_owned : (gone i : ℕ) (row : PageRow) → i ≢ gone → belongs_to gone row ≡ true → is_owned_by i row ≡ false
not_owned gone i Free other belongs = refl
not_owned gone i (Guaranteed owner) other belongs = refl
not_owned gone i (Owned owner words) other belongs = ne_eqb owner i (λ same. other (sym same ∙ eqb-true owner gone belongs))

-- what is released was nobody else's
pub owned_still : (gone i : ℕ) (row : PageRow) → i ≢ gone → is_owned_by i (released gone row) ≡ is_owned_by i row
owned_still gone i row other = by_test (belongs_to gone row) refl
  where
    by_test : (t : Bool) → belongs_to gone row ≡ t → is_owned_by i (if t then Free else row) ≡ is_owned_by i row
    by_test true belongs = sym (not_owned gone i row other belongs)
    by_test false is = refl

-- a number other than n is below n if it is below the next one
below_suc : (a n : ℕ) → a ≢ n → nat_lt a (suc n) ≡ nat_lt a n
below_suc a n other = by_test (nat_lt a n) refl
  where
    by_test : (t : Bool) → nat_lt a n ≡ t → nat_lt a (suc n) ≡ t
    by_test true is = let less : a < n = ltb-true a n is in lt-ltb a (suc n) (omega arith)
    by_test false is = let more : n ≤ a = ltb-false a n is in le-ltb a (suc n) (omega arith)

-- an environment that lives, and sees what it sees
record Mourns (e : ℕ) (pages : ℕ → PageRow) (stripe : ℕ → Option Binding) (bytes : ℕ → List ℕ) (s : Solo) : Type 0 where
  lives : s.life ≡ Live
  sees : Sees e pages stripe bytes s

lives_after : (s : Solo) (t : Bool) (page : ℕ) → s.life ≡ Live → (absorb_all s (lost_if t page)).life ≡ Live
lives_after s true page lives = ap (λ (x : Solo). x.life) (absorbs_lost s page lives) ∙ lives
lives_after s false page lives = lives

module _ (gone i : ℕ) (b : Book) (bytes : ℕ → List ℕ) (other : i ≢ gone) (ends : IsStripe (b.binds i)) where
  -- a binding goes with the pages below n
  abbrev goes_below : ℕ → Binding → Bool
  goes_below n x = nat_lt x.page n && belongs_to gone (b.pages x.page)

  abbrev left_below : ℕ → ℕ → Option Binding
  left_below n row = without (goes_below n) (b.binds i row)

  -- with the next page go its own bindings, if it belongs to the one that is gone
  with_next : (n : ℕ) → belongs_to gone (b.pages n) ≡ true → (x : Binding) → goes_below (suc n) x ≡ (goes_below n x || leads_to_page n None i x)
  with_next n belongs x = by_test (x.page == n) refl
    where
      by_test : (t : Bool) → (x.page == n) ≡ t → goes_below (suc n) x ≡ (goes_below n x || (t && true))
      by_test true is =
          let same = eqb-true x.page n is in
          (λ k. nat_lt (same k) (suc n) && belongs_to gone (b.pages (same k)))
          ∙ (λ k. lt-ltb n (suc n) (omega arith) k && belongs k)
          ∙ sym (or-true (goes_below n x))
      by_test false is =
          ap (λ less. less && belongs_to gone (b.pages x.page)) (below_suc x.page n (eqb-false x.page n is)) ∙ sym (or-false (goes_below n x))

  without_next : (n : ℕ) → belongs_to gone (b.pages n) ≡ false → (x : Binding) → goes_below (suc n) x ≡ goes_below n x
  without_next n stays x = by_test (x.page == n) refl
    where
      by_test : (t : Bool) → (x.page == n) ≡ t → goes_below (suc n) x ≡ goes_below n x
      by_test true is =
          let not_its : belongs_to gone (b.pages x.page) ≡ false = ap (λ p. belongs_to gone (b.pages p)) (eqb-true x.page n is) ∙ stays in
          rw not_its (and-false (nat_lt x.page (suc n)) ∙ sym (and-false (nat_lt x.page n)))
      by_test false is = ap (λ less. less && belongs_to gone (b.pages x.page)) (below_suc x.page n (eqb-false x.page n is))

  -- the bindings of a page stay until its turn comes
  bound_yet : (n : ℕ) → is_bound n (left_below n) ≡ is_bound n (b.binds i)
  bound_yet n = bound_still n (goes_below n) (b.binds i) (λ x same. ap (λ less. less && belongs_to gone (b.pages x.page)) (le-ltb x.page n (omega (arith, same))))

  loses_next : (n : ℕ) (s : Solo) → Mourns i b.pages (left_below n) bytes s → (t : Bool) → belongs_to gone (b.pages n) ≡ t → Mourns i b.pages (left_below (suc n)) bytes (absorb_all s (if t then lost_if (is_bound n (b.binds i)) n else []))
  loses_next n s before true belongs = record {
    lives = lives_after s (is_bound n (b.binds i)) n before.lives;
    sees =
        subst (λ (pages : ℕ → PageRow). Sees i pages (left_below (suc n)) bytes (absorb_all s (lost_if (is_bound n (b.binds i)) n))) (λ k p. set_same n b.pages p k)
        (sees_alike i (with_row b.pages n (b.pages n)) (broken_stripe n None i (left_below n)) (left_below (suc n)) bytes (absorb_all s (lost_if (is_bound n (b.binds i)) n))
        (λ r. without_both (leads_to_page n None i) (goes_below n) (goes_below (suc n)) (with_next n belongs) (b.binds i r))
        (subst (λ (t : Bool). Sees i (with_row b.pages n (b.pages n)) (broken_stripe n None i (left_below n)) bytes (absorb_all s (lost_if t n))) (bound_yet n)
        (others_lose i n None (b.pages n) b.pages (left_below n) bytes s before.sees before.lives none_differs its its (without_ends (goes_below n) (b.binds i) ends))));
  }
    where
      none_differs : None ≢ Some i
      none_differs same = cc

      its : is_owned_by i (b.pages n) ≡ false
      its = not_owned gone i (b.pages n) other belongs
  loses_next n s before false stays = record {
    lives = before.lives;
    sees = sees_alike i b.pages (left_below n) (left_below (suc n)) bytes s (λ r k. without (λ x. sym (without_next n stays x) k) (b.binds i r)) before.sees;
  }

  loses_below : (n : ℕ) (s : Solo) → Mourns i b.pages (b.binds i) bytes s → Mourns i b.pages (left_below n) bytes (absorb_all s (lost_with b gone i n))
  loses_below zero s before = record {
    lives = before.lives;
    sees = sees_alike i b.pages (b.binds i) (left_below zero) bytes s (λ r. sym (kept_row (goes_below zero) (b.binds i r) (λ x is. ap (λ less. less && belongs_to gone (b.pages x.page)) (le-ltb x.page zero (omega arith))))) before.sees;
  }
  loses_below (suc n) s before =
      let next : List Item = if belongs_to gone (b.pages n) then lost_if (is_bound n (b.binds i)) n else [] in
      subst (λ (x : Solo). Mourns i b.pages (left_below (suc n)) bytes x) (sym (fold-append absorb s (lost_with b gone i n) next))
      (loses_next n (absorb_all s (lost_with b gone i n)) (loses_below n s before) (belongs_to gone (b.pages n)) refl)

  -- with the pages below the count all go
  goes_in_all : ((page : ℕ) → b.page_count ≤ page → b.pages page ≡ Free) → (x : Binding) → goes_below b.page_count x ≡ goes_with b.pages gone i x
  goes_in_all free x = by_test (nat_lt x.page b.page_count) refl ∙ ap (λ own. own || belongs_to gone (b.pages x.page)) (sym (ne_eqb i gone other))
    where
      by_test : (t : Bool) → nat_lt x.page b.page_count ≡ t → (t && belongs_to gone (b.pages x.page)) ≡ belongs_to gone (b.pages x.page)
      by_test true is = refl
      by_test false is = ap (belongs_to gone) (sym (free x.page (ltb-false x.page b.page_count is)))

abbrev rest : ℕ → ℕ → Book → ℕ → Option Binding
rest gone i b row = without (goes_with b.pages gone i) (b.binds i row)

-- to others the pages of one that is gone were none of theirs
sees_released : (gone i : ℕ) (b : Book) (stripe : ℕ → Option Binding) (bytes : ℕ → List ℕ) (s : Solo) → i ≢ gone → Sees i b.pages stripe bytes s → Sees i (λ page. released gone (b.pages page)) stripe bytes s
sees_released gone i b stripe bytes s other seen = record {
  binds = seen.binds;
  seen = λ p. seen.seen p ∙ ap (λ owned. seen_if owned (is_bound p stripe) (bytes p)) (sym (owned_still gone i (b.pages p) other));
}

pub mourners_lose : MournersLose
mourners_lose gone i b bytes s seen lives other free ends =
    let after = absorb_all s (lost_with b gone i b.page_count) in
    let all = loses_below gone i b bytes other ends b.page_count s (record { lives = lives; sees = seen }) in
    sees_released gone i b (rest gone i b) bytes after other
    (sees_alike i b.pages (left_below gone i b bytes other ends b.page_count) (rest gone i b) bytes after (λ r k. without (λ x. goes_in_all gone i b bytes other ends free x k) (b.binds i r)) all.sees)
