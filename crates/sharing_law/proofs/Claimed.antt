-- Claims: each environment has those that the book lists for it, and each goes into a page of its environment's.
use Rattle.std.proofs.Common.{◌≡◌, ◌≢◌, ◌<◌, ℕ, List, [], ◌∷◌, ◌++◌, map, Bool, true, false, not, Some, ◌⊎◌, inl, inr, Option, refl, sym, ◌∙◌, ap, subst, arith}
use Rattle.std.proofs.lemmas.Grind.{common_steps}
use Rattle.std.specs.Prelude.{◌==◌, filter, find}
use Rattle.std.proofs.lemmas.Bool.{eq-eqb, ne_eqb}
use Rattle.std.proofs.lemmas.List.{append-nil, map-append}
use Rattle.std.proofs.lemmas.List.Elements.{filter-append}
use Rattle.filter_core.specs.Asking.{agree}
use Rattle.filter_core.specs.Filters.{is_filter}
use Rattle.filter_tree.specs.ClaimBook.{ClaimValue, is_of_env}
use Rattle.filter_tree.specs.Claims.{is_numbered}
use Rattle.page_book.specs.Row.{is_owned_by}
use Rattle.world_model.specs.Book.{Book}
use Rattle.world_model.specs.ClaimCalls.{book_with_claim}
use Rattle.world_model.specs.Rings.{ring_with_handler_if, ring_after_packet_if}
use Rattle.world_model.specs.Solo.{Ring}
use Rattle.world_model.specs.World.{World}
use Rattle.sharing_law.specs.Agreement.{ClaimPage, claim_page, ring_page}
use Rattle.sharing_law.proofs.Lists.{Has, filter_map, filter_same, filter_spares, filter_swap, found_before, found_last, had_or_last, left_there, still_found}
use Rattle.sharing_law.proofs.Turning.{IsAlike}

-- an environment's rings are the claims that are listed for it
abbrev pub AreRings : ℕ → List ClaimValue → List Ring → Type 0
AreRings e claims rings = map ring_page rings ≡ map claim_page (filter (is_of_env e) claims)

-- a claim that a book lists goes into a page of its environment's, and is the one of its number
pub record IsGood (b : Book) (c : ClaimValue) : Type 0 where
  pub owned : is_owned_by c.env (b.pages c.page) ≡ true
  pub below : c.id < b.next_claim
  pub only : find (is_numbered c.id) b.claims ≡ Some c
  pub rule : is_filter c.filter ≡ true

-- two environments' claims don't agree
abbrev pub AreApart : ClaimValue → ClaimValue → Type 0
AreApart c d = c.env ≢ d.env → (agree c.filter d.filter ≡ false) ⊎ (agree d.filter c.filter ≡ false)

pub record AreGood (b : Book) : Type 0 where
  pub each : (c : ClaimValue) → Has b.claims c → IsGood b c
  pub apart : (c d : ClaimValue) → Has b.claims c → Has b.claims d → AreApart c d

pub record Claimed (w : World) : Type 0 where
  pub rings : (e : ℕ) → AreRings e w.book.claims (w.solos e).rings
  pub good : AreGood w.book

-- A book that lists some of the claims of another.
pub good_less : (old new : Book) (keep : ClaimValue → Bool) → new.claims ≡ filter keep old.claims → new.next_claim ≡ old.next_claim
    → ((c : ClaimValue) → keep c ≡ true → is_owned_by c.env (old.pages c.page) ≡ true → is_owned_by c.env (new.pages c.page) ≡ true) → AreGood old → AreGood new
good_less old new keep less next owned good = record {
  each = λ c its.
      let was = had c its in
      let before = good.each c was.1 in
      record {
        owned = owned c was.0 before.owned;
        below = subst (λ (n : ℕ). c.id < n) (sym next) before.below;
        only = ap (find (is_numbered c.id)) less ∙ still_found (is_numbered c.id) keep old.claims c was.0 before.only;
        rule = before.rule;
      };
  apart = λ c d its others. good.apart c d (had c its).1 (had d others).1;
}
  where
    had : (c : ClaimValue) → Has new.claims c → (keep c ≡ true) × Has old.claims c
    had c its = left_there keep old.claims c (subst (λ (claims : List ClaimValue). Has claims c) less its)

-- one that lists the same
pub good_same : (old new : Book) → new.claims ≡ old.claims → new.next_claim ≡ old.next_claim
    → ((c : ClaimValue) → is_owned_by c.env (old.pages c.page) ≡ true → is_owned_by c.env (new.pages c.page) ≡ true) → AreGood old → AreGood new
good_same old new same next owned good = record {
  each = λ c its.
      let before = good.each c (had c its) in
      record { owned = owned c before.owned; below = subst (λ (n : ℕ). c.id < n) (sym next) before.below; only = ap (find (is_numbered c.id)) same ∙ before.only; rule = before.rule };
  apart = λ c d its others. good.apart c d (had c its) (had d others);
}
  where
    had : (c : ClaimValue) → Has new.claims c → Has old.claims c
    had c its = subst (λ (claims : List ClaimValue). Has claims c) same its

-- and one that lists one more
module _ (b : Book) (c : ClaimValue) (owned : is_owned_by c.env (b.pages c.page) ≡ true) (next : c.id ≡ b.next_claim) (rule : is_filter c.filter ≡ true)
    (apart : (d : ClaimValue) → Has b.claims d → AreApart c d) (good : AreGood b) where
  other_number : (d : ClaimValue) → Has b.claims d → is_numbered c.id d ≡ false
  other_number d its = ne_eqb d.id c.id (λ same. absurd (omega (arith, (good.each d its).below, next, same)))

  more_apart : (x y : ClaimValue) → Has b.claims x ⊎ (c ≡ x) → Has b.claims y ⊎ (c ≡ y) → AreApart x y
  more_apart x y its others = grind (arith, common_steps)

  more_each : (x : ClaimValue) → Has b.claims x ⊎ (c ≡ x) → IsGood (book_with_claim b c) x
  more_each x (inl its) =
      let before = good.each x its in
      record { owned = before.owned; below = omega (arith, before.below); only = found_before (is_numbered x.id) b.claims c x before.only; rule = before.rule }
  more_each x (inr last) = grind (arith, common_steps, found_last, other_number, eq-eqb)

  pub good_more : AreGood (book_with_claim b c)
  good_more = record {
    each = λ x its. more_each x (had_or_last b.claims c x its);
    apart = λ x y its others. more_apart x y (had_or_last b.claims c x its) (had_or_last b.claims c y others);
  }

-- An environment loses some of its claims, of whose rings the same is true.
pub rings_less : (e : ℕ) (claims : List ClaimValue) (rings : List Ring) (stays : ClaimPage → Bool) (keep : ClaimValue → Bool) → ((c : ClaimValue) → is_of_env e c ≡ true → stays (claim_page c) ≡ keep c)
    → AreRings e claims rings → AreRings e (filter keep claims) (filter (λ (r : Ring). stays (ring_page r)) rings)
rings_less e claims rings stays keep same are =
    sym (filter_map ring_page stays rings)
    ∙ ap (filter stays) are
    ∙ filter_map claim_page stays (filter (is_of_env e) claims)
    ∙ ap (map claim_page) (filter_swap (λ (c : ClaimValue). stays (claim_page c)) (is_of_env e) claims ∙ filter_same (is_of_env e) (λ (c : ClaimValue). stays (claim_page c)) keep claims (λ c its own. same c own))

-- others lose claims, and it none
pub rings_spared : (e : ℕ) (claims : List ClaimValue) (rings : List Ring) (keep : ClaimValue → Bool) → ((c : ClaimValue) → Has claims c → is_of_env e c ≡ true → keep c ≡ true)
    → AreRings e claims rings → AreRings e (filter keep claims) rings
rings_spared e claims rings keep spared are = are ∙ ap (map claim_page) (sym (filter_spares (is_of_env e) keep claims spared))

-- it loses a page into which none of its claims goes
pub rings_beside : (e page : ℕ) (claims : List ClaimValue) (rings : List Ring) → ((c : ClaimValue) → Has claims c → is_of_env e c ≡ true → (c.page == page) ≡ false)
    → AreRings e claims rings → AreRings e claims (filter (λ (r : Ring). not (r.page == page)) rings)
rings_beside e page claims rings beside are =
    rings_less e claims rings (λ (p : ClaimPage). not (p.page == page)) (λ (c : ClaimValue). not (c.page == page)) (λ c own. refl) are
    ∙ ap (map claim_page) (filter_spares (is_of_env e) (λ (c : ClaimValue). not (c.page == page)) claims (λ c its own. ap not (beside c its own)))

-- it claims once more, or another does
pub rings_more : (claims : List ClaimValue) (rings : List Ring) (c : ClaimValue) (r : Ring) → ring_page r ≡ claim_page c → AreRings c.env claims rings → AreRings c.env (claims ++ c ∷ []) (rings ++ r ∷ [])
rings_more claims rings c r same are = grind (arith, common_steps, map-append, eq-eqb, filter-append)

pub rings_other : (e : ℕ) (claims : List ClaimValue) (rings : List Ring) (c : ClaimValue) → e ≢ c.env → AreRings e claims rings → AreRings e (claims ++ c ∷ []) rings
rings_other e claims rings c other are = grind (arith, common_steps, append-nil, ne_eqb, filter-append)

-- the next buffer of a ring is nothing that the book lists, nor is its handler
rings_same : (change : Ring → Ring) → ((r : Ring) → ring_page (change r) ≡ ring_page r) → (rings : List Ring) → map ring_page (map change rings) ≡ map ring_page rings
rings_same change same [] = refl
rings_same change same (r ∷ rings) = λ k. same r k ∷ rings_same change same rings k

pub rings_turned : (claim : ℕ) (rings : List Ring) → map ring_page (map (ring_after_packet_if claim) rings) ≡ map ring_page rings
rings_turned claim = grind (arith, rings_same)

pub rings_handled : (claim : ℕ) (handler : Option (List ℕ)) (rings : List Ring) → map ring_page (map (ring_with_handler_if claim handler) rings) ≡ map ring_page rings
rings_handled claim handler = grind (arith, rings_same)

-- Worlds that are alike are claimed alike.
pub claimed_alike : (w v : World) → IsAlike w v → Claimed w → Claimed v
claimed_alike w v alike claimed = grind (arith, common_steps, good_same)
