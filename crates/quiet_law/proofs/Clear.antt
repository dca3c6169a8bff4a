-- An environment that nothing in the book reaches.
use Rattle.std.proofs.Common.{◌≡◌, ◌≢◌, ℕ, zero, suc, List, [], ◌∷◌, ◌++◌, filter, Bool, true, false, Option, None, Some, refl, sym, ◌∙◌, ap, subst}
use Rattle.std.specs.Prelude.{◌==◌, if◌then◌else◌, find, length}
use Rattle.std.specs.List.{list_any}
use Rattle.std.proofs.lemmas.Bool.{cond_both, eq-eqb, ne_eqb, or_from, or_parts}
use Rattle.bind_book.specs.declared.binding.Binding.{Binding}
use Rattle.bind_book.specs.Stripe.{is_bound, row_of, without}
use Rattle.aegis_limits.specs.declared.version.Version.{Version}
use Rattle.page_book.specs.declared.row.PageRow.{PageRow}
use Rattle.page_book.specs.declared.row.PageRow.TheVariants.{Free, Owned}
use Rattle.page_book.specs.declared.row.Capabilities.{Capabilities}
use Rattle.page_book.specs.Row.{belongs_to, is_owned_by, released}
use Rattle.filter_tree.specs.ClaimBook.{ClaimValue, is_of_env}
use Rattle.revocation_book.specs.Takings.{is_victim, victims_below}
use Rattle.world_model.specs.Table.{set_at}
use Rattle.world_model.specs.Book.{Book, sees}
use Rattle.world_model.specs.Death.{lost_with}
use Rattle.world_model.specs.Item.{Item}
use Rattle.world_model.specs.LineCalls.{is_line_of, line_without}
use Rattle.world_model.specs.PageCalls.{left_at, left_by, left_if, lost_bindings, lost_if, revocations, without_number}
use Rattle.world_model.specs.Solo.{Key, Kept, Physical, Store}
use Rattle.page_laws.proofs.Sights.{unbound_page}

-- It owns no page but guaranteed ones, and has no binding, no claim and no line.
pub record IsClear (e : ℕ) (b : Book) : Type 0 where
  pub owned : (page : ℕ) → is_owned_by e (b.pages page) ≡ false
  pub bound : (row : ℕ) → b.binds e row ≡ None
  pub claims : list_any (is_of_env e) b.claims ≡ false
  pub lines : (line : ℕ) → is_line_of e (b.lines line) ≡ false

-- So it sees no page,
module _ (e : ℕ) (b : Book) (clear : IsClear e b) where
  pub not_bound : (page : ℕ) → is_bound page (b.binds e) ≡ false
  not_bound page = unbound_page (b.binds e) clear.bound page

  pub sees_not : (page : ℕ) → sees b e page ≡ false
  sees_not page = or_from (is_owned_by e (b.pages page)) (is_bound page (b.binds e)) (clear.owned page) (not_bound page)

  -- loses none,
  pub loses_none : (page : ℕ) → lost_bindings b page e ≡ []
  loses_none page = ap (λ (t : Bool). lost_if t page) (not_bound page)

  pub loses_none_with : (gone n : ℕ) → lost_with b gone e n ≡ []
  loses_none_with gone zero = refl
  loses_none_with gone (suc page) =
      cond_both (belongs_to gone (b.pages page)) (lost_bindings b page e) [] (λ (xs : List Item). lost_with b gone e page ++ xs ≡ [])
      (λ its. rw (loses_none_with gone page, loses_none page) refl) (λ other. rw (loses_none_with gone page) refl)

  -- and nothing is left to it.
  left_at_none : (writer : ℕ) (x : Store) (key : Key) → left_at b writer x key e ≡ []
  left_at_none writer x (Kept vpn) = refl
  left_at_none writer x (Physical page) =
      cond_both (e == writer) [] (left_if (sees b e page) page x) (λ (xs : List Item). xs ≡ []) (λ own. refl) (λ other. ap (λ (t : Bool). left_if t page x) (sees_not page))

  pub left_none : (writer : ℕ) (x : Store) → left_by b writer x e ≡ []
  left_none writer x = left_at_none writer x x.key

  -- No page may be taken from it.
  victims_none : (n : ℕ) → victims_below (revocations b) e n ≡ []
  victims_none zero = refl
  victims_none (suc page) =
      let none : is_victim (revocations b) e page ≡ false = rw (clear.owned page) refl in
      rw (victims_none page, none) refl

  pub nothing_revocable : length (victims_below (revocations b) e b.page_count) ≡ 0
  nothing_revocable = ap length (victims_none b.page_count)

  -- A claim that is found is another's.
  found_in : (p : ClaimValue → Bool) (claims : List ClaimValue) → list_any (is_of_env e) claims ≡ false → (c : ClaimValue) → find p claims ≡ Some c → (c.env == e) ≡ false
  found_in p [] none c is = cc
  found_in p (x ∷ claims) none c is =
      let parts = or_parts (is_of_env e x) (list_any (is_of_env e) claims) none in
      cond_both (p x) (Some x) (find p claims) (λ (o : Option ClaimValue). o ≡ Some c → (c.env == e) ≡ false)
      (λ fits its. let same : x ≡ c = cc in subst (λ (y : ClaimValue). (y.env == e) ≡ false) same parts.0) (λ other its. found_in p claims parts.1 c its) is

  pub found_other : (p : ClaimValue → Bool) (c : ClaimValue) → find p b.claims ≡ Some c → e ≢ c.env
  found_other p c is same = let clash : true ≡ false = sym (eq-eqb c.env e (sym same)) ∙ found_in p b.claims clear.claims c is in cc

-- What keeps each part. Another's row of a page:
pub set_owned : (e page : ℕ) (row : PageRow) (pages : ℕ → PageRow) → is_owned_by e row ≡ false → ((n : ℕ) → is_owned_by e (pages n) ≡ false) → (n : ℕ) → is_owned_by e (set_at page row pages n) ≡ false
set_owned e page row pages its others n = cond_both (n == page) row (pages n) (λ (r : PageRow). is_owned_by e r ≡ false) (λ same. its) (λ other. others n)

pub others_page : (e other : ℕ) (words : Capabilities) → e ≢ other → is_owned_by e (Owned other words) ≡ false
others_page e other words ne = ne_eqb other e (λ same. ne (sym same))

pub release_owned : (e gone : ℕ) (row : PageRow) → is_owned_by e row ≡ false → is_owned_by e (released gone row) ≡ false
release_owned e gone row was = cond_both (belongs_to gone row) Free row (λ (r : PageRow). is_owned_by e r ≡ false) (λ its. refl) (λ other. was)

-- bindings
pub broken_bound : (broken : Binding → Bool) (row : Option Binding) → row ≡ None → without broken row ≡ None
broken_bound broken row was = ap (without broken) was

pub unbind_bound : (v : Version) (vpn : ℕ) (stripe : ℕ → Option Binding) → ((row : ℕ) → stripe row ≡ None) → (row : ℕ) → without_number v vpn stripe row ≡ None
unbind_bound v vpn stripe was row = rw (was (row_of v vpn)) (was row)

pub set_other : {A : Type 0} (e other : ℕ) (x : A) (f : ℕ → A) → e ≢ other → set_at other x f e ≡ f e
set_other e other x f ne = ap (λ (t : Bool). if t then x else f e) (ne_eqb e other ne)

-- claims
pub fewer_claims : (e : ℕ) (stays : ClaimValue → Bool) (claims : List ClaimValue) → list_any (is_of_env e) claims ≡ false → list_any (is_of_env e) (filter stays claims) ≡ false
fewer_claims e stays [] none = refl
fewer_claims e stays (x ∷ claims) none =
    let parts = or_parts (is_of_env e x) (list_any (is_of_env e) claims) none in
    cond_both (stays x) (x ∷ filter stays claims) (filter stays claims) (λ (cs : List ClaimValue). list_any (is_of_env e) cs ≡ false)
    (λ stay. or_from (is_of_env e x) (list_any (is_of_env e) (filter stays claims)) parts.0 (fewer_claims e stays claims parts.1)) (λ gone. fewer_claims e stays claims parts.1)

pub claim_more : (e : ℕ) (claims : List ClaimValue) (c : ClaimValue) → list_any (is_of_env e) claims ≡ false → (c.env == e) ≡ false → list_any (is_of_env e) (claims ++ c ∷ []) ≡ false
claim_more e [] c none other = or_from (c.env == e) false other refl
claim_more e (x ∷ claims) c none other =
    let parts = or_parts (is_of_env e x) (list_any (is_of_env e) claims) none in
    or_from (is_of_env e x) (list_any (is_of_env e) (claims ++ c ∷ [])) parts.0 (claim_more e claims c parts.1 other)

-- and lines.
pub set_line : (e line : ℕ) (owner : Option ℕ) (lines : ℕ → Option ℕ) → is_line_of e owner ≡ false → ((n : ℕ) → is_line_of e (lines n) ≡ false) → (n : ℕ) → is_line_of e (set_at line owner lines n) ≡ false
set_line e line owner lines its others n = cond_both (n == line) owner (lines n) (λ (o : Option ℕ). is_line_of e o ≡ false) (λ same. its) (λ other. others n)

pub release_line : (e gone : ℕ) (owner : Option ℕ) → is_line_of e owner ≡ false → is_line_of e (line_without gone owner) ≡ false
release_line e gone owner was = cond_both (is_line_of gone owner) None owner (λ (o : Option ℕ). is_line_of e o ≡ false) (λ its. refl) (λ other. was)
