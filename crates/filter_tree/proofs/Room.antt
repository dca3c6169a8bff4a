-- Room for claims.
use Rattle.std.proofs.Common.{◌≡◌, ℕ, zero, suc, ◌+◌, ◌*◌, ◌<◌, ◌≤◌, Bool, true, false, cond, not, List, [], ◌∷◌, ◌++◌, length, Option, Some, None, refl, sym, ap, subst, ◌∙◌, arith, inl, inr}
use Rattle.std.proofs.lemmas.Grind.{common_steps}
use Rattle.std.proofs.lemmas.Bool.{cases_eq, eq-eqb, ne_eqb}
use Rattle.std.proofs.lemmas.List.Elements.{All-filter, All-from_recursion, All-push, recursion_from_All}
use Rattle.std.proofs.lemmas.List.Sums.{sum_by-cons, sum_by_push}
use Rattle.std.specs.List.{AllByRecursion, list_any}
use Rattle.std.specs.Prelude.{filter, find, map, count_by}
use Rattle.std.specs.Option.{option_map}
use Rattle.filter_core.specs.declared.atom.Atom.{Atom}
use Rattle.filter_tree.specs.Keeping.{IsKept, row_refusal}
use Rattle.filter_tree.specs.ClaimBook.{ClaimBook, ClaimValue, RowValue, claim_in, claims_in, is_of_env, most_claims}
use Rattle.filter_tree.specs.Claims.{claim_refusal, delivered, downloaded, row_with_handler_if, new_row, row_after_packet_if, with_claim, without}
use Rattle.filter_tree.proofs.Numbers.{numbered_filter, numbered_more, numbered_same, same_claim, still_claim}

pub all_kept : {X : Type 0} (P : X → Type 0) (t : X → Bool) (xs : List X) → AllByRecursion P xs → AllByRecursion P (filter t xs)
all_kept P t xs all = recursion_from_All P (filter t xs) (All-filter t P xs (All-from_recursion P xs all))

all_and_one : {X : Type 0} (P : X → Type 0) (xs : List X) (x : X) → AllByRecursion P xs → P x → AllByRecursion P (xs ++ x ∷ [])
all_and_one P xs x are is = recursion_from_All P (xs ++ x ∷ []) (All-push P xs x (All-from_recursion P xs are) is)

-- how many, one more element at the front
pub counted : {X : Type 0} (p : X → Bool) (x : X) (xs : List X) → count_by p (x ∷ xs) ≡ cond (p x) 1 0 + count_by p xs
counted {X} p x xs = sum_by-cons (λ (y : X). cond (p y) 1 0) x xs

one_if : {b : Bool} → b ≡ true → cond {A = ℕ} b 1 0 ≡ 1
one_if is = rw is refl

none_if : {b : Bool} → b ≡ false → cond {A = ℕ} b 1 0 ≡ 0
none_if is = rw is refl

-- or at the end
pub counted_last : {X : Type 0} (p : X → Bool) (xs : List X) (x : X) → count_by p (xs ++ x ∷ []) ≡ count_by p xs + cond (p x) 1 0
counted_last {X} p xs x = sum_by_push (λ (y : X). cond (p y) 1 0) xs x

fewer : {X : Type 0} (p t : X → Bool) (xs : List X) → count_by p (filter t xs) ≤ count_by p xs
fewer p t [] = omega arith
fewer p t (x ∷ xs) = grind (arith, common_steps, (counted p x), (fewer p t xs))

-- whose a claim is that stands
abbrev of : ℕ → RowValue → Bool
of e r = is_of_env e r.claim

-- without some claims there is room too
pub room_without : (gone : ClaimValue → Bool) (book : ClaimBook) (room : ℕ) → IsKept book room → IsKept (without gone book) room
room_without gone book room has = record {
  few = λ e. omega (arith, fewer (of e) (λ (r : RowValue). not (gone r.claim)) book.rows, has.few e);
  of_envs = all_kept (λ (r : RowValue). r.claim.env < book.envs) (λ (r : RowValue). not (gone r.claim)) book.rows has.of_envs;
  numbered = numbered_filter (λ (r : RowValue). not (gone r.claim)) 0 book.next book.rows has.numbered;
  enough = has.enough;
}

-- the claims of the first so many environments
abbrev total : ℕ → List RowValue → ℕ
total zero claims = 0
total (suc n) claims = total n claims + count_by (of n) claims

total_none : (n : ℕ) → total n [] ≡ 0
total_none zero = refl
total_none (suc n) = omega (arith, total_none n)

total_other : (n : ℕ) (c : RowValue) (claims : List RowValue) → n ≤ c.claim.env → total n (c ∷ claims) ≡ total n claims
total_other zero c claims past = refl
total_other (suc n) c claims past = grind (arith, common_steps, (counted (of n) c claims), (total_other n c claims))

total_one : (n : ℕ) (c : RowValue) (claims : List RowValue) → c.claim.env < n → total n (c ∷ claims) ≡ total n claims + 1
total_one zero c claims below = absurd (omega arith)
total_one (suc n) c claims below = grind (arith, common_steps, (counted (of n) c claims), (total_other n c claims), (total_one n c claims))

-- all claims are those of all environments
all_total : (n : ℕ) (claims : List RowValue) → AllByRecursion (λ (c : RowValue). c.claim.env < n) claims → total n claims ≡ length claims
all_total n [] are = total_none n
all_total n (c ∷ claims) are = omega (arith, total_one n c claims are.0, all_total n claims are.1)

-- each environment has eight at most, and one has fewer
total_few : (n : ℕ) (claims : List RowValue) → ((e : ℕ) → count_by (of e) claims ≤ most_claims) → total n claims ≤ n * most_claims
total_few zero claims few = omega arith
total_few (suc n) claims few = omega (arith, few n, total_few n claims few)

total_fewer : (n e : ℕ) (claims : List RowValue) → ((i : ℕ) → count_by (of i) claims ≤ most_claims) → e < n → count_by (of e) claims < most_claims → total n claims < n * most_claims
total_fewer zero e claims few below one = absurd (omega arith)
total_fewer (suc n) e claims few below one =
    elim (cases_eq e n) [
      | inl last ↦ omega (arith, rw last at one, total_few n claims few)
      | inr other ↦ omega (arith, few n, total_fewer n e claims few (omega (arith, other)) one)
    ]

-- there is room for a claim of an environment that has fewer than eight
pub has_room : (book : ClaimBook) (room e : ℕ) → IsKept book room → e < book.envs → count_by (of e) book.rows < most_claims → length book.rows < room
has_room book room e has below one =
    omega (arith, all_total book.envs book.rows has.of_envs, total_fewer book.envs e book.rows has.few below one, has.enough)

-- and for the next one after it
pub room_with : (book : ClaimBook) (room more e : ℕ) (atoms : List Atom) (page : ℕ) → IsKept book room → room ≤ more → e < book.envs → count_by (of e) book.rows < most_claims
    → IsKept (with_claim book e atoms page) more
room_with book room more e atoms page has grown below one = record {
  few = λ i.
      let c : RowValue = new_row book e atoms page in
      elim (cases_eq e i) [
        | inl same ↦ omega (arith, counted_last (of i) book.rows c, one_if (eq-eqb e i same), rw same at one)
        | inr other ↦ omega (arith, counted_last (of i) book.rows c, none_if (ne_eqb e i other), has.few i)
      ];
  of_envs = all_and_one (λ (c : RowValue). c.claim.env < book.envs) book.rows _ has.of_envs below;
  numbered = numbered_more 0 book.next book.rows (new_row book e atoms page) refl has.numbered;
  enough = omega (arith, has.enough);
}

-- how many of some claims, with their buffers or without
counted_in_rows : (p : ClaimValue → Bool) (rows : List RowValue) → count_by p (map claim_in rows) ≡ count_by (λ (r : RowValue). p r.claim) rows
counted_in_rows p [] = refl
counted_in_rows p (r ∷ rows) =
    counted p r.claim (map claim_in rows) ∙ ap (λ (n : ℕ). cond (p r.claim) 1 0 + n) (counted_in_rows p rows) ∙ sym (counted (λ (x : RowValue). p x.claim) r rows)

-- a filter that isn't refused is of an environment that has fewer than eight
pub has_fewer : (book : ClaimBook) (e : ℕ) (atoms : List Atom) → None ≡ claim_refusal (claims_in book) e atoms → count_by (λ (r : RowValue). is_of_env e r.claim) book.rows < most_claims
has_fewer book e atoms none = grind (arith, common_steps, counted_in_rows)

-- where claims stay there is room as before
same_count : (f : RowValue → RowValue) → ((r : RowValue) → (f r).claim ≡ r.claim) → (e : ℕ) (rows : List RowValue) → count_by (of e) (map f rows) ≡ count_by (of e) rows
same_count f same e [] = refl
same_count f same e (r ∷ rows) = grind (arith, common_steps, counted, (same r), (same_count f same e rows))

same_envs : (f : RowValue → RowValue) → ((r : RowValue) → (f r).claim ≡ r.claim) → (envs : ℕ) (rows : List RowValue) → AllByRecursion (λ (r : RowValue). r.claim.env < envs) rows
    → AllByRecursion (λ (r : RowValue). r.claim.env < envs) (map f rows)
same_envs f same envs [] are = tt
same_envs f same envs (r ∷ rows) are = (subst (λ (c : ClaimValue). c.env < envs) (sym (same r)) are.0, same_envs f same envs rows are.1)

room_same : (f : RowValue → RowValue) → ((r : RowValue) → (f r).claim ≡ r.claim) → (book : ClaimBook) (room : ℕ) → IsKept book room → IsKept (record book { rows = map f book.rows }) room
room_same f same book room has = record {
  few = λ e. omega (arith, same_count f same e book.rows, has.few e);
  of_envs = same_envs f same book.envs book.rows has.of_envs;
  numbered = numbered_same f same 0 book.next book.rows has.numbered;
  enough = has.enough;
}

pub room_turned : (id : ℕ) (book : ClaimBook) (room : ℕ) → IsKept book room → IsKept (delivered id book) room
room_turned id = room_same (row_after_packet_if id) (same_claim id)

pub room_handled : (id : ℕ) (handler : Option (List ℕ)) (book : ClaimBook) (room : ℕ) → IsKept book room → IsKept (downloaded id handler book) room
room_handled id handler = room_same (row_with_handler_if id handler) (still_claim id handler)

-- the claims as lists of one kind or the other
found_in_rows : (p : ClaimValue → Bool) (rows : List RowValue) → find p (map claim_in rows) ≡ option_map claim_in (find (λ (r : RowValue). p r.claim) rows)
found_in_rows p [] = refl
found_in_rows p (r ∷ rows) = grind (arith, common_steps, (found_in_rows p rows))

number_of : {A : Type 0} (f : ClaimValue → A) (o : Option RowValue) → option_map f (option_map claim_in o) ≡ option_map (λ (r : RowValue). f r.claim) o
number_of f None = refl
number_of f (Some r) = refl

-- why a filter is refused, by the rows
pub refused_by_rows : (e : ℕ) (atoms : List Atom) (rows : List RowValue) → claim_refusal (map claim_in rows) e atoms ≡ row_refusal rows e atoms
refused_by_rows e atoms rows = grind (arith, common_steps, counted_in_rows, found_in_rows, number_of)

-- where none of some claims goes, all stay
pub none_goes : {X : Type 0} (p : X → Bool) (xs : List X) → list_any p xs ≡ false → filter (λ x. not (p x)) xs ≡ xs
none_goes p [] none = refl
none_goes p (x ∷ xs) none = grind (arith, common_steps, (none_goes p xs))

pub same_without : (gone : ClaimValue → Bool) (book : ClaimBook) → list_any (λ (r : RowValue). gone r.claim) book.rows ≡ false → book ≡ without gone book
same_without gone book none = ap (λ (rows : List RowValue). record book { rows = rows }) (sym (none_goes (λ (r : RowValue). gone r.claim) book.rows none))
