-- Claims that are found by their numbers.
use Rattle.std.proofs.Common.{◌≡◌, ℕ, zero, suc, ◌<◌, ◌≤◌, Bool, true, false, List, [], ◌∷◌, Some, None, length, set, refl, sym, ap, subst, ◌∙◌, arith}
use Rattle.std.specs.Prelude.{All, find, map, nat_le, nat_lt, if◌then◌else◌, slice_index_or}
use Rattle.std.specs.List.Sorted.{IsNonDecreasingBy}
use Rattle.std.proofs.lemmas.Grind.{common_steps}
use Rattle.std.proofs.lemmas.Bool.{and_parts, eqb-true, leb-true, ltb-false, ltb-true, ne_eqb}
use Rattle.std.proofs.lemmas.List.Kept.{AllPairs-cons}
use Rattle.filter_tree.specs.Keeping.{AreRising}
use Rattle.filter_tree.specs.ClaimBook.{RowValue, are_numbered, is_of_env}
use Rattle.filter_tree.specs.Claims.{is_claim, is_numbered}

abbrev pub numbered : ℕ → RowValue → Bool
numbered id r = is_numbered id r.claim

rising_tail : (x : RowValue) (rows : List RowValue) → AreRising (x ∷ rows) → AreRising rows
rising_tail x rows rise = λ i j d before within. rise (suc i) (suc j) d (omega (arith, before)) (omega (arith, within))

-- by rising number they are in order for a search
pub rising_ids : (rows : List RowValue) → AreRising rows → IsNonDecreasingBy (λ (r : RowValue). r.claim.id) rows
rising_ids rows rise i j d before within = grind (arith, common_steps, (rise i j d))

-- the claims of a book rise
all_from : (least end : ℕ) (rows : List RowValue) → are_numbered least end rows ≡ true → (k : ℕ) (d : RowValue) → k < length rows → least ≤ (slice_index_or rows k d).claim.id
all_from least end [] is k d within = absurd (omega (arith, within))
all_from least end (r ∷ rows) is zero d within = leb-true least r.claim.id (and_parts (nat_le least r.claim.id) (are_numbered (suc r.claim.id) end rows) is).0
all_from least end (r ∷ rows) is (suc k) d within = grind (arith, common_steps, (all_from (suc r.claim.id) end rows))

pub numbered_rising : (least end : ℕ) (rows : List RowValue) → are_numbered least end rows ≡ true → AreRising rows
numbered_rising least end [] is = λ i j d before within. absurd (omega (arith, within))
numbered_rising least end (r ∷ rows) is =
    let parts = and_parts (nat_le least r.claim.id) (are_numbered (suc r.claim.id) end rows) is in
    let later : All (λ (s : RowValue). r.claim.id < s.claim.id) rows = λ k d within. (let from = all_from (suc r.claim.id) end rows parts.1 k d within in omega (arith, from)) in
    AllPairs-cons (λ (s t : RowValue). s.claim.id < t.claim.id) r rows later (numbered_rising (suc r.claim.id) end rows parts.1)

-- behind a claim stands none of its number, nor of a lower one
none_behind : (id : ℕ) (x : RowValue) (rows : List RowValue) → AreRising (x ∷ rows) → id ≤ x.claim.id → find (numbered id) rows ≡ None
none_behind id x [] rise below = refl
none_behind id x (y ∷ rows) rise below =
    let next : x.claim.id < y.claim.id = rise 0 1 x (omega arith) (omega arith) in
    rw (ne_eqb y.claim.id id (λ e. absurd (omega (arith, e, below, next)))) (none_behind id y rows (rising_tail x (y ∷ rows) rise) (omega (arith, below, next)))

-- one of this number is the first
pub found_at : (id k : ℕ) (r d : RowValue) (rows : List RowValue) → AreRising rows → k < length rows → r ≡ slice_index_or rows k r → numbered id r ≡ true
    → find (numbered id) rows ≡ Some (slice_index_or rows k d)
found_at id k r d [] rise within is own = absurd (omega (arith, within))
found_at id zero r d (x ∷ rows) rise within is own = let here : numbered id x ≡ true = subst (λ (y : RowValue). numbered id y ≡ true) is own in rw here refl
found_at id (suc k) r d (x ∷ rows) rise within is own = grind (arith, common_steps, (rise 0 (suc k) r), (found_at id k r d rows (rising_tail x rows rise)))

-- where the search ends at another, there is none
pub none_at : (id n : ℕ) (rows : List RowValue) → AreRising rows → n ≤ length rows → ((k : ℕ) (d : RowValue) → k < n → nat_lt (slice_index_or rows k d).claim.id id ≡ true)
    → ((d : RowValue) → n < length rows → numbered id (slice_index_or rows n d) ≡ false)
    → ((k : ℕ) (d : RowValue) → n ≤ k → k < length rows → nat_lt (slice_index_or rows k d).claim.id id ≡ false) → find (numbered id) rows ≡ None
none_at id n [] rise within lower other upper = refl
none_at id zero (x ∷ rows) rise within lower other upper =
    let from = ltb-false x.claim.id id (upper 0 x (omega arith) (omega arith)) in
    rw (other x (omega arith)) (none_behind id x rows rise (omega (arith, from)))
none_at id (suc n) (x ∷ rows) rise within lower other upper =
    let below = ltb-true x.claim.id id (lower 0 x (omega arith)) in
    rw (ne_eqb x.claim.id id (λ e. absurd (omega (arith, e, below))))
    (none_at id n rows (rising_tail x rows rise) (omega (arith, within)) (λ k d less. lower (suc k) d (omega (arith, less)))
    (λ d less. other d (omega (arith, less))) (λ k d more less. upper (suc k) d (omega (arith, more)) (omega (arith, less))))

-- the claim of an environment and a number
pub held_none : (env id : ℕ) (rows : List RowValue) → find (numbered id) rows ≡ None → find (λ (r : RowValue). is_claim env id r.claim) rows ≡ None
held_none env id [] none = refl
held_none env id (x ∷ rows) none = grind (arith, common_steps, (held_none env id rows))

held_some : (env id : ℕ) (r : RowValue) (rows : List RowValue) → AreRising rows → find (numbered id) rows ≡ Some r
    → find (λ (s : RowValue). is_claim env id s.claim) rows ≡ (if is_of_env env r.claim then Some r else None)
held_some env id r [] rise found = cc
held_some env id r (x ∷ rows) rise found = grind (arith, common_steps, (held_none env id rows), (none_behind id x rows rise), (held_some env id r rows (rising_tail x rows rise)))

pub held_own : (env id : ℕ) (r : RowValue) (rows : List RowValue) → AreRising rows → find (numbered id) rows ≡ Some r → is_of_env env r.claim ≡ true
    → find (λ (s : RowValue). is_claim env id s.claim) rows ≡ Some r
held_own env id r rows rise found own = held_some env id r rows rise found ∙ rw own refl

pub held_other : (env id : ℕ) (r : RowValue) (rows : List RowValue) → AreRising rows → find (numbered id) rows ≡ Some r → is_of_env env r.claim ≡ false
    → find (λ (s : RowValue). is_claim env id s.claim) rows ≡ None
held_other env id r rows rise found other = held_some env id r rows rise found ∙ rw other refl

-- what changes the claim of a number changes it alone
pub passes_found : {X : Type 0} (p : X → Bool) (x : X) (xs : List X) → find p xs ≡ Some x → p x ≡ true
passes_found p x [] found = cc
passes_found p x (y ∷ xs) found = grind (arith, common_steps, (passes_found p x xs))

pub none_changes : (f : RowValue → RowValue) (id : ℕ) (rows : List RowValue) → find (numbered id) rows ≡ None → map (λ (r : RowValue). if numbered id r then f r else r) rows ≡ rows
none_changes f id [] none = refl
none_changes f id (x ∷ rows) none = grind (arith, common_steps, (none_changes f id rows))

changes_at : (f : RowValue → RowValue) (id k : ℕ) (d : RowValue) (rows : List RowValue) → AreRising rows → k < length rows → numbered id (slice_index_or rows k d) ≡ true
    → map (λ (r : RowValue). if numbered id r then f r else r) rows ≡ set rows k (f (slice_index_or rows k d))
changes_at f id k d [] rise within own = absurd (omega (arith, within))
changes_at f id zero d (x ∷ rows) rise within own =
    let its = eqb-true x.claim.id id own in
    rw own (ap (λ xs. f x ∷ xs) (none_changes f id rows (none_behind id x rows rise (omega (arith, its)))))
changes_at f id (suc k) d (x ∷ rows) rise within own =
    let below : x.claim.id < (slice_index_or rows k d).claim.id = rise 0 (suc k) d (omega arith) within in
    let its = eqb-true (slice_index_or rows k d).claim.id id own in
    rw (ne_eqb x.claim.id id (λ e. absurd (omega (arith, e, below, its)))) (ap (λ xs. x ∷ xs) (changes_at f id k d rows (rising_tail x rows rise) (omega (arith, within)) own))

pub one_changes : (f : RowValue → RowValue) (id k : ℕ) (d : RowValue) (rows : List RowValue) → AreRising rows → k < length rows → find (numbered id) rows ≡ Some (slice_index_or rows k d)
    → map (λ (r : RowValue). if numbered id r then f r else r) rows ≡ set rows k (f (slice_index_or rows k d))
one_changes f id k d rows rise within found = changes_at f id k d rows rise within (passes_found (numbered id) (slice_index_or rows k d) rows found)

-- what holds of the element at a place, whatever stands for one that isn't there
pub fails_at : {X : Type 0} (p : X → Bool) (n : ℕ) (d x : X) (xs : List X) → n < length xs → x ≡ slice_index_or xs n x → p x ≡ false → p (slice_index_or xs n d) ≡ false
fails_at p n d x [] within is fails = absurd (omega (arith, within))
fails_at p zero d x (y ∷ xs) within is fails = ap p (sym is) ∙ fails
fails_at p (suc n) d x (y ∷ xs) within is fails = fails_at p n d x xs (omega (arith, within)) is fails
