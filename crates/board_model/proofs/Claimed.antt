-- The claims that stand, as their environments have them.
use Rattle.std.proofs.Common.{◌≡◌, ◌≢◌, ℕ, List, [], ◌∷◌, ◌++◌, Bool, true, false, Option, Some, None, refl, sym, ◌∙◌, ap, inl, inr, rules, arith}
use Rattle.std.specs.Prelude.{◌==◌, ◌&&◌, not, if◌then◌else◌, filter, find, map, is_some}
use Rattle.std.specs.Option.{option_map}
use Rattle.std.specs.List.{list_all}
use Rattle.std.proofs.lemmas.Bool.{and_parts, and_right, cases_Bool, eq-eqb, eqb-true, ne_eqb}
use Rattle.std.proofs.lemmas.List.{map-append}
use Rattle.std.proofs.lemmas.List.Elements.{filter-append}
use Rattle.std.proofs.lemmas.Grind.{common_steps}
use Rattle.filter_core.specs.declared.atom.Atom.{Atom}
use Rattle.filter_tree.specs.ClaimBook.{ClaimBook, ClaimValue, RowValue, are_numbered, claim_in, claims_in, is_of_env}
use Rattle.filter_tree.specs.Claims as book
use Rattle.filter_tree.specs.Claims.{claim_held, delivered, downloaded, first_row, is_claim, is_into, is_numbered, new_row, with_claim, without}
use Rattle.filter_tree.specs.Laws.{FirstIsNumbered}
use Rattle.page_book.specs.declared.row.PageRow.{PageRow}
use Rattle.page_book.specs.Row.{is_owned_by}
use Rattle.page_book.specs.Rows.{row_in}
use Rattle.packet_ring.specs.declared.buffer.Buffer.TheVariants.{First}
use Rattle.world_model.specs.Rings as ring
use Rattle.world_model.specs.Rings.{is_ring, ring_of}
use Rattle.world_model.specs.Solo.{Ring}
use Rattle.board_model.specs.Rings.{ring_in, rings_of}
use Rattle.board_model.specs.Sound.{has_own_page}
use Rattle.board_model.proofs.Losing.{rings_but}

-- whose a claim is that stands
abbrev of : ℕ → RowValue → Bool
of e r = is_of_env e r.claim

-- the claims of an environment among some
abbrev its_rings : ℕ → List RowValue → List Ring
its_rings e rows = map ring_in (filter (of e) rows)

-- without some claims, an environment is without those of its own
sifted : (e : ℕ) (gone : ClaimValue → Bool) (test : Ring → Bool) → ((r : RowValue) → of e r ≡ true → gone r.claim ≡ test (ring_in r)) → (rows : List RowValue)
    → its_rings e (filter (λ (r : RowValue). not (gone r.claim)) rows) ≡ filter (λ (g : Ring). not (test g)) (its_rings e rows)
sifted e gone test same [] = refl
sifted e gone test same (r ∷ rows) = search (rules, (sifted e gone test same rows))

-- where none of its own goes it has what it had
nothing_sifted : (e : ℕ) (gone : ClaimValue → Bool) → ((r : RowValue) → of e r ≡ true → gone r.claim ≡ false) → (rows : List RowValue) → its_rings e (filter (λ (r : RowValue). not (gone r.claim)) rows) ≡ its_rings e rows
nothing_sifted e gone stays [] = refl
nothing_sifted e gone stays (r ∷ rows) = search (rules, (nothing_sifted e gone stays rows))

-- and where all of them go it has none
all_sifted : (e : ℕ) (rows : List RowValue) → its_rings e (filter (λ (r : RowValue). not (of e r)) rows) ≡ []
all_sifted e [] = refl
all_sifted e (r ∷ rows) = search (rules, cases_Bool, (all_sifted e rows))

-- a page is no ring any more
pub rings_dropped : (claims : ClaimBook) (page e : ℕ) → rings_of (without (is_into page) claims) e ≡ rings_but page (rings_of claims e)
rings_dropped claims page e = sifted e (is_into page) (λ (g : Ring). g.page == page) (λ r its. refl) claims.rows

-- a claim is withdrawn
pub rings_unclaimed : (claims : ClaimBook) (e claim : ℕ) → rings_of (without (is_claim e claim) claims) e ≡ filter (λ (g : Ring). not (is_ring claim g)) (rings_of claims e)
rings_unclaimed claims e claim = sifted e (is_claim e claim) (is_ring claim) (λ r its. its_own (is_numbered claim r.claim) (of e r) its) claims.rows
  where
    its_own : (a b : Bool) → b ≡ true → (a && b) ≡ a
    its_own true b is = is
    its_own false b is = refl

-- the claims of one aren't another's
not_both : (i e : ℕ) (c : ClaimValue) → i ≢ e → is_of_env i c ≡ true → is_of_env e c ≡ false
not_both i e c ne its = ne_eqb c.env e (λ same. ne (sym (eqb-true c.env i its) ∙ same))

pub rings_unclaimed_else : (claims : ClaimBook) (e claim i : ℕ) → i ≢ e → rings_of (without (is_claim e claim) claims) i ≡ rings_of claims i
rings_unclaimed_else claims e claim i ne = nothing_sifted i (is_claim e claim) (λ r its. and_right (is_numbered claim r.claim) (of e r) (not_both i e r.claim ne its)) claims.rows

-- an environment is gone
pub rings_gone : (claims : ClaimBook) (e : ℕ) → rings_of (without (is_of_env e) claims) e ≡ []
rings_gone claims e = all_sifted e claims.rows

pub rings_gone_else : (claims : ClaimBook) (e i : ℕ) → i ≢ e → rings_of (without (is_of_env e) claims) i ≡ rings_of claims i
rings_gone_else claims e i ne = nothing_sifted i (is_of_env e) (λ r its. not_both i e r.claim ne its) claims.rows

-- the claims alone, without some
pub claims_without : (gone : ClaimValue → Bool) (claims : ClaimBook) → claims_in (without gone claims) ≡ filter (λ (c : ClaimValue). not (gone c)) (claims_in claims)
claims_without gone claims = by_rows claims.rows
  where
    by_rows : (rows : List RowValue) → map claim_in (filter (λ (r : RowValue). not (gone r.claim)) rows) ≡ filter (λ (c : ClaimValue). not (gone c)) (map claim_in rows)
    by_rows [] = refl
    by_rows (r ∷ rows) =
        elim (cases_Bool (gone r.claim)) [
          | inl goes ↦ rw goes (by_rows rows)
          | inr stays ↦ rw stays (ap (λ cs. r.claim ∷ cs) (by_rows rows))
        ]

-- with one more
pub claims_more : (claims : ClaimBook) (e : ℕ) (atoms : List Atom) (page : ℕ) → claims_in (with_claim claims e atoms page) ≡ claims_in claims ++ record { id = claims.next; env = e; filter = atoms; page = page } ∷ []
claims_more claims e atoms page = map-append claim_in claims.rows (new_row claims e atoms page ∷ [])

-- one claim more
more_rows : (e : ℕ) (rows : List RowValue) (r : RowValue) → its_rings e (rows ++ r ∷ []) ≡ its_rings e rows ++ its_rings e (r ∷ [])
more_rows e rows r = ap (map ring_in) (filter-append (of e) rows (r ∷ [])) ∙ map-append ring_in (filter (of e) rows) (filter (of e) (r ∷ []))

pub rings_claimed : (claims : ClaimBook) (e : ℕ) (atoms : List Atom) (page : ℕ) → rings_of (with_claim claims e atoms page) e ≡ rings_of claims e ++ record { claim = claims.next; page = page; next = First; handler = None } ∷ []
rings_claimed claims e atoms page = grind (arith, common_steps, more_rows, eq-eqb)

pub rings_claimed_else : (claims : ClaimBook) (e : ℕ) (atoms : List Atom) (page i : ℕ) → i ≢ e → rings_of (with_claim claims e atoms page) i ≡ rings_of claims i
rings_claimed_else claims e atoms page i ne = grind (arith, common_steps, more_rows, ne_eqb)

-- Where the row of one number gets another buffer or another handler, its claim stays, and so does its ring.
module _ (id : ℕ) (f : RowValue → RowValue) (g : Ring → Ring) (same : (r : RowValue) → (f r).claim ≡ r.claim) (shows : (r : RowValue) → ring_in (f r) ≡ g (ring_in r)) where
  abbrev row : RowValue → RowValue
  row r = if is_numbered id r.claim then f r else r

  abbrev its : Ring → Ring
  its h = if is_ring id h then g h else h

  same_claim : (r : RowValue) → (row r).claim ≡ r.claim
  same_claim r = search rules

  -- which the claims alone don't show
  same_claims : (rows : List RowValue) → map claim_in (map row rows) ≡ map claim_in rows
  same_claims [] = refl
  same_claims (r ∷ rows) = λ k. same_claim r k ∷ same_claims rows k

  rows_rings : (e : ℕ) (rows : List RowValue) → its_rings e (map row rows) ≡ map its (its_rings e rows)
  rows_rings e [] = refl
  rows_rings e (r ∷ rows) = search (rules, cases_Bool, (rows_rings e rows))

  -- who has no claim of this number has what it had
  none_changed : (i : ℕ) (rows : List RowValue) → find (λ (r : RowValue). is_claim i id r.claim) rows ≡ None → map its (its_rings i rows) ≡ its_rings i rows
  none_changed i [] none = refl
  none_changed i (r ∷ rows) none = search (rules, (none_changed i rows))

-- the buffers of a claim take turns
pub claims_turned : (claims : ClaimBook) (id : ℕ) → claims_in (delivered id claims) ≡ claims_in claims
claims_turned claims id = same_claims id book.row_after_packet ring.ring_after_packet (λ r. refl) (λ r. refl) claims.rows

pub rings_turned : (claims : ClaimBook) (id e : ℕ) → rings_of (delivered id claims) e ≡ map (ring.ring_after_packet_if id) (rings_of claims e)
rings_turned claims id e = rows_rings id book.row_after_packet ring.ring_after_packet (λ r. refl) (λ r. refl) e claims.rows

-- a claim has another handler
pub claims_downloaded : (claims : ClaimBook) (id : ℕ) (handler : Option (List ℕ)) → claims_in (downloaded id handler claims) ≡ claims_in claims
claims_downloaded claims id handler = same_claims id (book.row_with_handler handler) (ring.ring_with_handler handler) (λ r. refl) (λ r. refl) claims.rows

pub rings_downloaded : (claims : ClaimBook) (id e : ℕ) (handler : Option (List ℕ)) → rings_of (downloaded id handler claims) e ≡ map (ring.ring_with_handler_if id handler) (rings_of claims e)
rings_downloaded claims id e handler = rows_rings id (book.row_with_handler handler) (ring.ring_with_handler handler) (λ r. refl) (λ r. refl) e claims.rows

-- an environment has a claim exactly where the book has it
pub ring_held : (claims : ClaimBook) (e id : ℕ) → is_some (ring_of (rings_of claims e) id) ≡ is_some (claim_held claims e id)
ring_held claims e id = by_rows claims.rows
  where
    by_row : (x : RowValue) (rows : List RowValue) (same its : Bool) → is_numbered id x.claim ≡ same → of e x ≡ its
        → is_some (ring_of (its_rings e rows) id) ≡ is_some (option_map book.claim_seen (find (λ (r : RowValue). is_claim e id r.claim) rows))
        → is_some (ring_of (its_rings e (x ∷ rows)) id) ≡ is_some (option_map book.claim_seen (find (λ (r : RowValue). is_claim e id r.claim) (x ∷ rows)))
    by_row x rows true true same its rest = rw (its, same) refl
    by_row x rows true false same its rest = rw (its, same) rest
    by_row x rows false true same its rest = rw (its, same) rest
    by_row x rows false false same its rest = rw (its, same) rest

    by_rows : (rows : List RowValue) → is_some (ring_of (its_rings e rows) id) ≡ is_some (option_map book.claim_seen (find (λ (r : RowValue). is_claim e id r.claim) rows))
    by_rows [] = refl
    by_rows (x ∷ rows) = by_row x rows (is_numbered id x.claim) (of e x) refl refl (by_rows rows)

-- what is found passes the test
found_is : (test : ClaimValue → Bool) (rows : List RowValue) (x : RowValue) → find (λ (y : RowValue). test y.claim) rows ≡ Some x → test x.claim ≡ true
found_is test [] x is = cc
found_is test (y ∷ rows) x is =
    elim (cases_Bool (test y.claim)) [
      | inl here ↦ let same : y ≡ x = cc (rw here at is) in ap (λ (z : RowValue). test z.claim) (sym same) ∙ here
      | inr other ↦ found_is test rows x (rw other at is)
    ]

-- and the claim of a number is its environment's alone
no_other : FirstIsNumbered → (claims : ClaimBook) (r : RowValue) (i : ℕ) → are_numbered 0 claims.next claims.rows ≡ true → first_row (is_numbered r.claim.id) claims ≡ Some r → i ≢ r.claim.env
    → first_row (is_claim i r.claim.id) claims ≡ None
no_other law claims r i numbered first ne = by_found (first_row (is_claim i r.claim.id) claims) refl
  where
    by_found : (o : Option RowValue) → first_row (is_claim i r.claim.id) claims ≡ o → o ≡ None
    by_found None is = refl
    by_found (Some x) is =
        let parts = and_parts (is_numbered r.claim.id x.claim) (of i x) (found_is (is_claim i r.claim.id) claims.rows x is) in
        let same_id : x.claim.id ≡ r.claim.id = eqb-true x.claim.id r.claim.id parts.0 in
        let again = law claims (is_claim i r.claim.id) x numbered is in
        let same : Some x ≡ Some r = sym again ∙ ap (λ (n : ℕ). first_row (is_numbered n) claims) same_id ∙ first in
        let row : x ≡ r = cc in
        absurd (ne (sym (eqb-true x.claim.env i parts.1) ∙ ap (λ (y : RowValue). y.claim.env) row))

pub rings_turned_else : FirstIsNumbered → (claims : ClaimBook) (r : RowValue) (i : ℕ) → are_numbered 0 claims.next claims.rows ≡ true → first_row (is_numbered r.claim.id) claims ≡ Some r → i ≢ r.claim.env
    → rings_of (delivered r.claim.id claims) i ≡ rings_of claims i
rings_turned_else law claims r i numbered first ne =
    rings_turned claims r.claim.id i
    ∙ none_changed r.claim.id book.row_after_packet ring.ring_after_packet (λ r. refl) (λ r. refl) i claims.rows (no_other law claims r i numbered first ne)

pub rings_downloaded_else : FirstIsNumbered → (claims : ClaimBook) (e id i : ℕ) (handler : Option (List ℕ)) → are_numbered 0 claims.next claims.rows ≡ true → is_some (ring_of (rings_of claims e) id) ≡ true → i ≢ e
    → rings_of (downloaded id handler claims) i ≡ rings_of claims i
rings_downloaded_else law claims e id i handler numbered own ne =
    rings_downloaded claims id i handler
    ∙ none_changed id (book.row_with_handler handler) (ring.ring_with_handler handler) (λ r. refl) (λ r. refl) i claims.rows (by_found (first_row (is_claim e id) claims) refl (sym (ring_held claims e id) ∙ own))
  where
    by_found : (o : Option RowValue) → first_row (is_claim e id) claims ≡ o → is_some (option_map book.claim_seen (first_row (is_claim e id) claims)) ≡ true → first_row (is_claim i id) claims ≡ None
    by_found None is some = let none : false ≡ true = ap (λ (o : Option RowValue). is_some (option_map book.claim_seen o)) (sym is) ∙ some in cc
    by_found (Some r) is some =
        let parts = and_parts (is_numbered id r.claim) (of e r) (found_is (is_claim e id) claims.rows r is) in
        let same_id : r.claim.id ≡ id = eqb-true r.claim.id id parts.0 in
        let env : r.claim.env ≡ e = eqb-true r.claim.env e parts.1 in
        ap (λ (n : ℕ). first_row (is_claim i n) claims) (sym same_id)
        ∙ no_other law claims r i numbered (law claims (is_claim e id) r numbered is) (λ same. ne (same ∙ env))

-- the claims alone, searched
pub found_without : (test : ClaimValue → Bool) (claims : ClaimBook) → find test (claims_in claims) ≡ option_map claim_in (first_row test claims)
found_without test claims = by_rows claims.rows
  where
    by_rows : (rows : List RowValue) → find test (map claim_in rows) ≡ option_map claim_in (find (λ (r : RowValue). test r.claim) rows)
    by_rows [] = refl
    by_rows (r ∷ rows) =
        elim (cases_Bool (test r.claim)) [
          | inl here ↦ rw here refl
          | inr other ↦ rw other (by_rows rows)
        ]

-- the ring of a claim
pub ring_found : (claims : ClaimBook) (r : RowValue) → first_row (is_numbered r.claim.id) claims ≡ Some r → ring_of (rings_of claims r.claim.env) r.claim.id ≡ Some (ring_in r)
ring_found claims r first = by_rows claims.rows first
  where
    own : of r.claim.env r ≡ true
    own = eq-eqb r.claim.env r.claim.env refl

    by_row : (x : RowValue) (rows : List RowValue) (same its : Bool) → is_numbered r.claim.id x.claim ≡ same → of r.claim.env x ≡ its
        → (find (λ (x : RowValue). is_numbered r.claim.id x.claim) rows ≡ Some r → ring_of (its_rings r.claim.env rows) r.claim.id ≡ Some (ring_in r))
        → find (λ (x : RowValue). is_numbered r.claim.id x.claim) (x ∷ rows) ≡ Some r → ring_of (its_rings r.claim.env (x ∷ rows)) r.claim.id ≡ Some (ring_in r)
    by_row x rows true true same its rest is = let here : x ≡ r = cc (rw same at is) in rw (its, same) (ap (λ (y : RowValue). Some (ring_in y)) here)
    by_row x rows true false same its rest is =
        let here : x ≡ r = cc (rw same at is) in
        let both : true ≡ false = sym own ∙ ap (of r.claim.env) (sym here) ∙ its in cc
    by_row x rows false true same its rest is = rw (its, same) (rest (rw same at is))
    by_row x rows false false same its rest is = rw its (rest (rw same at is))

    by_rows : (rows : List RowValue) → find (λ (x : RowValue). is_numbered r.claim.id x.claim) rows ≡ Some r → ring_of (its_rings r.claim.env rows) r.claim.id ≡ Some (ring_in r)
    by_rows [] is = cc
    by_rows (x ∷ rows) is = by_row x rows (is_numbered r.claim.id x.claim) (of r.claim.env x) refl refl (by_rows rows) is

-- a claim that is found goes into a page of its environment's own
pub found_owned : (pages : List PageRow) (test : ClaimValue → Bool) (rows : List RowValue) (r : RowValue) → list_all (λ (x : RowValue). has_own_page pages x.claim) rows ≡ true → find (λ (x : RowValue). test x.claim) rows ≡ Some r → has_own_page pages r.claim ≡ true
found_owned pages test [] r all is = cc
found_owned pages test (x ∷ rows) r all is =
    let parts = and_parts (has_own_page pages x.claim) (list_all (λ (y : RowValue). has_own_page pages y.claim) rows) all in
    elim (cases_Bool (test x.claim)) [
      | inl here ↦ let same : x ≡ r = cc (rw here at is) in ap (λ (y : RowValue). has_own_page pages y.claim) (sym same) ∙ parts.0
      | inr other ↦ found_owned pages test rows r parts.1 (rw other at is)
    ]

-- a page that an environment doesn't own is no ring of its own
pub no_ring : (claims : ClaimBook) (pages : List PageRow) (i page : ℕ) → list_all (λ (x : RowValue). has_own_page pages x.claim) claims.rows ≡ true → is_owned_by i (row_in pages page) ≡ false → rings_but page (rings_of claims i) ≡ rings_of claims i
no_ring claims pages i page all others = by_rows claims.rows all
  where
    by_rows : (rows : List RowValue) → list_all (λ (x : RowValue). has_own_page pages x.claim) rows ≡ true → rings_but page (its_rings i rows) ≡ its_rings i rows
    by_rows [] all = refl
    by_rows (x ∷ rows) all =
        let parts = and_parts (has_own_page pages x.claim) (list_all (λ (y : RowValue). has_own_page pages y.claim) rows) all in
        by_test (of i x) refl parts.0 (by_rows rows parts.1)
      where
        by_test : (its : Bool) → of i x ≡ its → has_own_page pages x.claim ≡ true → rings_but page (its_rings i rows) ≡ its_rings i rows → rings_but page (its_rings i (x ∷ rows)) ≡ its_rings i (x ∷ rows)
        by_test true its own rest =
            let env : x.claim.env ≡ i = eqb-true x.claim.env i its in
            let elsewhere : (x.claim.page == page) ≡ false = ne_eqb x.claim.page page (λ same.
            let both : true ≡ false = sym own ∙ (λ k. is_owned_by (env k) (row_in pages (same k))) ∙ others in cc) in
            rw (its, elsewhere) (ap (λ gs. ring_in x ∷ gs) rest)
        by_test false its own rest = rw its rest
