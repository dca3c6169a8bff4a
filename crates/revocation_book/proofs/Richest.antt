-- The pages that may be taken from an environment are those that it owns without its backups.
use Rattle.std.proofs.Common.{arith, ◌≡◌, ◌≢◌, ℕ, zero, suc, ◌+◌, ◌<◌, ◌≤◌, Bool, true, false, not, cond, ◌==◌, ◌&&◌, ◌||◌, nat_lt, List, [], ◌∷◌, ◌++◌, length, length-append, Option, Some, None, refl, ap, ◌∙◌, inl, inr}
use Rattle.std.proofs.lemmas.Bool.{cases_eq, eq-eqb, ne_eqb, and_parts, lt-ltb, ltb-false, ltb-true, or_right}
use Rattle.std.proofs.lemmas.Bool.Decides.{nat_tests}
use Rattle.page_book.specs.declared.row.PageRow.{PageRow}
use Rattle.page_book.specs.Row.{is_owned_by}
use Rattle.page_book.specs.Rows.{row_in, owned_below, owned_pages}
use Rattle.aegis_limits.specs.Limits.{environment_numbers}
use Rattle.revocation_book.specs.Backups.{AreDistinct, is_loaded}
use Rattle.revocation_book.specs.RevocationBook.{EachOwnsItsBackups, RevocationBook, backups_at, books_of}
use Rattle.revocation_book.specs.Richest.{AreRichest, revocable_of, revocable_pages, richest, richest_below}
use Rattle.revocation_book.specs.Takings.{Books, victims_below}

-- how many pages below a count are backups
abbrev pub loaded_below : List ℕ → ℕ → ℕ
loaded_below backups zero = 0
loaded_below backups (suc page) = loaded_below backups page + cond (is_loaded backups page) 1 0

-- a page that is owned is a victim or a backup
one_kind : (owned loaded : Bool) (all victims : List ℕ) (page counted backups : ℕ) → (loaded ≡ true → owned ≡ true) → counted ≡ length victims + backups
    → cond owned (suc counted) counted ≡ length (victims ++ cond (owned && not loaded) (page ∷ []) []) + (backups + cond loaded 1 0)
one_kind true true all victims page counted backups owns so_far = rw (length-append victims) (omega (arith, so_far))
one_kind true false all victims page counted backups owns so_far = rw (length-append victims) (omega (arith, so_far))
one_kind false true all victims page counted backups owns so_far = absurd (cc (owns refl))
one_kind false false all victims page counted backups owns so_far = rw (length-append victims) (omega (arith, so_far))

pub kinds : (b : Books) (e count : ℕ) → ((page : ℕ) → is_loaded (b.backups e) page ≡ true → is_owned_by e (b.pages page) ≡ true) → owned_below e b.pages count ≡ length (victims_below b e count) + loaded_below (b.backups e) count
kinds b e zero owns = refl
kinds b e (suc page) owns = one_kind (is_owned_by e (b.pages page)) (is_loaded (b.backups e) page) [] (victims_below b e page) page (owned_below e b.pages page) (loaded_below (b.backups e) page) (owns page) (kinds b e page owns)

-- without backups none is counted
no_backups : (count : ℕ) → loaded_below [] count ≡ 0
no_backups zero = refl
no_backups (suc page) = rw (no_backups page) refl

step : (first page : ℕ) (loaded : Bool) → (first ≡ page → loaded ≡ false) → cond (first == page || loaded) 1 0 + cond (nat_lt first page) 1 0 ≡ cond loaded 1 0 + cond (nat_lt first (suc page)) 1 0
step first page true new = elim (cases_eq first page) [
  | inl same ↦ absurd (cc (new same))
  | inr other ↦ rw (ne_eqb first page other) (grind (arith, nat_tests))
]
step first page false new = grind (arith, nat_tests)

-- one backup more, which isn't one yet, counts once from its page on
backup_more : (first : ℕ) (backups : List ℕ) (count : ℕ) → is_loaded backups first ≡ false → loaded_below (first ∷ backups) count ≡ loaded_below backups count + cond (nat_lt first count) 1 0
backup_more first backups zero new = grind arith
backup_more first backups (suc page) new =
    omega (arith, backup_more first backups page new, step first page (is_loaded backups page) (λ same. rw same at new))

-- so each counts once where all are below the count
pub all_counted : (backups : List ℕ) (count : ℕ) → AreDistinct backups → ((page : ℕ) → is_loaded backups page ≡ true → page < count) → loaded_below backups count ≡ length backups
all_counted [] count distinct below = no_backups count
all_counted (first ∷ backups) count distinct below =
    let here : first < count = below first (rw (eq-eqb first first refl) refl) in
    let rest = all_counted backups count distinct.1 (λ page is. below page (or_right (first == page) (is_loaded backups page) is)) in
    backup_more first backups count distinct.0 ∙ rw (rest, lt-ltb first count here) (omega arith)

-- a page that is owned is there
owned_there : (e : ℕ) (rows : List PageRow) (page : ℕ) → is_owned_by e (row_in rows page) ≡ true → page < length rows
owned_there e [] page owned = cc
owned_there e (row ∷ rows) zero owned = omega arith
owned_there e (row ∷ rows) (suc page) owned = let there = owned_there e rows page owned in omega arith

pub owned_split : (pages : List PageRow) (book : RevocationBook) (e : ℕ) → EachOwnsItsBackups pages book → AreDistinct (backups_at book e) → owned_pages pages e ≡ revocable_pages (books_of pages book) e + length (backups_at book e)
owned_split pages book e owned distinct =
    let backups = all_counted (backups_at book e) (length pages) distinct (λ page is. owned_there e pages page (owned e page is)) in
    omega (arith, backups, kinds (books_of pages book) e (length pages) (owned e))

-- one that hasn't more than the richest so far
no_more : (but e so_far pages : ℕ) → e ≢ but → (not (e == but) && nat_lt so_far pages) ≡ false → pages ≤ so_far
no_more but e so_far pages other is = ltb-false so_far pages (rw (ne_eqb e but other) at is)

-- one environment more
next_richest : (b : Books) (but e : ℕ) (so_far : Option ℕ) (more : Bool) → (not (e == but) && nat_lt (revocable_of b so_far) (revocable_pages b e)) ≡ more → AreRichest b but e so_far → AreRichest b but (suc e) (cond more (Some e) so_far)
next_richest b but e None true is none =
    let parts = and_parts (not (e == but)) (nat_lt 0 (revocable_pages b e)) is in
    let some : 0 < revocable_pages b e = ltb-true 0 (revocable_pages b e) parts.1 in
    record {
      other = λ same. cc (rw (eq-eqb e but same) at parts.0);
      below = omega arith;
      some = some;
      most = λ i below other. elim (cases_eq i e) [ inl same ↦ rw same (omega arith) | inr apart ↦ omega (arith, none i (omega (arith, apart)) other) ];
      lowest = λ i below other. omega (arith, none i below other, some);
    }
next_richest b but e None false is none = λ i below other. elim (cases_eq i e) [
  | inl same ↦ rw same (omega (arith, no_more but e 0 (revocable_pages b e) (rw same at other) is))
  | inr apart ↦ none i (omega (arith, apart)) other
]
next_richest b but e (Some r) true is so_far =
    let parts = and_parts (not (e == but)) (nat_lt (revocable_pages b r) (revocable_pages b e)) is in
    let more : revocable_pages b r < revocable_pages b e = ltb-true (revocable_pages b r) (revocable_pages b e) parts.1 in
    record {
      other = λ same. cc (rw (eq-eqb e but same) at parts.0);
      below = omega arith;
      some = omega (arith, more);
      most = λ i below other. elim (cases_eq i e) [ inl same ↦ rw same (omega arith) | inr apart ↦ omega (arith, so_far.most i (omega (arith, apart)) other, more) ];
      lowest = λ i below other. omega (arith, so_far.most i below other, more);
    }
next_richest b but e (Some r) false is so_far = record {
  other = so_far.other;
  below = omega (arith, so_far.below);
  some = so_far.some;
  most = λ i below other. elim (cases_eq i e) [
    | inl same ↦ rw same (no_more but e (revocable_pages b r) (revocable_pages b e) (rw same at other) is)
    | inr apart ↦ so_far.most i (omega (arith, apart)) other
  ];
  lowest = so_far.lowest;
}

-- the richest of those below a number has the most
are_richest : (b : Books) (but envs : ℕ) → AreRichest b but envs (richest_below b but envs)
are_richest b but zero = λ i below other. absurd (omega arith)
are_richest b but (suc e) = next_richest b but e (richest_below b but e) (not (e == but) && nat_lt (revocable_of b (richest_below b but e)) (revocable_pages b e)) refl (are_richest b but e)

pub richest_has_most : (b : Books) (but : ℕ) → AreRichest b but environment_numbers (richest b but)
unfolding richest
richest_has_most b but = are_richest b but environment_numbers

-- a walk over all finds it
pub all_walked : (b : Books) (but envs : ℕ) → envs ≡ environment_numbers → richest_below b but envs ≡ richest b but
unfolding richest
all_walked b but envs all = ap (richest_below b but) all
