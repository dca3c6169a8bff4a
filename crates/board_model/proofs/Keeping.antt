-- The lowest free pages are guaranteed to an environment, one after another.
use Rattle.std.proofs.Common.{◌≡◌, ◌≢◌, ℕ, zero, suc, ◌+◌, List, [], ◌∷◌, ◌++◌, length, Option, Some, None, ◌⊎◌, inl, refl, sym, ◌∙◌, ap, arith, add-zero, add-suc, append_assoc, rules}
use Rattle.std.proofs.lemmas.Bool.{eqb-true}
use Rattle.env_frames.specs.declared.mapping.Mapping.{Mapping}
use Rattle.page_book.specs.declared.row.PageRow.{PageRow}
use Rattle.page_book.specs.declared.row.PageRow.TheVariants.{Free, Guaranteed}
use Rattle.page_book.specs.Rows.{first_free, lowest_free, row_in}
use Rattle.page_book.proofs.Free.{is_lowest}
use Rattle.world_model.specs.Page.{KeptPage}
use Rattle.run_model.specs.Boot.{keep_lowest, keep_pages, mapped_to, mappings_over}
use Rattle.board_model.specs.Loading.{AreGiven, with_mapped}

-- a row stays, or it was that of a free page, which is guaranteed to the environment
abbrev pub IsGivenRow : ℕ → PageRow → PageRow → Type 0
IsGivenRow e old new = (new ≡ old) ⊎ ((old ≡ Free) × (new ≡ Guaranteed e))

both_rows : (e : ℕ) (old mid new : PageRow) → IsGivenRow e old mid → IsGivenRow e mid new → IsGivenRow e old new
both_rows e old mid new first second = search rules

lowest_given : (e count : ℕ) (o : Option ℕ) (rows : ℕ → PageRow) → lowest_free rows count ≡ o → (p : ℕ) → IsGivenRow e (rows p) (keep_lowest e o rows p)
lowest_given e count None rows is p = inl refl
lowest_given e count (Some page) rows is p = grind (arith, is_lowest, eqb-true)

pub kept_row : (e count n : ℕ) (rows : ℕ → PageRow) (p : ℕ) → IsGivenRow e (rows p) (keep_pages e count n rows p)
kept_row e count zero rows p = inl refl
kept_row e count (suc n) rows p = search (rules, both_rows, lowest_given, (kept_row e count n rows p))

-- some pages, and then some more
kept_both : (e count m n : ℕ) (rows : ℕ → PageRow) → keep_pages e count n (keep_pages e count m rows) ≡ keep_pages e count (m + n) rows
kept_both e count m zero rows = ap (λ k. keep_pages e count k rows) (sym (add-zero m))
kept_both e count m (suc n) rows = search (rules, add-suc, (kept_both e count m n rows))

-- the mappings of some pages, and then of some more
mapped_both : (e count : ℕ) (rows : ℕ → PageRow) (xs ys : List KeptPage) → mappings_over e count rows (xs ++ ys) ≡ mappings_over e count rows xs ++ mappings_over e count (keep_pages e count (length xs) rows) ys
mapped_both e count rows [] ys = refl
mapped_both e count rows (x ∷ xs) ys =
    let lowest = lowest_free rows count in
    let after = keep_lowest e lowest rows in
    let one_more : 1 + length xs ≡ suc (length xs) = omega arith in
    ap (λ ms. mapped_to x lowest ++ ms)
    (mapped_both e count after xs ys
    ∙ ap (λ f. mappings_over e count after xs ++ mappings_over e count f ys) (kept_both e count 1 (length xs) rows ∙ ap (λ n. keep_pages e count n rows) one_more))
    ∙ sym (append_assoc (mapped_to x lowest) (mappings_over e count after xs) (mappings_over e count (keep_pages e count (suc (length xs)) rows) ys))

-- what becomes of a row where pages are given
pub given_row : (e n : ℕ) (old new : List PageRow) (before after : List (List ℕ)) → AreGiven e n old new before after → (p : ℕ) → IsGivenRow e (row_in old p) (row_in new p)
given_row e n old new before after given p = rw (ap (λ (f : ℕ → PageRow). f p) given.rows) (kept_row e (length old) n (row_in old) p)

-- a page that isn't free stays so, with its row
pub taken_row : (e : ℕ) (old new : PageRow) → IsGivenRow e old new → old ≢ Free → new ≡ old
taken_row e old new given taken = search rules

-- some pages given, and then some more
pub given_both : (e m n : ℕ) (old mid new : List PageRow) (before between after : List (List ℕ)) → AreGiven e m old mid before between → AreGiven e n mid new between after → AreGiven e (m + n) old new before after
given_both e m n old mid new before between after first second = search (rules, kept_both, taken_row, given_row)

-- the mappings that an environment has then
pub mapped_more : (e n : ℕ) (old mid : List PageRow) (before between : List (List ℕ)) (xs ys : List KeptPage) (ms : List Mapping) → AreGiven e n old mid before between → length xs ≡ n → with_mapped e mid ys (with_mapped e old xs ms) ≡ with_mapped e old (xs ++ ys) ms
mapped_more e n old mid before between xs ys ms given size = search (rules, append_assoc, mapped_both)

-- the mapping of one page: it leads to the lowest free one
pub mapped_one : (e page : ℕ) (pages : List PageRow) (p : KeptPage) (ms : List Mapping) → first_free pages ≡ Some page → ms ++ record { vpn = p.vpn; page = page; writable = p.writable } ∷ [] ≡ with_mapped e pages (p ∷ []) ms
mapped_one e page pages p ms lowest = ap (λ o. ms ++ (mapped_to p o ++ [])) (sym lowest)
