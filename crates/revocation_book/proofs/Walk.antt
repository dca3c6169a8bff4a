-- A walk over the pages by rising number takes the victims one by one, as far as pages are outstanding.
use Rattle.std.proofs.Common.{◌≡◌, ℕ, zero, suc, ◌+◌, ◌<◌, ◌≤◌, true, false, cond, List, [], ◌∷◌, ◌++◌, Option, None, Some, take, length, length-append, length-take, append_assoc, refl, sym, ap, ◌∙◌, inl, inr, arith}
use Rattle.std.specs.Prelude.{slice_get}
use Rattle.std.proofs.lemmas.Bool.{cases_eq, le-leb}
use Rattle.std.proofs.lemmas.List.{append-nil, take_at}
use Rattle.page_book.specs.declared.row.PageRow.{PageRow}
use Rattle.page_book.specs.Row.{is_owned_by}
use Rattle.page_book.specs.Rows.{row_in}
use Rattle.revocation_book.specs.declared.revocation.Pending.{Pending}
use Rattle.revocation_book.specs.declared.revocation.Taking.{Taking}
use Rattle.revocation_book.specs.Takings.{Books, is_victim, paired, takings_of, victims_below}
use Rattle.revocation_book.proofs.Few.{length-paired}

-- a page that isn't there is nobody's
pub past_last : (rows : List PageRow) (page e : ℕ) → slice_get rows page ≡ None → is_owned_by e (row_in rows page) ≡ false
past_last [] page e none = refl
past_last (row ∷ rows) zero e none = absurd (cc none)
past_last (row ∷ rows) (suc page) e none = past_last rows page e none

-- one page more gets the backup that is next
paired_more : (e page : ℕ) (pages backups : List ℕ) → paired e (pages ++ page ∷ []) backups ≡ paired e pages backups ++ record { env = e; page = page; backup = slice_get backups (length pages) } ∷ []
paired_more e page [] [] = refl
paired_more e page [] (backup ∷ backups) = refl
paired_more e page (p ∷ ps) [] = ap (λ (xs : List Taking). record { env = e; page = p; backup = None } ∷ xs) (paired_more e page ps [])
paired_more e page (p ∷ ps) (backup ∷ backups) = ap (λ (xs : List Taking). record { env = e; page = p; backup = Some backup } ∷ xs) (paired_more e page ps backups)

-- so the list with one taking more has one page more
pub one_taken : (e page : ℕ) (pages backups : List ℕ) (backup : Option ℕ) (before takings after : List Taking) → takings ≡ before ++ paired e pages backups → backup ≡ slice_get backups (length pages)
    → after ≡ takings ++ record { env = e; page = page; backup = backup } ∷ [] → after ≡ before ++ paired e (pages ++ page ∷ []) backups
one_taken e page pages backups backup before takings after so_far next one =
    rw (one, so_far, next, paired_more, append_assoc) refl

-- the victims once a page is walked over that is one, or isn't
pub victim_more : (b : Books) (e page : ℕ) → is_victim b e page ≡ true → victims_below b e (page + 1) ≡ victims_below b e page ++ page ∷ []
victim_more b e page is = let next : page + 1 ≡ suc page = omega arith in rw (next, is) refl

pub no_victim_more : (b : Books) (e page : ℕ) → is_victim b e page ≡ false → victims_below b e (page + 1) ≡ victims_below b e page
no_victim_more b e page is = let next : page + 1 ≡ suc page = omega arith in rw (next, is) (append-nil (victims_below b e page))

-- the victims below a page are the first of those below a later one
pub record IsFront (xs ys : List ℕ) : Type 0 where
  pub rest : List ℕ
  pub is : ys ≡ xs ++ rest

-- as a walk that goes on keeps what it found
front : (b : Books) (e page count : ℕ) → page ≤ count → IsFront (victims_below b e page) (victims_below b e count)
front b e page zero below = let none : page ≡ 0 = omega arith in rw none (record { rest = []; is = refl })
front b e page (suc count) below =
    elim (cases_eq page (suc count)) [
      | inl same ↦ rw same (record { rest = []; is = sym (append-nil (victims_below b e (suc count))) })
      | inr other ↦
          let before = front b e page count (omega (arith, other)) in
          record { rest = before.rest ++ cond (is_victim b e count) (count ∷ []) []; is = rw (before.is, append_assoc) refl }
    ]

-- what is taken from an environment whose deadline has come
due_takings : (b : Books) (time e : ℕ) (p : Pending) → b.pending e ≡ Some p → p.deadline ≤ time → takings_of b time e ≡ paired e (take p.outstanding (victims_below b e b.page_count)) (b.backups e)
due_takings b time e p is come = rw (is, le-leb p.deadline time come) refl

-- where as many are taken as are outstanding, these are all
all_victims : (b : Books) (e page count most : ℕ) → page ≤ count → most ≡ length (victims_below b e page) → victims_below b e page ≡ take most (victims_below b e count)
all_victims b e page count most below is =
    let first = front b e page count below in
    rw first.is (sym (take_at (victims_below b e page) first.rest most (sym is)))

-- so a walk that stops there is at its end
pub all_taken : (b : Books) (time e page : ℕ) (p : Pending) (before takings : List Taking) → b.pending e ≡ Some p → p.deadline ≤ time → page ≤ b.page_count → p.outstanding ≡ length (victims_below b e page)
    → takings ≡ before ++ paired e (victims_below b e page) (b.backups e) → takings ≡ before ++ takings_of b time e
all_taken b time e page p before takings is come below all so_far =
    so_far ∙ rw (due_takings b time e p is come, ← all_victims b e page b.page_count p.outstanding below all) refl

-- where one more is a victim, and more are outstanding, it is one of those that are taken
one_of_them : (b : Books) (e page count most : ℕ) → page < count → is_victim b e page ≡ true → length (victims_below b e page) < most → length (victims_below b e page) < length (take most (victims_below b e count))
one_of_them b e page count most below is more =
    let first = front b e (page + 1) count (omega arith) in
    rw (length-take, first.is, victim_more b e page is, length-append, length-append) (omega arith)

-- so there is room for it
pub has_room : (b : Books) (time e page : ℕ) (p : Pending) (before takings : List Taking) (room : ℕ) → b.pending e ≡ Some p → p.deadline ≤ time → page < b.page_count → is_victim b e page ≡ true → length (victims_below b e page) < p.outstanding
    → takings ≡ before ++ paired e (victims_below b e page) (b.backups e) → length before + length (takings_of b time e) ≤ room → length takings < room
has_room b time e page p before takings room is come below victim more so_far fits =
    let due = rw (due_takings b time e p is come, length-paired) at fits in
    rw (so_far, length-append, length-paired) (omega (arith, due, one_of_them b e page b.page_count p.outstanding below victim more))
