-- What is taken, page by page.
use Rattle.std.specs.List.{list_any}
use Rattle.std.proofs.Common.{◌≡◌, ◌≢◌, ◌<◌, ◌+◌, ℕ, zero, suc, List, [], ◌∷◌, ◌++◌, length, map, take, get_or, true, Option, Some, None, refl, sym, ◌∙◌, ap, arith, false, Bool, slice_index_or}
use Rattle.std.specs.Prelude.{IfSome, slice_get, if◌then◌else◌}
use Rattle.std.proofs.lemmas.Bool.{eq-eqb, or_parts}
use Rattle.std.proofs.lemmas.Grind.{common_steps}
use Rattle.std.proofs.lemmas.List.{map-append, take_more}
use Rattle.page_book.specs.declared.row.PageRow.{PageRow}
use Rattle.page_book.specs.declared.row.PageRow.TheVariants.{Free, Guaranteed, Owned}
use Rattle.page_book.specs.Row.{is_owned_by}
use Rattle.page_book.specs.Rows.{row_in}
use Rattle.revocation_book.specs.declared.revocation.Taking.{Taking}
use Rattle.revocation_book.specs.declared.revocation.Pending.{Pending}
use Rattle.revocation_book.specs.Pending.{is_due}
use Rattle.revocation_book.specs.Backups.{is_loaded}
use Rattle.revocation_book.specs.RevocationBook.{backups_at, is_any_due}
use Rattle.revocation_book.specs.Takings.{AreTakable, IsTakable, Books, paired, takings_below, takings_of, victims}
use Rattle.world_model.specs.Call.{any}
use Rattle.world_model.specs.Deadlines.{takes, takings}
use Rattle.world_model.specs.PageCalls.{revocations}
use Rattle.world_model.specs.World.{World, after}
use Rattle.board_model.specs.Shown.{Shown}
use Rattle.board_model.specs.Showing.{world_of}
use Rattle.board_model.specs.Sound.{IsSoundBoard}
use Rattle.board_model.proofs.Seen.{row_there}

-- a place of a list
there : {A : Type 0} (xs : List A) (i : ℕ) (x : A) → slice_get xs i ≡ Some x → i < length xs
there [] i x is = cc
there (y ∷ ys) zero x is = omega arith
there (y ∷ ys) (suc i) x is = let rest = there ys i x is in omega (arith, rest)

stands : {A : Type 0} (xs : List A) (i : ℕ) (x : A) → slice_get xs i ≡ Some x → x ≡ get_or xs i x
stands [] i x is = cc
stands (y ∷ ys) zero x is = cc
stands (y ∷ ys) (suc i) x is = stands ys i x is

-- the pages so far, and one more
pub one_taking_more : (xs : List Taking) (i : ℕ) (x : Taking) → slice_get xs i ≡ Some x
    → map takes (take i xs) ++ takes x ∷ [] ≡ map takes (take (i + 1) xs)
one_taking_more xs i x is =
    sym (map-append takes (take i xs) (x ∷ []))
    ∙ ap (λ (y : Taking). map takes (take i xs ++ y ∷ [])) (stands xs i x is)
    ∙ ap (map takes) (sym (take_more xs i x (there xs i x is)))

-- the others may be taken behind it
pub next_takable : (w : World) (x : Taking) (time : ℕ) (xs : List Taking) → AreTakable (revocations w.book) time (x ∷ xs)
    → AreTakable (revocations (after w (takes x w)).book) time xs
next_takable w x time xs may = may.1

-- a backup is a page, and so no number that stands for none
first_loaded : (pages : List ℕ) (page : ℕ) → slice_get pages 0 ≡ Some page → is_loaded pages page ≡ true
first_loaded [] page is = cc
first_loaded (p ∷ pages) page is =
    let same : p ≡ page = cc in
    rw (eq-eqb p page same) refl

not_free : (e : ℕ) (row : PageRow) → is_owned_by e row ≡ true → row ≢ Free
not_free e Free owned is = cc
not_free e (Guaranteed owner) owned is = cc
not_free e (Owned owner words) owned is = cc

pub backup_is_page : (b : Shown) (x : Taking) (time : ℕ) → IsSoundBoard b → IsTakable (revocations (world_of b).book) time x
    → IfSome x.backup (λ page. page ≢ any)
backup_is_page b x time sound may = by_backup x.backup may.first
  where
    by_backup : (o : Option ℕ) → o ≡ slice_get (backups_at b.revocations x.env) 0 → IfSome o (λ page. page ≢ any)
    by_backup None is = tt
    by_backup (Some page) is =
        let owned = sound.revocations.owned x.env page (first_loaded (backups_at b.revocations x.env) page (sym is)) in
        let within = row_there b.pages page (not_free x.env (row_in b.pages page) owned) in
        let same = sound.memory.same in
        let most = sound.memory.most in
        λ none. absurd (omega (arith, within, same, most, none))

-- where no deadline has come nothing is taken
not_due : (list : List (Option Pending)) (time e : ℕ) → list_any (is_due time) list ≡ false → is_due time (slice_index_or list e None) ≡ false
not_due list time e none = grind (arith, common_steps, or_parts)

none_taken : (books : Books) (time n : ℕ) → ((e : ℕ) → is_due time (books.pending e) ≡ false) → takings_below books time n ≡ []
none_taken books time zero none = refl
none_taken books time (suc e) none =
    (λ k. none_taken books time e none k ++ takings_of books time e)
    ∙ ap (λ (t : Bool). if t then paired e (victims books e) (books.backups e) else []) (none e)

pub none_due : (b : Shown) → is_any_due b.revocations b.time ≡ false → takings (world_of b) ≡ []
none_due b none = none_taken (revocations (world_of b).book) b.time (world_of b).count (λ e. not_due b.revocations.pending b.time e none)
