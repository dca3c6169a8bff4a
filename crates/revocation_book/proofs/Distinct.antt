-- No backup stands twice.
use Rattle.std.proofs.Common.{◌≡◌, ◌≢◌, ℕ, Bool, true, false, not, ◌==◌, cond, List, [], ◌∷◌, IsNone, refl, sym}
use Rattle.std.proofs.lemmas.Bool.{eq-eqb, ne_eqb, or_parts}
use Rattle.revocation_book.specs.Backups.{AreDistinct, is_loaded, load_refusal, loaded, unloaded}

-- what isn't loaded isn't behind a page either that is another
not_last : (backups : List ℕ) (page other : ℕ) → is_loaded backups other ≡ false → page ≢ other → is_loaded (loaded page backups) other ≡ false
not_last [] page other none apart = rw (ne_eqb page other apart) refl
not_last (b ∷ backups) page other none apart =
    let parts = or_parts (b == other) (is_loaded backups other) none in
    rw (parts.0, not_last backups page other parts.1 apart) refl

pub distinct_loaded : (backups : List ℕ) (page : ℕ) → AreDistinct backups → is_loaded backups page ≡ false → AreDistinct (loaded page backups)
distinct_loaded [] page distinct new = (refl, tt)
distinct_loaded (b ∷ backups) page distinct new =
    let parts = or_parts (b == page) (is_loaded backups page) new in
    (not_last backups page b distinct.0 (λ same. cc (eq-eqb b page (sym same), parts.0)), distinct_loaded backups page distinct.1 parts.1)

-- what may be loaded isn't loaded
pub may_load : (backups : List ℕ) (page : ℕ) → IsNone (load_refusal backups page) → is_loaded backups page ≡ false
may_load backups page none = by_test (is_loaded backups page) refl
  where
    by_test : (is : Bool) → is_loaded backups page ≡ is → is_loaded backups page ≡ false
    by_test false is = is
    by_test true is = cc (rw is at none)

not_left : (backups : List ℕ) (page other : ℕ) → is_loaded backups other ≡ false → is_loaded (unloaded page backups) other ≡ false
not_left [] page other none = none
not_left (b ∷ backups) page other none =
    let parts = or_parts (b == other) (is_loaded backups other) none in
    by_test (b == page) parts.0 (not_left backups page other parts.1)
  where
    by_test : (same : Bool) → (b == other) ≡ false → is_loaded (unloaded page backups) other ≡ false → is_loaded (cond (not same) (b ∷ unloaded page backups) (unloaded page backups)) other ≡ false
    by_test true first rest = rest
    by_test false first rest = rw (first, rest) refl

pub distinct_unloaded : (backups : List ℕ) (page : ℕ) → AreDistinct backups → AreDistinct (unloaded page backups)
distinct_unloaded [] page distinct = tt
distinct_unloaded (b ∷ backups) page distinct = by_test (b == page) (not_left backups page b distinct.0) (distinct_unloaded backups page distinct.1)
  where
    by_test : (same : Bool) → is_loaded (unloaded page backups) b ≡ false → AreDistinct (unloaded page backups) → AreDistinct (cond (not same) (b ∷ unloaded page backups) (unloaded page backups))
    by_test true first rest = rest
    by_test false first rest = (first, rest)
