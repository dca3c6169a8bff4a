-- Each page that is taken at a time may be taken in its turn.
use Rattle.std.proofs.Common.{◌≡◌, ◌≢◌, ℕ, zero, suc, ◌<◌, ◌≤◌, Bool, true, false, cond, List, [], ◌∷◌, ◌++◌, take, drop, None, Some, refl, sym, ap, ◌∙◌, arith}
use Rattle.std.specs.Prelude.{◌==◌, not}
use Rattle.std.proofs.lemmas.List.{append-nil}
use Rattle.std.proofs.lemmas.Bool.{and_from, and_parts, eq-eqb, eqb-true, ne_eqb, not-true, not_from_false, or_parts, or_right}
use Rattle.page_book.specs.Row.{is_owned_by}
use Rattle.page_book.proofs.Owners.{same_owner}
use Rattle.revocation_book.specs.declared.revocation.Taking.{Taking}
use Rattle.revocation_book.specs.Pending.{is_due, outstanding_in}
use Rattle.revocation_book.specs.Backups.{is_loaded}
use Rattle.revocation_book.specs.Takings.{AreTakable, Books, is_victim, paired, taken, takings_below, takings_of, victims, victims_below}

-- pages by rising number, from one bound to below another, each of which is a victim
abbrev pub AreVictims : Books → ℕ → ℕ → ℕ → List ℕ → Type 0
AreVictims b e low high [] = Unit {0}
AreVictims b e low high (page ∷ pages) = (low ≤ page) × (page < high) × (is_victim b e page ≡ true) × AreVictims b e (suc page) high pages

-- the books once all of these are taken
abbrev pub after : List Taking → Books → Books
after [] b = b
after (x ∷ xs) b = after xs (taken x b)

-- only environments below a number are taken from
abbrev pub AreBelow : ℕ → List Taking → Type 0
AreBelow e [] = Unit {0}
AreBelow e (x ∷ xs) = (x.env < e) × AreBelow e xs

-- a victim above those before it is one more of them
one_more : (b : Books) (e low page : ℕ) (pages : List ℕ) → AreVictims b e low page pages → low ≤ page → is_victim b e page ≡ true → AreVictims b e low (suc page) (pages ++ page ∷ [])
one_more b e low page [] are low_le is = (low_le, omega arith, is, tt)
one_more b e low page (p ∷ ps) are low_le is = (are.0, omega (arith, are.1), are.2, one_more b e (suc p) page ps are.3 (omega (arith, are.1)) is)

-- the upper bound may be higher
wider : (b : Books) (e low high : ℕ) (pages : List ℕ) → AreVictims b e low high pages → AreVictims b e low (suc high) pages
wider b e low high [] are = tt
wider b e low high (p ∷ ps) are = (are.0, omega (arith, are.1), are.2, wider b e (suc p) high ps are.3)

-- the victims of an environment, by rising number, are such pages
are_victims : (b : Books) (e count : ℕ) → AreVictims b e 0 count (victims_below b e count)
are_victims b e zero = tt
are_victims b e (suc page) = by_test (is_victim b e page) refl (are_victims b e page)
  where
    by_test : (v : Bool) → is_victim b e page ≡ v → AreVictims b e 0 page (victims_below b e page) → AreVictims b e 0 (suc page) (victims_below b e page ++ cond v (page ∷ []) [])
    by_test true is before = one_more b e 0 page (victims_below b e page) before (omega arith) is
    by_test false is before = rw append-nil (wider b e 0 page (victims_below b e page) before)

-- and so are the first of them
some_are : (b : Books) (e low high n : ℕ) (pages : List ℕ) → AreVictims b e low high pages → AreVictims b e low high (take n pages)
some_are b e low high zero pages are = tt
some_are b e low high (suc n) [] are = tt
some_are b e low high (suc n) (p ∷ ps) are = (are.0, are.1, are.2, some_are b e (suc p) high n ps are.3)

-- what isn't a backup isn't one of those that are left
not_left : (first : Bool) (backups : List ℕ) (page : ℕ) → is_loaded backups page ≡ false → is_loaded (cond first (drop 1 backups) backups) page ≡ false
not_left false backups page spared = spared
not_left true [] page spared = spared
not_left true (b ∷ backups) page spared = (or_parts (b == page) (is_loaded backups page) spared).1

-- a taking leaves an environment all of its backups but maybe the first
backups_left : (b : Books) (x : Taking) (e : ℕ) → (taken x b).backups e ≡ cond (e == x.env) (drop 1 (b.backups e)) (b.backups e)
backups_left b x e = by_test (e == x.env) refl
  where
    by_test : (own : Bool) → (e == x.env) ≡ own → cond own (drop 1 (b.backups x.env)) (b.backups e) ≡ cond own (drop 1 (b.backups e)) (b.backups e)
    by_test false is = refl
    by_test true is = ap (λ (k : ℕ). drop 1 (b.backups k)) (sym (eqb-true e x.env is))

-- another page that is a victim stays one
stays : (b : Books) (x : Taking) (e page : ℕ) → page ≢ x.page → is_victim b e page ≡ true → is_victim (taken x b) e page ≡ true
stays b x e page other is =
    let parts = and_parts (is_owned_by e (b.pages page)) (not (is_loaded (b.backups e) page)) is in
    let spared = not_left (e == x.env) (b.backups e) page (not-true _ parts.1) in
    rw (ne_eqb page x.page other) (and_from _ _ parts.0 (not_from_false _ (ap (λ (backups : List ℕ). is_loaded backups page) (backups_left b x e) ∙ spared)))

-- so do those above a page that is taken
stay_above : (b : Books) (x : Taking) (e low high : ℕ) (pages : List ℕ) → x.page < low → AreVictims b e low high pages → AreVictims (taken x b) e low high pages
stay_above b x e low high [] below are = tt
stay_above b x e low high (p ∷ ps) below are =
    (are.0, are.1, stays b x e p (omega (arith, are.0, below)) are.2, stay_above b x e (suc p) high ps (omega (arith, are.0, below)) are.3)

-- and those of another environment
stay_others : (b : Books) (x : Taking) (e low high : ℕ) (pages : List ℕ) → x.env ≢ e → is_owned_by x.env (b.pages x.page) ≡ true → AreVictims b e low high pages → AreVictims (taken x b) e low high pages
stay_others b x e low high [] other owned are = tt
stay_others b x e low high (p ∷ ps) other owned are =
    let parts = and_parts (is_owned_by e (b.pages p)) (not (is_loaded (b.backups e) p)) are.2 in
    let apart : p ≢ x.page = λ same. other (same_owner x.env e (b.pages x.page) owned (rw same at parts.0)) in
    (are.0, are.1, stays b x e p apart are.2, stay_others b x e (suc p) high ps other owned are.3)

-- a backup that is left was one before
pub rest_loaded : (pages : List ℕ) (page : ℕ) → is_loaded (drop 1 pages) page ≡ true → is_loaded pages page ≡ true
rest_loaded [] page is = is
rest_loaded (p ∷ pages) page is = or_right (p == page) (is_loaded pages page) is

-- the victims of one environment may be taken, by rising number, with its backups in their order
paired_takable : (b : Books) (time e low high : ℕ) (pages backups : List ℕ) → is_due time (b.pending e) ≡ true → b.backups e ≡ backups → AreVictims b e low high pages → AreTakable b time (paired e pages backups)
paired_takable b time e low high [] backups due are_loaded are = tt
paired_takable b time e low high (p ∷ ps) [] due are_loaded are =
    let x : Taking = record { env = e; page = p; backup = None } in
    let parts = and_parts (is_owned_by e (b.pages p)) (not (is_loaded (b.backups e) p)) are.2 in (
      record { due = due; owned = parts.0; spared = not-true _ parts.1; first = rw are_loaded refl },
      paired_takable (taken x b) time e (suc p) high ps [] due (rw (eq-eqb e e refl, are_loaded) refl) (stay_above b x e (suc p) high ps (omega arith) are.3),
    )
paired_takable b time e low high (p ∷ ps) (first ∷ backups) due are_loaded are =
    let x : Taking = record { env = e; page = p; backup = Some first } in
    let parts = and_parts (is_owned_by e (b.pages p)) (not (is_loaded (b.backups e) p)) are.2 in (
      record { due = due; owned = parts.0; spared = not-true _ parts.1; first = rw are_loaded refl },
      paired_takable (taken x b) time e (suc p) high ps backups due (rw (eq-eqb e e refl, are_loaded) refl) (stay_above b x e (suc p) high ps (omega arith) are.3),
    )

-- what may be taken, and then what may be taken after it
both_takable : (b : Books) (time : ℕ) (xs ys : List Taking) → AreTakable b time xs → AreTakable (after xs b) time ys → AreTakable b time (xs ++ ys)
both_takable b time [] ys first second = second
both_takable b time (x ∷ xs) ys first second = (first.0, both_takable (taken x b) time xs ys first.1 second)

-- what is pending stays
pending_stays : (b : Books) (xs : List Taking) (e : ℕ) → (after xs b).pending e ≡ b.pending e
pending_stays b [] e = refl
pending_stays b (x ∷ xs) e = pending_stays (taken x b) xs e

-- what is taken from environments below one leaves its backups
backups_stay : (b : Books) (xs : List Taking) (e : ℕ) → AreBelow e xs → (after xs b).backups e ≡ b.backups e
backups_stay b [] e below = refl
backups_stay b (x ∷ xs) e below =
    let apart : e ≢ x.env = λ same. omega (arith, below.0, same) in
    backups_stay (taken x b) xs e below.1 ∙ rw (ne_eqb e x.env apart) refl

-- and its victims
victims_stay : (b : Books) (time : ℕ) (xs : List Taking) (e low high : ℕ) (pages : List ℕ) → AreTakable b time xs → AreBelow e xs → AreVictims b e low high pages → AreVictims (after xs b) e low high pages
victims_stay b time [] e low high pages takable below are = are
victims_stay b time (x ∷ xs) e low high pages takable below are =
    let apart : x.env ≢ e = λ same. omega (arith, below.0, same) in
    victims_stay (taken x b) time xs e low high pages takable.1 below.1 (stay_others b x e low high pages apart takable.0.owned are)

-- the number may be higher
higher : (e : ℕ) (xs : List Taking) → AreBelow e xs → AreBelow (suc e) xs
higher e [] below = tt
higher e (x ∷ xs) below = (omega (arith, below.0), higher e xs below.1)

-- both parts are below it, and so is the whole
both_below : (e : ℕ) (xs ys : List Taking) → AreBelow e xs → AreBelow e ys → AreBelow e (xs ++ ys)
both_below e [] ys first second = second
both_below e (x ∷ xs) ys first second = (first.0, both_below e xs ys first.1 second)

-- what is taken from one environment is below the next
paired_below : (e : ℕ) (pages backups : List ℕ) → AreBelow (suc e) (paired e pages backups)
paired_below e [] backups = tt
paired_below e (p ∷ ps) [] = (omega arith, paired_below e ps [])
paired_below e (p ∷ ps) (b ∷ backups) = (omega arith, paired_below e ps backups)

-- what is taken from those below a number
takings_are_below : (b : Books) (time e : ℕ) → AreBelow e (takings_below b time e)
takings_are_below b time zero = tt
takings_are_below b time (suc e) = both_below (suc e) (takings_below b time e) (takings_of b time e) (higher e (takings_below b time e) (takings_are_below b time e)) (by_test (is_due time (b.pending e)))
  where
    by_test : (due : Bool) → AreBelow (suc e) (cond due (paired e (victims b e) (b.backups e)) [])
    by_test true = paired_below e (victims b e) (b.backups e)
    by_test false = tt

-- what is taken from an environment may be taken, once those below it are served
next_takable : (b : Books) (time e : ℕ) → AreTakable b time (takings_below b time e) → AreTakable (after (takings_below b time e) b) time (takings_of b time e)
next_takable b time e takable = by_test (is_due time (b.pending e)) refl
  where
    by_test : (due : Bool) → is_due time (b.pending e) ≡ due → AreTakable (after (takings_below b time e) b) time (cond due (paired e (victims b e) (b.backups e)) [])
    by_test false is = tt
    by_test true is =
        let below = takings_are_below b time e in
        paired_takable (after (takings_below b time e) b) time e 0 b.page_count (victims b e) (b.backups e)
        (rw (pending_stays b (takings_below b time e) e) is)
        (backups_stay b (takings_below b time e) e below)
        (victims_stay b time (takings_below b time e) e 0 b.page_count (victims b e) takable below
        (some_are b e 0 b.page_count (outstanding_in (b.pending e)) (victims_below b e b.page_count) (are_victims b e b.page_count)))

-- so one environment after another
pub takable_below : (b : Books) (time envs : ℕ) → AreTakable b time (takings_below b time envs)
takable_below b time zero = tt
takable_below b time (suc e) =
    let before = takable_below b time e in
    both_takable b time (takings_below b time e) (takings_of b time e) before (next_takable b time e before)
