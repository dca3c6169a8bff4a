-- The openings at the front of bytes, one after another.
use Rattle.std.proofs.Common.{◌≡◌, ℕ, zero, suc, ◌+◌, ◌-◌, ◌*◌, ◌<◌, ◌≤◌, List, [], ◌∷◌, Option, Some, None, length, drop, refl, sym, ap, ◌∙◌, arith, drop-drop, length-drop}
use Rattle.asm_parse.specs.Expression.{half_opened, half_before, halves_opened}
use Rattle.asm_parse.specs.declared.openings.Half.{Half}

-- halves behind one more than so many, where they are those behind so many behind the first
behind_first : (first : Option Half) (halves found : List Half) (k : ℕ) → (k ≤ length halves → found ≡ drop k halves)
    → suc k ≤ length (half_before first halves) → found ≡ drop (suc k) (half_before first halves)
behind_first None halves found k behind within = absurd (omega arith)
behind_first (Some half) halves found k behind within = behind (omega arith)

-- the halves behind the first openings
opened_behind : (bs : List ℕ) (k : ℕ) → k ≤ length (halves_opened bs) → halves_opened (drop (3 * k) bs) ≡ drop k (halves_opened bs)
opened_behind bs zero within = refl
opened_behind [] (suc k) within = absurd (omega arith)
opened_behind (a ∷ []) (suc k) within = absurd (omega arith)
opened_behind (a ∷ b ∷ []) (suc k) within = absurd (omega arith)
opened_behind (a ∷ b ∷ c ∷ bs) (suc k) within =
    let three : 3 * suc k ≡ suc (suc (suc (3 * k))) = omega arith in
    rw three
    (behind_first (half_opened (a ∷ b ∷ c ∷ [])) (halves_opened bs) (halves_opened (drop (3 * k) bs)) k (λ few. opened_behind bs k few) within)

-- the half that the last of so many openings opens, before those behind it
pub half_at : (bs : List ℕ) (left : ℕ) (half : Half) (more : List Half) → 0 < left → left ≤ length (halves_opened bs) →
    halves_opened (drop (3 * (left - 1)) bs) ≡ half ∷ more → drop (left - 1) (halves_opened bs) ≡ half ∷ drop left (halves_opened bs)
half_at bs left half more some within is =
    let next : left - 1 + 1 ≡ left = omega arith in
    let at = sym (opened_behind bs (left - 1) (omega arith)) ∙ is in
    let behind : drop left (halves_opened bs) ≡ more = ap (λ k. drop k (halves_opened bs)) (sym next) ∙ sym (drop-drop 1 (left - 1) (halves_opened bs)) ∙ ap (drop 1) at in
    rw behind at

-- there is one
pub some_at : (bs : List ℕ) (left : ℕ) → 0 < left → left ≤ length (halves_opened bs) → halves_opened (drop (3 * (left - 1)) bs) ≡ [] → ⊥
some_at bs left some within is =
    let none = ap length (sym (opened_behind bs (left - 1) (omega arith)) ∙ is) in
    absurd (omega (arith, none, length-drop (left - 1) (halves_opened bs)))
