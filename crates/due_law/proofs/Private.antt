-- Two feeds of a private environment, side by side.
use Rattle.std.proofs.Common.{◌≡◌, ℕ, List, [], ◌∷◌, ◌++◌, true, false, Option, None, Some, inl, inr, drop, refl, sym, ◌∙◌, ap, subst, append_assoc}
use Rattle.std.specs.Prelude.{◌⊎◌, ◌||◌, get_or, slice_get}
use Rattle.aegis_limits.specs.declared.version.Version.{Version}
use Rattle.boot_image.specs.ImageValue.{ProgramValue}
use Rattle.world_model.specs.declared.verdict.Verdict.{Verdict}
use Rattle.world_model.specs.Item.{Item, Answer, absorb, absorb_all}
use Rattle.world_model.specs.Solo.{Solo, absent}
use Rattle.run_model.specs.Boot.{boot_items, record_items}
use Rattle.run_model.specs.Run.{System, feed}
use Rattle.quiet_law.specs.Beginning.{NeverDiffer}
use Rattle.due_law.specs.Due.{AreTold, FeedIsDue, IsDueAfter, is_answer}
use Rattle.due_law.specs.Private.{ArePrivate, PrivateIsTold, answers_in, brought_with}
use Rattle.due_law.specs.Standing.{AreDue, Standing, Waits, is_awaited, is_further, stands_after}
use Rattle.due_law.proofs.Told.{both_due, due_behind}

-- lists that never differ
one_more : {A : Type 0} (x y : A) (xs ys : List A) → x ≡ y → NeverDiffer xs ys → NeverDiffer (x ∷ xs) (y ∷ ys)
one_more x y xs ys same (inl b) = inl (record { rest = b.rest; is = ap (λ z. z ∷ (xs ++ b.rest)) same ∙ ap (λ zs. y ∷ zs) b.is })
one_more x y xs ys same (inr b) = inr (record { rest = b.rest; is = ap (λ z. z ∷ (ys ++ b.rest)) (sym same) ∙ ap (λ zs. x ∷ zs) b.is })

heads : {A : Type 0} (x y : A) (xs ys : List A) → NeverDiffer (x ∷ xs) (y ∷ ys) → x ≡ y
heads x y xs ys (inl b) = ap (λ zs. get_or zs 0 x) b.is
heads x y xs ys (inr b) = sym (ap (λ zs. get_or zs 0 y) b.is)

tails : {A : Type 0} (x y : A) (xs ys : List A) → NeverDiffer (x ∷ xs) (y ∷ ys) → NeverDiffer xs ys
tails x y xs ys (inl b) = inl (record { rest = b.rest; is = ap (drop 1) b.is })
tails x y xs ys (inr b) = inr (record { rest = b.rest; is = ap (drop 1) b.is })

behind : {A : Type 0} (boot xs ys : List A) → NeverDiffer xs ys → NeverDiffer (boot ++ xs) (boot ++ ys)
behind boot xs ys (inl b) = inl (record { rest = b.rest; is = append_assoc boot xs b.rest ∙ ap (λ zs. boot ++ zs) b.is })
behind boot xs ys (inr b) = inr (record { rest = b.rest; is = append_assoc boot ys b.rest ∙ ap (λ zs. boot ++ zs) b.is })

-- the answers behind an item
later_answers : (x : Item) (xs ys : List Item) → NeverDiffer (answers_in (x ∷ xs)) (answers_in (x ∷ ys)) → NeverDiffer (answers_in xs) (answers_in ys)
later_answers (Answer v) xs ys never = tails v v (answers_in xs) (answers_in ys) never
later_answers x xs ys never = never

same_answers : (x y : Item) (xs ys : List Item) → is_answer x ≡ true → is_answer y ≡ true → NeverDiffer (answers_in (x ∷ xs)) (answers_in (y ∷ ys)) → x ≡ y
same_answers (Answer v) (Answer u) xs ys one other never = ap (λ (z : Verdict). Answer z) (heads v u (answers_in xs) (answers_in ys) never)
same_answers (Answer v) y xs ys one other never = let clash : false ≡ true = other in cc
same_answers x y xs ys one other never = let clash : false ≡ true = one in cc

-- items that nobody else brings are the same, if the answers are
same_own : (st : Standing) (x y : Item) (xs ys : List Item) → (is_further x || is_awaited st x) ≡ true → (is_further y || is_awaited st y) ≡ true → is_further x ≡ false → is_further y ≡ false
    → NeverDiffer (answers_in (x ∷ xs)) (answers_in (y ∷ ys)) → x ≡ y
same_own st x y xs ys one other own_x own_y never = by_side (both_due st x y one other)
  where
    by_told : AreTold x y → x ≡ y
    by_told (inl further) = let clash : true ≡ false = sym further ∙ own_x in cc
    by_told (inr (inl further)) = let clash : true ≡ false = sym further ∙ own_y in cc
    by_told (inr (inr answers)) = same_answers x y xs ys answers.0 answers.1 never

    by_side : (x ≡ y) ⊎ AreTold x y → x ≡ y
    by_side (inl same) = same
    by_side (inr told) = by_told told

side_by_side : (q : ℕ) (st : Standing) (s : Solo) (brought xs ys : List Item) → AreDue q st s xs → AreDue q st s ys → ArePrivate brought s xs → ArePrivate brought s ys
    → NeverDiffer (answers_in xs) (answers_in ys) → NeverDiffer xs ys
side_by_side q st s brought [] ys due_x due_y private_x private_y never = inl (record { rest = ys; is = refl })
side_by_side q st s brought (x ∷ xs) [] due_x due_y private_x private_y never = inr (record { rest = x ∷ xs; is = refl })
side_by_side q st s [] (x ∷ xs) (y ∷ ys) due_x due_y private_x private_y never =
    let same : x ≡ y = same_own st x y xs ys due_x.0 due_y.0 private_x.0 private_y.0 never in
    one_more x y xs ys same
    (side_by_side q (stands_after q st s x) (absorb s x) (brought_with s x) xs ys due_x.1
    (subst (λ (z : Item). AreDue q (stands_after q st s z) (absorb s z) ys) (sym same) due_y.1) private_x.1
    (subst (λ (z : Item). ArePrivate (brought_with s z) (absorb s z) ys) (sym same) private_y.1)
    (later_answers x xs ys (subst (λ (z : Item). NeverDiffer (answers_in (x ∷ xs)) (answers_in (z ∷ ys))) (sym same) never)))
side_by_side q st s (b ∷ brought) (x ∷ xs) (y ∷ ys) due_x due_y private_x private_y never =
    let same : x ≡ y = private_x.0 ∙ sym private_y.0 in
    one_more x y xs ys same
    (side_by_side q (stands_after q st s x) (absorb s x) brought xs ys due_x.1
    (subst (λ (z : Item). AreDue q (stands_after q st s z) (absorb s z) ys) (sym same) due_y.1) private_x.1
    (subst (λ (z : Item). ArePrivate brought (absorb s z) ys) (sym same) private_y.1)
    (later_answers x xs ys (subst (λ (z : Item). NeverDiffer (answers_in (x ∷ xs)) (answers_in (z ∷ ys))) (sym same) never)))

-- no answer is given at boot
boot_answers : (v : Version) (e : ℕ) (o : Option ProgramValue) (more : List Item) → answers_in (record_items v e o ++ more) ≡ answers_in more
boot_answers v e None more = refl
boot_answers v e (Some p) more = refl

feed_answers : (system : System) (e t : ℕ) (more : List Item) → boot_items system.image e ++ more ≡ feed system e t → answers_in more ≡ answers_in (feed system e t)
feed_answers system e t more is = sym (boot_answers system.image.version e (slice_get system.image.programs e) more) ∙ ap answers_in is

pub private_is_told : FeedIsDue → PrivateIsTold
private_is_told due left right e t u alike one other never =
    let q = left.image.quantum in
    let boot = boot_items left.image e in
    let s = absorb_all (absent e) boot in
    let due_left = due_behind q e boot (feed left e t) one.more (due left e t alike.left_nobody) (sym one.is) in
    let there : IsDueAfter q e boot (feed right e u) =
    subst (λ (b : List Item). IsDueAfter q e b (feed right e u)) (sym alike.record_same)
    (subst (λ (n : ℕ). IsDueAfter n e (boot_items right.image e) (feed right e u)) (sym alike.quantum_same) (due right e u alike.right_nobody)) in
    let is_right : feed right e u ≡ boot ++ other.more = sym other.is ∙ ap (λ (b : List Item). b ++ other.more) (sym alike.record_same) in
    let due_right = due_behind q e boot (feed right e u) other.more there is_right in
    let private_right : ArePrivate [] s other.more = subst (λ (b : List Item). ArePrivate [] (absorb_all (absent e) b) other.more) (sym alike.record_same) other.private in
    let answers : NeverDiffer (answers_in one.more) (answers_in other.more) =
    subst (λ (vs : List Verdict). NeverDiffer vs (answers_in other.more)) (sym (feed_answers left e t one.more one.is))
    (subst (λ (vs : List Verdict). NeverDiffer (answers_in (feed left e t)) vs) (sym (feed_answers right e u other.more other.is)) never) in
    let more = side_by_side q Waits s [] one.more other.more due_left due_right one.private private_right answers in
    subst (λ (xs : List Item). NeverDiffer xs (feed right e u)) one.is
    (subst (λ (ys : List Item). NeverDiffer (boot ++ one.more) ys) (sym is_right) (behind boot one.more other.more more))
