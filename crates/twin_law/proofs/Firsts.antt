-- The first difference of two lists of items.
use Rattle.std.proofs.Common.{◌≡◌, ◌<◌, ◌∙◌, ℕ, zero, suc, List, [], ◌∷◌, Bool, true, false, Option, Some, None, ap, arith, refl, subst, sym}
use Rattle.std.specs.Prelude.{if◌then◌else◌, option_map, slice_get}
use Rattle.world_model.specs.Item.{Item}
use Rattle.feed_log.specs.Views.{AlikeWhereShownAlike, IsFit, ItemSeen, item_seen}
use Rattle.run_model.specs.Run.{System, feed, world_after}
use Rattle.run_report.specs.Report.{env_text}
use Rattle.twin_run.specs.declared.answer.TwinAnswer.TheVariants.{FeedsDiffer}
use Rattle.twin_run.specs.Answer.{answer_by, compared, end_in_time, first_difference, twin_answer}
use Rattle.twin_run.specs.ItemText.{is_alike}
use Rattle.limits_law.specs.Fit.{ItemsAreFit}
use Rattle.twin_law.specs.TwinAnswers.{IsFirstDifference, TwinNamesFirst, seen_at}
use Rattle.twin_law.proofs.Alike.{alike_same, alike_self}

-- the same lists differ nowhere
pub same_differ_nowhere : (xs : List Item) → first_difference xs xs ≡ None
same_differ_nowhere [] = refl
same_differ_nowhere (x ∷ xs) =
    ap (λ (b : Bool). if b then option_map suc (first_difference xs xs) else Some 0) (alike_self (item_seen x))
    ∙ ap (option_map suc) (same_differ_nowhere xs)

-- what is found is a place of which all before are shown alike, and which isn't the same
pub record IsFound (xs ys : List Item) (k : ℕ) : Type 0 where
  pub alike : (i : ℕ) → i < k → seen_at xs i ≡ seen_at ys i
  pub differ : slice_get xs k ≡ slice_get ys k → ⊥

module _ (x y : Item) (xs ys : List Item) where
  differ_here : is_alike (item_seen x) (item_seen y) ≡ false → Some x ≡ Some y → ⊥
  differ_here unlike same =
      let its : x ≡ y = cc in
      let clash : true ≡ false = sym (alike_self (item_seen x)) ∙ ap (λ (z : Item). is_alike (item_seen x) (item_seen z)) its ∙ unlike in cc

  found_here : is_alike (item_seen x) (item_seen y) ≡ false → IsFound (x ∷ xs) (y ∷ ys) 0
  found_here unlike = record { alike = λ i less. absurd (omega (arith, less)); differ = differ_here unlike }

  module _ (j : ℕ) (rest : IsFound xs ys j) (alike : item_seen x ≡ item_seen y) where
    alike_to : (i : ℕ) → i < suc j → seen_at (x ∷ xs) i ≡ seen_at (y ∷ ys) i
    alike_to zero less = ap (λ (s : ItemSeen). Some s) alike
    alike_to (suc i) less = rest.alike i (omega (arith, less))

    found_later : IsFound (x ∷ xs) (y ∷ ys) (suc j)
    found_later = record { alike = alike_to; differ = rest.differ }

  by_rest : (k : ℕ) (o : Option ℕ) → ((j : ℕ) → o ≡ Some j → IsFound xs ys j) → item_seen x ≡ item_seen y → option_map suc o ≡ Some k → IsFound (x ∷ xs) (y ∷ ys) k
  by_rest k None rest alike is = absurd (cc)
  by_rest k (Some j) rest alike is = let next : suc j ≡ k = cc in subst (IsFound (x ∷ xs) (y ∷ ys)) next (found_later j (rest j refl) alike)

  by_test : (k : ℕ) (b : Bool) → is_alike (item_seen x) (item_seen y) ≡ b → ((j : ℕ) → first_difference xs ys ≡ Some j → IsFound xs ys j)
      → (if b then option_map suc (first_difference xs ys) else Some 0) ≡ Some k → IsFound (x ∷ xs) (y ∷ ys) k
  by_test k true alike rest is = by_rest k (first_difference xs ys) rest (alike_same (item_seen x) (item_seen y) alike) is
  by_test k false unlike rest is = let first : 0 ≡ k = cc in subst (IsFound (x ∷ xs) (y ∷ ys)) first (found_here unlike)

pub first_found : (xs ys : List Item) (k : ℕ) → first_difference xs ys ≡ Some k → IsFound xs ys k
first_found [] [] k is = absurd (cc)
first_found [] (y ∷ ys) k is =
    let first : 0 ≡ k = cc in subst (IsFound [] (y ∷ ys)) first (record { alike = λ i less. absurd (omega (arith, less)); differ = λ same. cc })
first_found (x ∷ xs) [] k is =
    let first : 0 ≡ k = cc in subst (IsFound (x ∷ xs) []) first (record { alike = λ i less. absurd (omega (arith, less)); differ = λ same. cc })
first_found (x ∷ xs) (y ∷ ys) k is = by_test x y xs ys k (is_alike (item_seen x) (item_seen y)) refl (first_found xs ys) is

-- items that are fit are the same where they are shown alike
both_same : AlikeWhereShownAlike → (o p : Option Item) → ((x : Item) → o ≡ Some x → IsFit x) → ((y : Item) → p ≡ Some y → IsFit y) → option_map item_seen o ≡ option_map item_seen p → o ≡ p
both_same views None None left right is = refl
both_same views None (Some y) left right is = absurd (cc)
both_same views (Some x) None left right is = absurd (cc)
both_same views (Some x) (Some y) left right is =
    let shown : item_seen x ≡ item_seen y = cc in ap (λ (z : Item). Some z) (views x y (left x refl) (right y refl) shown)

pub first_differs : AlikeWhereShownAlike → ItemsAreFit → (left right : System) (e t u index : ℕ) → first_difference (feed left e t) (feed right e u) ≡ Some index → IsFirstDifference left right e t u index
first_differs views fit left right e t u index is =
    let found = first_found (feed left e t) (feed right e u) index is in
    record {
      shown_same = found.alike;
      same = λ accepted also i less.
          both_same views (slice_get (feed left e t) i) (slice_get (feed right e u) i) (λ x at. fit left e t i x accepted at) (λ y at. fit right e u i y also at) (found.alike i less);
      differ = found.differ;
    }

-- which place a comparison names
place_named : (xs ys : List Item) (lines left_text right_text : List ℕ) (index : ℕ) (o : Option ℕ) → compared xs ys lines o ≡ FeedsDiffer index left_text right_text → o ≡ Some index
place_named xs ys lines left_text right_text index None is = absurd (cc)
place_named xs ys lines left_text right_text index (Some i) is = let same : i ≡ index = cc in ap (λ (n : ℕ). Some n) same

pub settled : (left right : System) (e n most t u : ℕ) → end_in_time left e n most ≡ Some t → end_in_time right e n most ≡ Some u
    → twin_answer left right e n most ≡ compared (feed left e t) (feed right e u) (env_text (world_after left t) e) (first_difference (feed left e t) (feed right e u))
settled left right e n most t u left_end right_end =
    ap (λ (o : Option ℕ). answer_by left right e most o (end_in_time right e n most)) left_end ∙ ap (λ (o : Option ℕ). answer_by left right e most (Some t) o) right_end

pub names_first : AlikeWhereShownAlike → ItemsAreFit → TwinNamesFirst
names_first views fit left right e n most t u index left_text right_text left_end right_end is =
    let xs = feed left e t in
    let ys = feed right e u in
    first_differs views fit left right e t u index
    (place_named xs ys (env_text (world_after left t) e) left_text right_text index (first_difference xs ys) (sym (settled left right e n most t u left_end right_end) ∙ is))
