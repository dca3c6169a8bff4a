-- What is told one after another.
use Rattle.std.proofs.Common.{◌≡◌, arith, ℕ, suc, Fits, w32, slice_index_or, List, [], ◌∷◌, ◌++◌, sym, ◌∙◌, ap, subst}
use Rattle.std.specs.Prelude.{OnOk, Result, Ok, Err, map}
use Rattle.std.proofs.lemmas.List.{append-nil, append_assoc, map-append}
use Rattle.feed_log.specs.Views.{AreWords, ItemSeen, item_seen}
use Rattle.world_model.specs.Item.{Item}
use Rattle.feed_telling.specs.Tell.{AreFit, AreTold}

pub both_fit : (xs ys : List Item) → AreFit xs → AreFit ys → AreFit (xs ++ ys)
both_fit [] ys first second = second
both_fit (x ∷ xs) ys first second = (first.0, both_fit xs ys first.1 second)

-- some items are told, and then others
pub told_both : (old mid new : List ItemSeen) (xs ys : List Item) → AreTold old mid xs → AreTold mid new ys
    → AreTold old new (xs ++ ys)
told_both old mid new xs ys first second = record {
  log = second.log
      ∙ ap (λ (log : List ItemSeen). log ++ map item_seen ys) first.log
      ∙ append_assoc old (map item_seen xs) (map item_seen ys)
      ∙ ap (λ (items : List ItemSeen). old ++ items) (sym (map-append item_seen xs ys));
  fit = both_fit xs ys first.fit second.fit;
}

-- the same items, said otherwise
pub told_as : (old new : List ItemSeen) (xs ys : List Item) → xs ≡ ys → AreTold old new xs → AreTold old new ys
told_as old new xs ys same told = subst (AreTold old new) same told

-- what came of a telling, said otherwise
pub on_ok : {X E : Type 0} {A B : Type 0} (r : Result X E) → (A → B) → OnOk r A → OnOk r B
on_ok (Ok x) f told = f told
on_ok (Err e) f told = tt

-- numbers that fit a word are words
pub all_words : (words : List ℕ) → ((i : ℕ) → Fits w32 (slice_index_or words i 0)) → AreWords words
all_words [] fits = tt
all_words (word ∷ words) fits =
    let first : Fits w32 word = fits 0 in
    (omega (arith, first), all_words words (λ i. fits (suc i)))
