-- The items of a feed that weren't read.
use Rattle.std.proofs.Common.{Option, Some, None, ◌≡◌, ◌≤◌, ◌<◌, ◌+◌, ◌-◌, ℕ, zero, suc, List, [], ◌∷◌, ◌++◌, length, map, take, drop, replicate, refl, sym, ◌∙◌, ap, subst, arith}
use Rattle.std.specs.Prelude.{◌||◌, MatchOption}
use Rattle.std.specs.List.{list_any}
use Rattle.std.proofs.Math.ListN.{drop_of_length-le}
use Rattle.std.proofs.lemmas.List.{drop-append-le, length-append, length-map, map-append}
use Rattle.world_model.specs.Item.{Item, Boot, Step, Start, End, Transfer, Killed, Answer, Gained, Lost, Left, Packet, Line, Asked, Taken}
use Rattle.feed_log.specs.Views.{AlikeWhereShownAlike, IsFit, ItemSeen, item_seen}
use Rattle.feed_log.specs.Log.{StandsFirst, begins_seen, shown}
use Rattle.feed_log.specs.declared.view.ItemView.{ItemView}
use Rattle.feed_telling.specs.Tell.{AreFit, AreTold}
use Rattle.feed_telling.proofs.Telling.{both_fit}
use Rattle.run_model.specs.Slices.{begins_slice}
use Rattle.feed_log.specs.Progress.{BeginsWith, IsFirst}
use Rattle.feed_run.specs.Whole.{AreUnread}

-- A feed and these items behind it, which are told behind those that weren't read.
module _ (xs ys all : List Item) (log new : List ItemSeen) (is : all ≡ xs ++ ys) (told : AreTold log new ys) where
  feed_more : length all ≡ length xs + length ys
  feed_more = ap length is ∙ length-append xs ys

  log_more : length new ≡ length log + length ys
  log_more = ap length told.log ∙ length-append log (map item_seen ys) ∙ ap (λ n. length log + n) (length-map ys item_seen)

  -- how many are read stays
  pub read_on : length all - length new ≡ length xs - length log
  read_on = omega (arith, feed_more, log_more)

  pub unread_on : AreUnread xs log → AreUnread all new
  unread_on unread =
      let more = map item_seen ys in
      let k = length xs - length log in
      let few = unread.few in
      let within : k ≤ length (map item_seen xs) = let size = length-map xs item_seen in omega (arith, size) in
      record {
        few = omega (arith, few, feed_more, log_more);
        last = told.log
            ∙ ap (λ (old : List ItemSeen). old ++ more) unread.last
            ∙ sym (drop-append-le k (map item_seen xs) more within)
            ∙ ap (drop k) (sym (map-append item_seen xs ys))
            ∙ (λ i. drop (sym read_on i) (map item_seen (sym is i)));
        fit = subst AreFit (sym is) (both_fit xs ys unread.fit told.fit);
      }

-- a slice begins with an item as it is shown where it begins with the item
begins_alike : (x : Item) → begins_seen (item_seen x) ≡ begins_slice x
begins_alike (Boot version number name entry accept kept) = refl
begins_alike Step = refl
begins_alike Start = refl
begins_alike End = refl
begins_alike (Transfer from how registers) = refl
begins_alike Killed = refl
begins_alike (Answer verdict) = refl
begins_alike (Gained page writable bytes) = refl
begins_alike (Lost page) = refl
begins_alike (Left page offset bytes) = refl
begins_alike (Packet claim packet) = refl
begins_alike (Line line) = refl
begins_alike (Asked outstanding deadline) = refl
begins_alike (Taken page backup) = refl

pub begin_alike : (xs : List Item) → list_any begins_seen (map item_seen xs) ≡ list_any begins_slice xs
begin_alike [] = refl
begin_alike (x ∷ xs) = λ k. begins_alike x k || begin_alike xs k

-- the items behind the first ones are fit
fit_behind : (k : ℕ) (xs : List Item) → AreFit xs → AreFit (drop k xs)
fit_behind zero xs fit = fit
fit_behind (suc k) [] fit = tt
fit_behind (suc k) (x ∷ xs) fit = fit_behind k xs fit.1

drop_map : (k : ℕ) (xs : List Item) → drop k (map item_seen xs) ≡ map item_seen (drop k xs)
drop_map zero xs = refl
drop_map (suc k) [] = refl
drop_map (suc k) (x ∷ xs) = drop_map k xs

-- items that are shown as one in a row are one in a row
module _ (alike : AlikeWhereShownAlike) where
  row_alike : (n : ℕ) (x : Item) (xs : List Item) → IsFit x → AreFit xs → take n (map item_seen xs) ≡ replicate n (item_seen x)
      → xs ≡ replicate n x ++ drop n xs
  row_alike zero x xs fits fit row = refl
  row_alike (suc n) x [] fits fit row = cc
  row_alike (suc n) x (y ∷ ys) fits fit row =
      let first : item_seen y ≡ item_seen x = cc in
      let rest : take n (map item_seen ys) ≡ replicate n (item_seen x) = cc in
      let same : y ≡ x = alike y x fit.0 fits first in
      λ k. same k ∷ row_alike n x ys fits fit.1 rest k

  pub row_begins : (xs : List Item) (seen : ItemSeen) (count : ℕ) → AreFit xs → 0 < count → take count (map item_seen xs) ≡ replicate count seen
      → BeginsWith xs seen count
  row_begins xs seen zero fit some row = absurd (omega (arith, some))
  row_begins [] seen (suc n) fit some row = cc
  row_begins (x ∷ xs) seen (suc n) fit some row =
      let first : item_seen x ≡ seen = cc in
      record {
        item = x;
        fit = fit.0;
        shown = first;
        some = some;
        behind = drop (suc n) (x ∷ xs);
        all = row_alike (suc n) x (x ∷ xs) fit.0 fit (row ∙ ap (replicate (suc n)) (sym first));
      }

  -- the item that comes next is the first of those that weren't read
  pub first_of : (xs : List Item) (log : List ItemSeen) (r : Option (ItemView × ℕ)) → AreUnread xs log
      → MatchOption r (log ≡ []) (λ x. StandsFirst log (shown x.0) x.1) → IsFirst (drop (length xs - length log) xs) r
  first_of xs log None unread none =
      let size : length log ≡ 0 = ap length none in
      drop_of_length-le xs {i = length xs - length log} (omega (arith, size))
  first_of xs log (Some x) unread first =
      let k = length xs - length log in
      let row = ap (take x.1) (sym (unread.last ∙ drop_map k xs)) ∙ first.row in
      row_begins (drop k xs) (shown x.0) x.1 (fit_behind k xs unread.fit) first.some row
