-- Runs on their way to the end of a slice.
use Rattle.std.proofs.Common.{◌≡◌, ◌<◌, ◌≤◌, ◌+◌, ◌∙◌, ℕ, zero, suc, List, [], true, false, Option, Some, None, ap, arith, length, sym, inl, inr}
use Rattle.std.specs.Prelude.{◌⊎◌, is_some, min, replicate, slice_get}
use Rattle.std.proofs.lemmas.Bool.{cases_lt}
use Rattle.std.proofs.lemmas.List.{length-append, length-replicate}
use Rattle.aegis_limits.specs.Limits.{most_run_ticks}
use Rattle.world_model.specs.Book.{is_idle_book}
use Rattle.world_model.specs.Item.{Item}
use Rattle.run_model.specs.Run.{world_after}
use Rattle.run_model.specs.Slices.{IsEndOf, slices}
use Rattle.feed_log.specs.Views.{AlikeWhereShownAlike, ItemSeen, item_seen}
use Rattle.feed_log.specs.declared.view.ItemView.{ItemView}
use Rattle.feed_log.specs.Log.{shown}
use Rattle.feed_log.specs.Progress.{BeginsWith, IsFirst, IsOver, Progress, ended, unread}
use Rattle.twin_run.specs.Answer.{end_in_time, is_there, slices_in}
use Rattle.twin_run.specs.Course.{AreApart, AreNextSame, CameToEnd, FellShort, IsUnderWay, WentOnTo}
use Rattle.twin_run.specs.ItemText.{is_alike}
use Rattle.twin_run.proofs.Alike.{alike_same}
use Rattle.twin_run.proofs.Ends.{end_absent, end_none, end_there, slices_absent, slices_there}
use Rattle.twin_run.proofs.Feeds.{idle_slices, slices_by_one}
use Rattle.twin_run.proofs.Places.{get_repeated}

-- What stands at the front of a list stands there as often as is said.
there : (items : List Item) (seen : ItemSeen) (count : ℕ) (begins : BeginsWith items seen count) (i : ℕ) → i < count → slice_get items i ≡ Some begins.item
there items seen count begins i less = ap (λ (xs : List Item). slice_get xs i) begins.all ∙ get_repeated count begins.item begins.behind i less

has : (items : List Item) (seen : ItemSeen) (count : ℕ) → BeginsWith items seen count → count ≤ length items
has items seen count begins =
    let whole : length items ≡ count + length begins.behind =
    ap length begins.all ∙ length-append (replicate count begins.item) begins.behind ∙ ap (λ n. n + length begins.behind) (length-replicate count begins.item) in
    omega (arith, whole)

pub next_same : (p q : Progress) (a b : ItemSeen) (k l : ℕ) → AlikeWhereShownAlike → BeginsWith (unread p) a k → BeginsWith (unread q) b l → is_alike a b ≡ true → (m : ℕ) → m ≡ min k l → AreNextSame p q m
next_same p q a b k l alike first next is m least =
    let same : first.item ≡ next.item = alike first.item next.item first.fit next.fit (first.shown ∙ alike_same a b is ∙ sym next.shown) in
    let left_has = has (unread p) a k first in
    let right_has = has (unread q) b l next in
    record {
      left_has = omega (arith, left_has, least);
      right_has = omega (arith, right_has, least);
      same = λ i less.
          there (unread p) a k first i (omega (arith, less, least))
          ∙ ap Some same ∙ sym (there (unread q) b l next i (omega (arith, less, least)));
      apart = λ none. absurd (omega (arith, first.some, next.some, least, none));
    }

-- where one has no item, or the next ones aren't alike
pub none_same : (p q : Progress) → AreApart p q → AreNextSame p q 0
none_same p q apart = record {
  left_has = omega arith;
  right_has = omega arith;
  same = λ i less. absurd (omega (arith, less));
  apart = λ none. apart;
}

pub apart_unlike : (p q : Progress) (a b : ItemSeen) (k l : ℕ) → BeginsWith (unread p) a k → BeginsWith (unread q) b l → is_alike a b ≡ false → AreApart p q
apart_unlike p q a b k l first next unlike x y left right =
    let one : Some first.item ≡ Some x = sym (there (unread p) a k first 0 first.some) ∙ left in
    let other : Some next.item ≡ Some y = sym (there (unread q) b l next 0 next.some) ∙ right in
    let x_is : first.item ≡ x = cc in
    let y_is : next.item ≡ y = cc in
    let a_is : item_seen x ≡ a = ap item_seen (sym x_is) ∙ first.shown in
    let b_is : item_seen y ≡ b = ap item_seen (sym y_is) ∙ next.shown in
    ap (λ (s : ItemSeen). is_alike s (item_seen y)) a_is ∙ ap (is_alike a) b_is ∙ unlike

-- a list that has a first item isn't empty
pub not_empty : (items : List Item) (o : Option (ItemView × ℕ)) → IsFirst items o → is_some o ≡ true → items ≡ [] → ⊥
not_empty items None is some none = cc
not_empty items (Some first) is some none =
    let gone : None ≡ Some is.item = sym (ap (λ (xs : List Item). slice_get xs 0) none) ∙ there items (shown first.0) first.1 is 0 is.some in cc

-- how many slices have ended
pub at_most : (n : ℕ) (p : Progress) → IsUnderWay n p → ended p ≤ n
at_most n p on = by_ticks p.ticks on.fewer
  where
    by_ticks : (t : ℕ) → ((u : ℕ) → u < t → slices p.system p.env u < n) → slices p.system p.env t ≤ n
    by_ticks zero fewer = omega arith
    by_ticks (suc t) fewer =
        let before = fewer t (omega arith) in
        let more = slices_by_one p.system p.env t in
        omega (arith, before, more)

-- A run that is over ends no more slices. The limit is a number of its own here, since `slices` would be computed at a literal.
abbrev IsOverAt : ℕ → Progress → Type 0
IsOverAt most p = (p.ticks ≡ most) ⊎ (is_idle_book (world_after p.system p.ticks).book ≡ true)

pub over_still : (most : ℕ) (p : Progress) → IsOverAt most p → (t : ℕ) → p.ticks ≤ t → t ≤ most → slices p.system p.env t ≡ ended p
over_still most p (inl limit) t later within =
    let same : t ≡ p.ticks = omega (arith, limit, later, within) in ap (slices p.system p.env) same
over_still most p (inr idle) t later within = idle_slices p.system p.env p.ticks t idle later

over_before : (n most : ℕ) (p : Progress) → IsUnderWay n p → ended p < n → IsOverAt most p → (u : ℕ) → u ≤ most → slices p.system p.env u < n
over_before n most p on fewer over u within = elim (cases_lt u p.ticks) as (λ w. slices p.system p.env u < n) [
  | inl before ↦ on.fewer u before
  | inr later ↦ let same = over_still most p over u later within in omega (arith, same, fewer)
]

over_count : (most : ℕ) (p : Progress) → is_there p.system p.env ≡ true → p.ticks ≤ most → IsOverAt most p → slices_in p.system p.env most ≡ ended p
over_count most p present within over = slices_there p.system p.env most present ∙ over_still most p over most within (omega arith)

-- where its environment isn't there, it comes to no slice
pub absent_short : (n : ℕ) (p : Progress) → is_there p.system p.env ≡ false → FellShort n p 0
absent_short n p absent = record {
  no_end = end_absent p.system p.env n most_run_ticks absent;
  count = sym (slices_absent p.system p.env most_run_ticks absent);
}

-- a run that is over before slice n falls short of it
pub over_short : (n : ℕ) (p : Progress) → IsUnderWay n p → is_there p.system p.env ≡ true → ended p < n → IsOver p → FellShort n p (ended p)
over_short n p on present fewer over = record {
  no_end = end_none p.system p.env n most_run_ticks (over_before n most_run_ticks p on fewer over);
  count = sym (over_count most_run_ticks p present on.within over);
}

-- a run that has ended n slices has come to the end of slice n
pub end_reached : (n : ℕ) (p q : Progress) → WentOnTo n p q → is_there q.system q.env ≡ true → n ≤ ended q → CameToEnd n p q
end_reached n p q went present enough =
    let most = at_most n q went.under_way in
    let is : IsEndOf q.system q.env n q.ticks = record { reached = omega (arith, most, enough); fewest = went.under_way.fewer } in
    record {
      went = went;
      there = present;
      end = end_there q.system q.env n most_run_ticks q.ticks present is went.under_way.within;
      is_end = is;
    }

-- what falls short is the same of a run of the same system and environment
pub short_same : (n : ℕ) (p q : Progress) (k : ℕ) → q.system ≡ p.system → q.env ≡ p.env → FellShort n q k → FellShort n p k
short_same n p q k systems envs short = record {
  no_end = ap (λ s. end_in_time s p.env n most_run_ticks) (sym systems) ∙ ap (λ e. end_in_time q.system e n most_run_ticks) (sym envs) ∙ short.no_end;
  count = short.count ∙ ap (λ s. slices_in s q.env most_run_ticks) systems ∙ ap (λ e. slices_in p.system e most_run_ticks) envs;
}
