-- Items that aren't read yet.
use Rattle.std.specs.Prelude.{◌≡◌, ◌<◌, ℕ, List, [], ◌∷◌, ◌++◌, map, take, replicate, Bool, true, false}
use Rattle.feed_log.specs.declared.view.ItemKind.{ItemKind}
use Rattle.feed_log.specs.declared.view.ItemKind.TheVariants as kind
use Rattle.feed_log.specs.declared.view.ItemView.{ItemView}
use Rattle.feed_log.specs.Views.{ItemSeen, item_seen, view_of}
use Rattle.world_model.specs.Item.{Item}

-- an item and how many times it stands in a row
pub record Run : Type 0 where
  pub item : ItemSeen
  pub times : ℕ

abbrev pub run_items : Run → List ItemSeen
run_items r = replicate r.times r.item

-- what a view shows
abbrev pub shown : ItemView → ItemSeen
shown v = view_of v.kind v.a v.b v.bytes.now

abbrev pub is_empty : List ItemSeen → Bool
is_empty [] = true
is_empty (item ∷ items) = false

-- whether a slice begins with an item
abbrev pub begins_kind : ItemKind → Bool
begins_kind kind.Start = true
begins_kind kind.Transfer = true
begins_kind other = false

abbrev pub begins_seen : ItemSeen → Bool
begins_seen item = begins_kind item.kind

-- a log behind which these items were told
abbrev pub with_items : List ItemSeen → List Item → List ItemSeen
with_items unread items = unread ++ map item_seen items

-- the item is the first in the log, and stands there so many times in a row at least
pub record StandsFirst (unread : List ItemSeen) (item : ItemSeen) (times : ℕ) : Type 0 where
  pub some : 0 < times
  pub row : take times unread ≡ replicate times item
