-- What is told of a phase.
use Rattle.std.specs.Prelude.{◌≡◌, ℕ, List, [], ◌∷◌, Option, Some, None, if◌then◌else◌}
use Rattle.feed_log.specs.Views.{IsFit, ItemSeen}
use Rattle.feed_log.specs.Log.{with_items}
use Rattle.page_book.specs.Row.{belongs_to}
use Rattle.world_model.specs.Book.{Book}
use Rattle.world_model.specs.PageCalls.{lost_bindings}
use Rattle.world_model.specs.declared.slot.Runner.{Runner}
use Rattle.world_model.specs.declared.timer.Timer.{Timer}
use Rattle.world_model.specs.declared.timer.Timer.TheVariants.{Nothing as NothingElapses}
use Rattle.world_model.specs.Item.{Item, deed_at}
use Rattle.world_model.specs.Solo.{Key, Kept, Physical, Store}
use Rattle.world_model.specs.Step.{Act, Nothing, Stores, Calls, Raises, Dies}
use Rattle.world_model.specs.Tick.{timer_now}
use Rattle.world_model.specs.declared.verdict.Verdict.{Verdict}
use Rattle.world_model.specs.declared.verdict.Verdict.TheVariants.{Refuse, Again, Grant}
use Rattle.world_model.specs.Verdict.{asks_one, done}
use Rattle.world_model.specs.World.{World, Reply, no_change}
use Rattle.feed_telling.specs.declared.act.NextAct.{NextAct}
use Rattle.feed_telling.specs.declared.act.NextAct.TheVariants as next

-- each item is fit to be shown
abbrev pub AreFit : List Item → Type 0
AreFit [] = Unit {0}
AreFit (item ∷ items) = IsFit item × AreFit items

-- these items, which are fit, were told at the end of a log
pub record AreTold (old new : List ItemSeen) (items : List Item) : Type 0 where
  pub log : new ≡ with_items old items
  pub fit : AreFit items

-- a store into a guaranteed page is seen by its owner alone
abbrev pub store_shown : Store → Key → NextAct
store_shown x (Kept vpn) = next.Aside
store_shown x (Physical page) = next.Stores page x.offset x.bytes

-- what others see of an act
abbrev pub act_shown : Act → NextAct
act_shown Nothing = next.Aside
act_shown (Stores x) = store_shown x x.key
act_shown (Calls call) = next.Calls
act_shown (Raises exc) = next.Aside
act_shown (Dies cause) = next.Dies

-- bytes that are stored at an offset of a page that isn't guaranteed
abbrev pub store_at : ℕ → ℕ → List ℕ → Store
store_at page offset bytes = record { key = Physical page; offset = offset; bytes = bytes }

-- who has bound a page of one that is gone loses it
abbrev pub lost_by_death : Book → ℕ → ℕ → ℕ → List Item
lost_by_death b gone page e = if belongs_to gone (b.pages page) then lost_bindings b page e else []

-- what comes behind the answer to an environment's call
abbrev pub behind_answer : World → ℕ → Verdict → Reply
behind_answer w e (Refuse code value) = no_change w
behind_answer w e (Again who) = asks_one who w
behind_answer w e (Grant value) = done w e (deed_at (w.solos e) value)

-- what the timer answers, for the runner if one runs
abbrev pub timer_when : World → Option Runner → Timer
timer_when w None = NothingElapses
timer_when w (Some r) = timer_now w r
