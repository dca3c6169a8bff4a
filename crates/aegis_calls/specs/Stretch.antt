-- Stretches of plain ticks, in which the runner steps and nothing else happens.
use Rattle.std.specs.Prelude.{◌≡◌, ◌≤◌, ◌<◌, ◌+◌, ◌-◌, ℕ, IsSome, None, Some}
use Rattle.aegis_limits.specs.Limits.{most_ticks}
use Rattle.revocation_book.specs.RevocationBook.{next_deadline}
use Rattle.r3k_machine.specs.declared.run.Steps.{Steps}
use Rattle.slot_vector.specs.Slices.{left_of}
use Rattle.world_model.specs.Book.{is_idle_book, running}
use Rattle.board_model.specs.Shown.{Shown}
use Rattle.board_model.specs.Showing.{world_of}
use Rattle.board_model.specs.Stretch.{ArePlain, plain_ticks}
use Rattle.aegis_calls.specs.Cached.{AreCachedTicks, GoesAsFar, stretched_with}
use Rattle.aegis_calls.specs.Entering.{Tells}
use Rattle.aegis_calls.specs.QuietTicks.{AreQuietTicks, AreSteadyTicks}

-- A stretch was made: in so many ticks, of those that were asked for, nothing happened but steps of one runner's, and it
-- went as far as such ticks go.
pub record IsStretch (old new : Shown) (asked made : ℕ) : Type 0 where
  pub world : AreQuietTicks old new made
  pub steady : AreSteadyTicks old made
  pub tlb : AreCachedTicks old new made
  pub idle : is_idle_book (world_of new).book ≡ is_idle_book (world_of old).book
  pub most : made ≤ asked
  pub stop : GoesAsFar old new asked made
  pub time : new.time ≡ old.time + made
  pub numbers : new.claims.next ≡ old.claims.next
  pub whole : new.roster.spare ≡ old.roster.spare
  pub ledger : new.ledger ≡ old.ledger

-- ---- what it is made of

-- An environment may make plain ticks, so many: it runs, and they come before the end of time, before the last tick of
-- its slice, and before the next deadline.
pub record MayStretch (b : Shown) (e asked : ℕ) : Type 0 where
  pub runs : running b.slots.runner ≡ Some e
  pub time : b.time + asked ≤ most_ticks
  pub left : asked < left_of b.slots.runner
  pub early : asked ≤ next_deadline b.revocations - b.time

-- how many plain ticks the runner may make at most, of those that are asked for
abbrev pub most_plain : Shown → ℕ → ℕ
most_plain b asked = plain_ticks b.slots b.revocations b.time asked

-- An environment made plain ticks, so many, and what they made of the TLB is the model's.
pub record ArePlainTicks (old new : Shown) (e made : ℕ) : Type 0 where
  pub after : new ≡ stretched_with old e made new.tlb
  pub plain : ArePlain old e made
  pub tlb : AreCachedTicks old new made

-- Steps are at most as many as were asked for. Where they are fewer, it is told whether the environment enters the kernel
-- by its next step, which then wants nothing more of memory.
pub record TellsOfSteps (now : Shown) (e asked : ℕ) (steps : Steps) : Type 0 where
  pub most : steps.made ≤ asked
  pub wanted : IsSome steps.wanted → steps.made < asked
  pub entry : IsSome steps.entry → steps.made < asked
  pub told : steps.made < asked → Tells now e steps.entry
  pub apart : IsSome steps.wanted → steps.entry ≡ None
