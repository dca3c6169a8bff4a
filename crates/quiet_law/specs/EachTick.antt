-- What a quiet environment is given at each tick, and not only where its slices end.
use Rattle.std.specs.Prelude.{◌≡◌, ◌<◌, ◌++◌, ℕ, suc, List, [], ◌∷◌, false}
use Rattle.world_model.specs.Item.{Item, Step, Start, End, Killed, Answer}
use Rattle.run_model.specs.Boot.{boot_items}
use Rattle.run_model.specs.Run.{System, feed}
use Rattle.run_model.specs.Slices.{runs_after, slices}
use Rattle.quiet_law.specs.Alone.{quiet_feed}
use Rattle.quiet_law.specs.Beginning.{IsBeginning, NeverDiffer}
use Rattle.quiet_law.specs.Quiet.{IsQuiet, IsQuietInBoth}

-- what it makes alone of so many slices
abbrev pub feed_alone : System → ℕ → ℕ → List Item
feed_alone system e n = quiet_feed e (boot_items system.image e) system.image.quantum n

-- At each tick its feed begins what it makes alone of one slice more than have ended,
abbrev pub QuietIsBeginning : Type 0
QuietIsBeginning = (system : System) (e t : ℕ) → 0 < system.image.quantum → IsQuiet system e t
    → IsBeginning (feed system e t) (feed_alone system e (suc (slices system e t)))

-- and has all that it makes alone of those that have ended;
abbrev pub QuietHasSlices : Type 0
QuietHasSlices = (system : System) (e t : ℕ) → 0 < system.image.quantum → IsQuiet system e t
    → IsBeginning (feed_alone system e (slices system e t)) (feed system e t)

-- between its slices it is just that.
abbrev pub QuietRests : Type 0
QuietRests = (system : System) (e t : ℕ) → 0 < system.image.quantum → IsQuiet system e t
    → runs_after system e t ≡ false → feed system e t ≡ feed_alone system e (slices system e t)

-- an item that an environment may be given though nobody else reaches it
abbrev pub IsOwnItem : Item → Type 0
IsOwnItem Step = Unit {0}
IsOwnItem Start = Unit {0}
IsOwnItem End = Unit {0}
IsOwnItem Killed = Unit {0}
IsOwnItem (Answer verdict) = Unit {0}
IsOwnItem item = ⊥

abbrev pub AreOwnItems : List Item → Type 0
AreOwnItems [] = Unit {0}
AreOwnItems (item ∷ items) = IsOwnItem item × AreOwnItems items

-- items after the record at boot that are all such
pub record IsOwnAfter (boot items : List Item) : Type 0 where
  pub more : List Item
  pub is : boot ++ more ≡ items
  pub own : AreOwnItems more

-- After its record it is given steps, the starts and the end of slices, its death of excess, and answers, and nothing
-- else.
abbrev pub QuietIsGivenOwn : Type 0
QuietIsGivenOwn = (system : System) (e t : ℕ) → 0 < system.image.quantum → IsQuiet system e t
    → IsOwnAfter (boot_items system.image e) (feed system e t)

-- In two systems neither of its feeds differs from the other as far as both go, whatever else the systems are.
abbrev pub QuietNeverDiffers : Type 0
QuietNeverDiffers = (left right : System) (e t u : ℕ) → IsQuietInBoth left right e t u
    → NeverDiffer (feed left e t) (feed right e u)
