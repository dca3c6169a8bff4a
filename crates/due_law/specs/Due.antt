-- What the feed of an environment that accepts nobody may have, and in what two such feeds may differ first.
use Rattle.std.specs.Prelude.{◌≡◌, ◌<◌, ◌⊎◌, ℕ, List, ◌∷◌, ◌++◌, Bool, true, false}
use Rattle.world_model.specs.Book.{is_idle_book}
use Rattle.world_model.specs.Item.{Item, Answer, absorb_all}
use Rattle.world_model.specs.Solo.{absent}
use Rattle.run_model.specs.Boot.{boot_items}
use Rattle.run_model.specs.Run.{System, at_step, feed, world_after}
use Rattle.due_law.specs.Standing.{AreDue, Waits, is_further}

-- at each step in the ticks below t, as long as the board isn't idle, the environment accepts nobody's yields and
-- transfers
abbrev pub AcceptsNobody : System → ℕ → ℕ → Type 0
AcceptsNobody system e t = (u : ℕ) → u < t → is_idle_book (world_after system u).book ≡ false
    → ((at_step system u).solos e).mask ≡ 0

-- after what it is given at boot, where it waits, each item is due where it comes
pub record IsDueAfter (quantum e : ℕ) (boot items : List Item) : Type 0 where
  pub more : List Item
  pub is : boot ++ more ≡ items
  pub due : AreDue quantum Waits (absorb_all (absent e) boot) more

-- So is each feed of an environment that accepts nobody. When its own items come, and which, is decided by itself alone
-- but for the answers to its calls, and for when it starts.
abbrev pub FeedIsDue : Type 0
FeedIsDue = (system : System) (e t : ℕ) → AcceptsNobody system e t
    → IsDueAfter system.image.quantum e (boot_items system.image e) (feed system e t)

abbrev pub is_answer : Item → Bool
is_answer (Answer verdict) = true
is_answer item = false

-- of two items one is further, or both are answers
abbrev pub AreTold : Item → Item → Type 0
AreTold x y = (is_further x ≡ true) ⊎ (is_further y ≡ true) ⊎ ((is_answer x ≡ true) × (is_answer y ≡ true))

-- In two systems an environment accepts nobody, is given the same at boot, and has one quantum.
pub record AreAlike (left right : System) (e t u : ℕ) : Type 0 where
  pub record_same : boot_items left.image e ≡ boot_items right.image e
  pub quantum_same : left.image.quantum ≡ right.image.quantum
  pub left_nobody : AcceptsNobody left e t
  pub right_nobody : AcceptsNobody right e u

-- Then the first items in which its feeds differ are told by the world: they are answers to its call, or one is
-- further.
abbrev pub DifferenceIsTold : Type 0
DifferenceIsTold = (left right : System) (e t u : ℕ) (same xs ys : List Item) (x y : Item) → AreAlike left right e t u
    → feed left e t ≡ boot_items left.image e ++ (same ++ x ∷ xs)
    → feed right e u ≡ boot_items right.image e ++ (same ++ y ∷ ys)
    → (x ≡ y) ⊎ AreTold x y
