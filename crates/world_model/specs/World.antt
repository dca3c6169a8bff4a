-- The world: one book, a lonely machine for each environment, and the ledger.
use Rattle.std.specs.Prelude.{ℕ, Bool, not, nat_lt, ◌&&◌, List, [], ◌∷◌, ◌++◌}
use Rattle.kernel_journal.specs.declared.row.Row.{Row}
use Rattle.world_model.specs.Table.{set_at}
use Rattle.world_model.specs.Book.{Book}
use Rattle.world_model.specs.Solo.{Solo, is_dead}
use Rattle.world_model.specs.Item.{Item, absorb_all}

-- environments are numbered below count; from there on each Solo is that of an absent environment
pub record World : Type 0 where
  pub book : Book
  pub count : ℕ
  pub solos : ℕ → Solo
  pub rows : List Row

-- whether there is an environment of this number, and it lives
abbrev pub is_living : World → ℕ → Bool
is_living w e = nat_lt e w.count && not (is_dead (w.solos e).life)

-- what a phase of a tick gives: a new book, items for each environment, and rows of the ledger
pub record Reply : Type 0 where
  pub book : Book
  pub items : ℕ → List Item
  pub rows : List Row

abbrev pub no_items : ℕ → List Item
no_items i = []

-- these items go to one environment alone
abbrev pub only : ℕ → List Item → ℕ → List Item
only e items = set_at e items no_items

-- the world once each environment has absorbed its items
abbrev pub after : World → Reply → World
after w r = record {
  book = r.book;
  count = w.count;
  solos = λ i. absorb_all (w.solos i) (r.items i);
  rows = w.rows ++ r.rows;
}

-- the world after phases, one after another
abbrev pub run_phases : World → List (World → Reply) → World
run_phases w [] = w
run_phases w (phase ∷ phases) = run_phases (after w (phase w)) phases

-- nothing happens
abbrev pub no_change : World → Reply
no_change w = record { book = w.book; items = no_items; rows = [] }

-- an environment is given an item, and nothing else happens
abbrev pub tells : ℕ → Item → World → Reply
tells e item w = record { book = w.book; items = only e (item ∷ []); rows = [] }

-- a reply, and then another
abbrev pub followed : Reply → Reply → Reply
followed r s = record { book = s.book; items = λ e. r.items e ++ s.items e; rows = r.rows ++ s.rows }

-- phases as one: each in the world that those before it leave
abbrev pub in_turn : List (World → Reply) → World → Reply
in_turn [] w = no_change w
in_turn (phase ∷ phases) w = followed (phase w) (in_turn phases (after w (phase w)))
