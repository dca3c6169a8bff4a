-- Worlds are equal by their parts, and environments one by one.
use Rattle.std.proofs.Common.{◌≡◌, ◌≢◌, ℕ, List, [], sym, ◌∙◌, rules}
use Rattle.world_model.specs.Solo.{Solo}
use Rattle.world_model.specs.Item.{Item, absorb_all}
use Rattle.world_model.specs.Table.{set_at}
use Rattle.world_model.specs.World.{World, only}
pub use Rattle.page_laws.proofs.Tables.{by_number as by_env, set_here, set_else}

pub worlds : (v w : World) → v.book ≡ w.book → v.count ≡ w.count → ((i : ℕ) → v.solos i ≡ w.solos i) → v.rows ≡ w.rows → v ≡ w
worlds v w book count solos rows = λ k. record { book = book k; count = count k; solos = λ i. solos i k; rows = rows k }

pub only_here : (e : ℕ) (items : List Item) → only e items e ≡ items
only_here e items = set_here e items (λ i. [])

pub only_else : (e i : ℕ) (items : List Item) → i ≢ e → only e items i ≡ []
only_else e i items ne = set_else e i items (λ i. []) ne

-- where something was given to one alone
pub one_absorbed : (old new : ℕ → Solo) (e : ℕ) (its : List Item) → new e ≡ absorb_all (old e) its → ((i : ℕ) → i ≢ e → new i ≡ old i) → (i : ℕ) → new i ≡ absorb_all (old i) (only e its i)
one_absorbed old new e its here others = search (rules, by_env, only_here, only_else)

-- where one is another, and nobody else
pub one_changed : (old new : ℕ → Solo) (e : ℕ) (first : Solo) → new e ≡ first → ((i : ℕ) → i ≢ e → new i ≡ old i) → (i : ℕ) → new i ≡ set_at e first old i
one_changed old new e first here others = by_env new (set_at e first old) e (here ∙ sym (set_here e first old)) (λ i ne. others i ne ∙ sym (set_else e i first old ne))

-- where one is another, and is given something itself
pub one_given : (old new : ℕ → Solo) (e : ℕ) (first : Solo) (its : List Item) → new e ≡ absorb_all first its → ((i : ℕ) → i ≢ e → new i ≡ old i) → (i : ℕ) → new i ≡ absorb_all (set_at e first old i) (only e its i)
one_given old new e first its here others = search (rules, one_absorbed, set_here, set_else)
