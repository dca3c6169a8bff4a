-- An environment to which nobody brings anything but the answers to its calls, and what their deeds bring.
use Rattle.std.specs.Prelude.{◌≡◌, ℕ, List, [], ◌∷◌, ◌++◌, true, false}
use Rattle.frame_store.specs.Pages.{zero_page}
use Rattle.world_model.specs.declared.call.Deed.{Deed}
use Rattle.world_model.specs.declared.call.Deed.TheVariants.{Allocates, Frees, Binds}
use Rattle.world_model.specs.declared.verdict.Verdict.{Verdict}
use Rattle.world_model.specs.declared.verdict.Verdict.TheVariants.{Grant}
use Rattle.world_model.specs.Item.{Item, Answer, Gained, Lost, absorb, absorb_all, deed_at}
use Rattle.world_model.specs.Solo.{Solo, absent, bytes_seen}
use Rattle.run_model.specs.Boot.{boot_items}
use Rattle.run_model.specs.Run.{System, feed}
use Rattle.quiet_law.specs.Beginning.{NeverDiffer}
use Rattle.due_law.specs.Standing.{is_further}
use Rattle.due_law.specs.Due.{AreAlike}

-- What a deed brings to its caller after the answer: an allocation zeros, a free a loss, and a bind of a page of its
-- own the bytes that it sees of it.
abbrev pub brought_by : Deed → Solo → List Item
brought_by (Allocates page words) s = Gained page true zero_page ∷ []
brought_by (Frees page) s = Lost page ∷ []
brought_by (Binds b word) s = Gained b.page b.writable (bytes_seen (s.seen b.page)) ∷ []
brought_by deed s = []

abbrev pub brought_with : Solo → Item → List Item
brought_with s (Answer (Grant value)) = brought_by (deed_at s value) s
brought_with s item = []

-- Each of these items is its own or an answer, or is what the last answer brings, right after it.
abbrev pub ArePrivate : List Item → Solo → List Item → Type 0
ArePrivate brought s [] = Unit {0}
ArePrivate [] s (x ∷ xs) = (is_further x ≡ false) × ArePrivate (brought_with s x) (absorb s x) xs
ArePrivate (b ∷ brought) s (x ∷ xs) = (x ≡ b) × ArePrivate brought (absorb s x) xs

-- so it is of an environment in t ticks, after what it is given at boot
pub record IsPrivate (system : System) (e t : ℕ) : Type 0 where
  pub more : List Item
  pub is : boot_items system.image e ++ more ≡ feed system e t
  pub private : ArePrivate [] (absorb_all (absent e) (boot_items system.image e)) more

-- the answers among items
abbrev pub answers_in : List Item → List Verdict
answers_in [] = []
answers_in (Answer verdict ∷ items) = verdict ∷ answers_in items
answers_in (item ∷ items) = answers_in items

-- It learns of others by the answers to its calls, and by nothing else: where these never differ in two systems, its
-- feeds never differ.
abbrev pub PrivateIsTold : Type 0
PrivateIsTold = (left right : System) (e t u : ℕ) → AreAlike left right e t u
    → IsPrivate left e t → IsPrivate right e u
    → NeverDiffer (answers_in (feed left e t)) (answers_in (feed right e u))
    → NeverDiffer (feed left e t) (feed right e u)
