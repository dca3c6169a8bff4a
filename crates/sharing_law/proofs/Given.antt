-- What an environment is given: items that leave its guaranteed pages and its life, and others.
use Rattle.std.proofs.Common.{◌≡◌, ◌≢◌, ℕ, zero, suc, List, [], ◌∷◌, ◌++◌, Bool, true, false, None, is_some, refl, ◌∙◌, ap, arith}
use Rattle.std.proofs.lemmas.Grind.{common_steps}
use Rattle.std.specs.Prelude.{◌==◌, if◌then◌else◌}
use Rattle.std.specs.Option.{option_map}
use Rattle.std.proofs.lemmas.Bool.{eqb-true, ne_eqb}
use Rattle.bind_book.specs.Stripe.{binding_at, row_of}
use Rattle.world_model.specs.declared.call.Deed.{Deed}
use Rattle.world_model.specs.declared.call.Deed.TheVariants.{Unbinds}
use Rattle.world_model.specs.declared.life.Life.TheVariants.{Live, Dead}
use Rattle.world_model.specs.declared.life.Cause.{Cause}
use Rattle.world_model.specs.declared.verdict.Verdict.{Verdict}
use Rattle.world_model.specs.declared.verdict.Verdict.TheVariants.{Refuse, Again, Grant}
use Rattle.world_model.specs.Page.{KeptPage}
use Rattle.world_model.specs.Table.{set_at}
use Rattle.world_model.specs.Book.{Book}
use Rattle.world_model.specs.Solo.{Solo, Store, Kept, is_dead, kept_after, kept_at, stored_page}
use Rattle.world_model.specs.Holding.{with_binds}
use Rattle.world_model.specs.Item.{Item, Start, Transfer, Answer, Asked, Gained, Lost, Left, absorb, absorb_all, absorbed, with_answer, deed_at, own_part}
use Rattle.world_model.specs.Death.{death_items, lost_with}
use Rattle.world_model.specs.PageCalls.{left_if, lost_if}
use Rattle.world_model.specs.World.{only}
use Rattle.world_model.proofs.Stores.{kept_as_was}
use Rattle.sharing_law.proofs.Choices.{either}

-- a store to a guaranteed page leaves those at other VPNs
pub kept_else : (kept : List KeptPage) (x : Store) (v vpn : ℕ) → x.key ≡ Kept v → vpn ≢ v → kept_at (kept_after kept x) vpn ≡ kept_at kept vpn
kept_else [] x v vpn key ne = refl
kept_else (p ∷ kept) x v vpn key ne = grind (arith, common_steps, ne_eqb, eqb-true, (kept_else kept x v vpn key ne))

-- and has its bytes in the page there
pub kept_here : (kept : List KeptPage) (x : Store) (v : ℕ) → x.key ≡ Kept v → kept_at (kept_after kept x) v ≡ option_map (stored_page x) (kept_at kept v)
kept_here [] x v key = refl
kept_here (p ∷ kept) x v key = grind (arith, common_steps, (kept_here kept x v key))

-- an item that leaves guaranteed pages and life
abbrev pub IsTold : Item → Type 0
IsTold (Answer verdict) = Unit {0}
IsTold (Gained page writable bytes) = Unit {0}
IsTold (Lost page) = Unit {0}
IsTold (Left page offset bytes) = Unit {0}
IsTold item = ⊥

abbrev pub AreTold : List Item → Type 0
AreTold [] = Unit {0}
AreTold (item ∷ items) = IsTold item × AreTold items

-- an environment that differs in its registers, its mask and its guaranteed pages alone
pub record IsRested (s t : Solo) : Type 0 where
  pub binds : t.binds ≡ s.binds
  pub seen : t.seen ≡ s.seen
  pub rings : t.rings ≡ s.rings
  pub life : t.life ≡ s.life

pub rests_same : (s : Solo) → IsRested s s
rests_same s = record { binds = refl; seen = refl; rings = refl; life = refl }

pub started : (s : Solo) → IsRested s (absorbed s Start)
started s = grind (arith, common_steps)

-- what holds of an environment, and once it has absorbed an item, holds whether it lives or not
pub absorb_or : (P : Solo → Type 0) (s : Solo) (item : Item) → P s → P (absorbed s item) → P (absorb s item)
absorb_or P s item was is = either P (is_dead s.life) s (absorbed s item) was is

-- so does who rests by an item, whether it is given it or not
pub given_rests : (s : Solo) (item : Item) → IsRested s (absorbed s item) → (mine : Bool) → IsRested s (absorb_all s (if mine then item ∷ [] else []))
given_rests s item rests mine = either (λ (items : List Item). IsRested s (absorb_all s items)) mine (item ∷ []) [] (absorb_or (IsRested s) s item (rests_same s) rests) (rests_same s)

-- an environment with the guaranteed pages and the life that it had
pub record Leaves (s t : Solo) : Type 0 where
  pub kept : t.kept ≡ s.kept
  pub life : t.life ≡ s.life

pub own_leaves : (s : Solo) (d : Deed) → Leaves s (own_part d s)
own_leaves s (Unbinds vpn) = either (Leaves s) (is_some (binding_at s.version s.binds vpn)) (with_binds (set_at (row_of s.version vpn) None s.binds) s) s (record { kept = refl; life = refl }) (record { kept = refl; life = refl })
own_leaves s d = record { kept = refl; life = refl }

answered_leaves : (s : Solo) (verdict : Verdict) → Leaves s (with_answer verdict s)
answered_leaves s (Refuse code value) = record { kept = refl; life = refl }
answered_leaves s (Again who) = record { kept = refl; life = refl }
answered_leaves s (Grant value) = let own = own_leaves s (deed_at s value) in record { kept = own.kept; life = own.life }

pub absorbed_leaves : (s : Solo) (item : Item) → IsTold item → Leaves s (absorbed s item)
absorbed_leaves s item told = grind (arith, common_steps, answered_leaves, kept_as_was)

pub told_leaves : (items : List Item) → AreTold items → (s : Solo) → Leaves s (absorb_all s items)
told_leaves [] told s = record { kept = refl; life = refl }
told_leaves (item ∷ items) (told, rest) s =
    let first = absorb_or (Leaves s) s item (record { kept = refl; life = refl }) (absorbed_leaves s item told) in
    let next = told_leaves items rest (absorb s item) in
    record { kept = next.kept ∙ first.kept; life = next.life ∙ first.life }

pub told_both : (xs ys : List Item) → AreTold xs → AreTold ys → AreTold (xs ++ ys)
told_both [] ys first next = next
told_both (x ∷ xs) ys (told, rest) next = (told, told_both xs ys rest next)

-- what one is given, and what the others are
pub told_at : (e i : ℕ) (items : List Item) (others : ℕ → List Item) → AreTold items → AreTold (others i) → AreTold (set_at e items others i)
told_at e i items others its rest = either AreTold (i == e) items (others i) its rest

pub told_only : (e i : ℕ) (items : List Item) → AreTold items → AreTold (only e items i)
told_only e i items its = told_at e i items (λ j. []) its tt

pub told_lost_if : (t : Bool) (page : ℕ) → AreTold (lost_if t page)
told_lost_if true page = (tt, tt)
told_lost_if false page = tt

told_left_if : (t : Bool) (page : ℕ) (x : Store) → AreTold (left_if t page x)
told_left_if true page x = (tt, tt)
told_left_if false page x = tt

pub told_left : (seen : Bool) (e i page : ℕ) (x : Store) → AreTold (if i == e then [] else left_if seen page x)
told_left seen e i page x = either AreTold (i == e) [] (left_if seen page x) tt (told_left_if seen page x)

told_losses : (b : Book) (gone i n : ℕ) → AreTold (lost_with b gone i n)
told_losses b gone i zero = tt
told_losses b gone i (suc n) = grind (arith, common_steps, told_both, told_lost_if, (told_losses b gone i n))

pub told_death : (b : Book) (gone i : ℕ) → AreTold (death_items b gone i)
told_death b gone i = either AreTold (i == gone) [] (lost_with b gone i b.page_count) tt (told_losses b gone i b.page_count)

-- At most the first of these items changes guaranteed pages, or life.
pub data Led (items : List Item) : Type 0 where
  Rests : AreTold items → Led items
  Leads : (item : Item) (rest : List Item) → AreTold rest → items ≡ item ∷ rest → Led items

pub led_more : (xs ys : List Item) → Led xs → AreTold ys → Led (xs ++ ys)
led_more xs ys (Rests told) more = Rests (told_both xs ys told more)
led_more xs ys (Leads item rest told is) more = Leads item (rest ++ ys) (told_both rest ys told more) (ap (λ items. items ++ ys) is)

pub led_only : (e i : ℕ) (item : Item) → Led (only e (item ∷ []) i)
led_only e i item = either Led (i == e) (item ∷ []) [] (Leads item [] tt refl) (Rests tt)

-- What the act of a runner gives to an environment: items that leave guaranteed pages and life, or to another the start of a slice, a transfer, or that it is asked for a page.
abbrev pub IsHanded : Item → Type 0
IsHanded Start = Unit {0}
IsHanded (Transfer from kind registers) = Unit {0}
IsHanded (Asked outstanding deadline) = Unit {0}
IsHanded item = ⊥

pub data Gives (e i : ℕ) (items : List Item) : Type 0 where
  Tells : AreTold items → Gives e i items
  Hands : e ≢ i → (item : Item) → IsHanded item → items ≡ item ∷ [] → Gives e i items

pub gives_led : (e i : ℕ) (items : List Item) → Gives e i items → Led items
gives_led e i items (Tells told) = Rests told
gives_led e i items (Hands another item handed is) = Leads item [] tt is

pub gives_own : (e i : ℕ) (items : List Item) → Gives e i items → e ≡ i → AreTold items
gives_own e i items (Tells told) own = told
gives_own e i items (Hands another item handed is) own = absurd (another own)

-- an environment that is started, entered or asked
pub handed_rests : (item : Item) → IsHanded item → (s : Solo) → IsRested s (absorb_all s (item ∷ []))
handed_rests item handed s = grind (arith, common_steps, given_rests, started)

pub gives_life : (e i : ℕ) (items : List Item) → Gives e i items → (s : Solo) → (absorb_all s items).life ≡ s.life
gives_life e i items (Tells told) s = (told_leaves items told s).life
gives_life e i items (Hands another item handed is) s = ap (λ (xs : List Item). (absorb_all s xs).life) is ∙ (handed_rests item handed s).life

-- Who lives absorbs what it is given, and who doesn't nothing.
pub absorbs : (s : Solo) (item : Item) (items : List Item) → s.life ≡ Live → absorb_all s (item ∷ items) ≡ absorb_all (absorbed s item) items
absorbs s item items lives = ap (λ life. absorb_all (if is_dead life then s else absorbed s item) items) lives

pub dead_absorbs : (s : Solo) (cause : Cause) (items : List Item) → s.life ≡ Dead cause → absorb_all s items ≡ s
dead_absorbs s cause [] died = refl
dead_absorbs s cause (item ∷ items) died = ap (λ life. absorb_all (if is_dead life then s else absorbed s item) items) died ∙ dead_absorbs s cause items died
