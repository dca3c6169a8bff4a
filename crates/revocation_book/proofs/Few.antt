-- No more pages are taken than aren't free: each is a victim of one environment, its owner.
use Rattle.std.proofs.Common.{◌≡◌, ℕ, zero, suc, ◌+◌, ◌≤◌, Bool, true, false, cond, List, [], ◌∷◌, length, length-append, length-take, refl, ap, arith}
use Rattle.std.specs.Prelude.{◌&&◌, nat_lt, not}
use Rattle.page_book.specs.declared.row.PageRow.{PageRow}
use Rattle.page_book.specs.declared.row.PageRow.TheVariants.{Free, Guaranteed, Owned}
use Rattle.page_book.specs.declared.row.Capabilities.{Capabilities}
use Rattle.page_book.specs.Row.{is_free, is_owned_by}
use Rattle.page_book.specs.Rows.{free_below}
use Rattle.revocation_book.specs.Pending.{is_due}
use Rattle.revocation_book.specs.Backups.{is_loaded}
use Rattle.revocation_book.specs.Takings.{Books, is_victim, paired, takings_below, victims, victims_below}

-- 1 if it is so
abbrev pub once : Bool → ℕ
once b = cond b 1 0

-- how many environments below a number own a page with this row
abbrev pub owners : PageRow → ℕ → ℕ
owners row zero = 0
owners row (suc e) = owners row e + once (is_owned_by e row)

-- how many of them have the page as a victim
abbrev pub takers : Books → ℕ → ℕ → ℕ
takers b zero page = 0
takers b (suc e) page = takers b e page + once (is_victim b e page)

-- how many victims they have of the pages below a number
abbrev pub all_victims : Books → ℕ → ℕ → ℕ
all_victims b zero count = 0
all_victims b (suc e) count = all_victims b e count + length (victims_below b e count)

-- a page of which nobody is the owner has none among them
no_owner : (row : PageRow) → ((e : ℕ) → is_owned_by e row ≡ false) → (envs : ℕ) → owners row envs ≡ 0
no_owner row none zero = refl
no_owner row none (suc e) = rw (no_owner row none e, none e) refl

-- an owner is one of them, or isn't
one_owner : (owner : ℕ) (words : Capabilities) (envs : ℕ) → owners (Owned owner words) envs ≤ once (nat_lt owner envs)
one_owner owner words zero = omega arith
one_owner owner words (suc e) = grind (arith, (one_owner owner words e))

-- a page that is free has no owner, and another one at most
one_at_most : (row : PageRow) (envs : ℕ) → owners row envs + once (is_free row) ≤ 1
one_at_most Free envs = rw (no_owner Free (λ e. refl) envs) (omega arith)
one_at_most (Guaranteed owner) envs = rw (no_owner (Guaranteed owner) (λ e. refl) envs) (omega arith)
one_at_most (Owned owner words) envs = grind (arith, one_owner)

-- a victim is owned
owned : (mine loaded : Bool) → once (mine && not loaded) ≤ once mine
owned mine loaded = grind arith

-- so who has a page as a victim owns it
takers_own : (b : Books) (envs page : ℕ) → takers b envs page ≤ owners (b.pages page) envs
takers_own b zero page = omega arith
takers_own b (suc e) page = omega (arith, takers_own b e page, owned (is_owned_by e (b.pages page)) (is_loaded (b.backups e) page))

-- a list of one page or none is as long as that
length_if : (b : Bool) (page : ℕ) → length (cond b (page ∷ []) []) ≡ once b
length_if b page = grind arith

-- one page more has so many victims more as it has takers
one_more : (b : Books) (envs page : ℕ) → all_victims b envs (suc page) ≡ all_victims b envs page + takers b envs page
one_more b zero page = refl
one_more b (suc e) page = rw (length-append (victims_below b e page)) (omega (arith, one_more b e page, length_if (is_victim b e page) page))

-- of no pages nobody has a victim
no_page : (b : Books) (envs : ℕ) → all_victims b envs 0 ≡ 0
no_page b zero = refl
no_page b (suc e) = rw (no_page b e) refl

-- a free page counts once
free_once : (free : Bool) (n : ℕ) → cond free (suc n) n ≡ n + once free
free_once free n = grind arith

-- of the pages below a number each is free, or the victim of one environment at most
few_victims : (b : Books) (envs count : ℕ) → all_victims b envs count + free_below b.pages count ≤ count
few_victims b envs zero = rw (no_page b envs) (omega arith)
few_victims b envs (suc page) =
    omega (arith, few_victims b envs page, free_once (is_free (b.pages page)) (free_below b.pages page), one_at_most (b.pages page) envs, one_more b envs page, takers_own b envs page)

-- each victim is taken once
pub length-paired : (e : ℕ) (pages backups : List ℕ) → length (paired e pages backups) ≡ length pages
length-paired e [] backups = refl
length-paired e (page ∷ pages) [] = ap suc (length-paired e pages [])
length-paired e (page ∷ pages) (backup ∷ backups) = ap suc (length-paired e pages backups)

-- no more is taken from an environment than it has victims
few_of : (b : Books) (time e : ℕ) (due : Bool) → length (cond due (paired e (victims b e) (b.backups e)) []) ≤ length (victims_below b e b.page_count)
few_of b time e true = rw (length-paired e (victims b e)) (omega (arith, length-take {A = ℕ}))
few_of b time e false = omega arith

-- and so from all below a number
few_below : (b : Books) (time envs : ℕ) → length (takings_below b time envs) ≤ all_victims b envs b.page_count
few_below b time zero = omega arith
few_below b time (suc e) = rw (length-append (takings_below b time e)) (omega (arith, few_below b time e, few_of b time e (is_due time (b.pending e))))

-- so no more is taken than isn't free
pub few_takings : (b : Books) (time envs : ℕ) → length (takings_below b time envs) + free_below b.pages b.page_count ≤ b.page_count
few_takings b time envs = omega (arith, few_below b time envs, few_victims b envs b.page_count)
