-- Items that neither ask for pages nor take one.
use Rattle.std.proofs.Common.{◌≡◌, ℕ, zero, suc, List, [], ◌∷◌, ◌++◌, Bool, true, false, Option, None, Some, refl}
use Rattle.std.specs.Prelude.{◌==◌, if◌then◌else◌}
use Rattle.std.specs.List.{list_all}
use Rattle.std.proofs.lemmas.Bool.{and_from, and_parts, cond_both}
use Rattle.bind_book.specs.Stripe.{is_bound}
use Rattle.page_book.specs.Row.{belongs_to}
use Rattle.revocation_book.specs.declared.revocation.Taking.{Taking}
use Rattle.world_model.specs.Book.{Book, sees}
use Rattle.world_model.specs.Deadlines.{copy_left}
use Rattle.world_model.specs.Death.{lost_with}
use Rattle.world_model.specs.Event.{ring_left}
use Rattle.world_model.specs.Item.{Item, Asked, Taken}
use Rattle.world_model.specs.PageCalls.{left_at, left_by, left_if, lost_bindings, lost_if, page_bytes}
use Rattle.world_model.specs.Rings.{page_store}
use Rattle.world_model.specs.Solo.{Key, Kept, Physical, Store}
use Rattle.world_model.specs.Table.{set_at}
use Rattle.world_model.specs.World.{World, only}

abbrev pub is_plain : Item → Bool
is_plain (Asked outstanding deadline) = false
is_plain (Taken page backup) = false
is_plain item = true

abbrev pub ArePlain : List Item → Type 0
ArePlain items = list_all is_plain items ≡ true

pub plain_both : (xs ys : List Item) → ArePlain xs → ArePlain ys → ArePlain (xs ++ ys)
plain_both [] ys first second = second
plain_both (x ∷ xs) ys first second =
    let parts = and_parts (is_plain x) (list_all is_plain xs) first in
    and_from (is_plain x) (list_all is_plain (xs ++ ys)) parts.0 (plain_both xs ys parts.1 second)

pub plain_if : (t : Bool) (xs ys : List Item) → ArePlain xs → ArePlain ys → ArePlain (if t then xs else ys)
plain_if t xs ys first second = cond_both t xs ys ArePlain (λ is. first) (λ not. second)

pub plain_set : (i : ℕ) (xs : List Item) (f : ℕ → List Item) (e : ℕ) → ArePlain xs → ArePlain (f e) → ArePlain (set_at i xs f e)
plain_set i xs f e first second = plain_if (e == i) xs (f e) first second

pub plain_only : (i : ℕ) (xs : List Item) (e : ℕ) → ArePlain xs → ArePlain (only i xs e)
plain_only i xs e first = plain_if (e == i) xs [] first refl

-- what a break, a store, a packet, a taking or a death of another brings
lost_plain : (bound : Bool) (page : ℕ) → ArePlain (lost_if bound page)
lost_plain true page = refl
lost_plain false page = refl

pub breaks_plain : (b : Book) (page e : ℕ) → ArePlain (lost_bindings b page e)
breaks_plain b page e = lost_plain (is_bound page (b.binds e)) page

left_plain : (seen : Bool) (page : ℕ) (x : Store) → ArePlain (left_if seen page x)
left_plain true page x = refl
left_plain false page x = refl

left_at_plain : (b : Book) (writer : ℕ) (x : Store) (key : Key) (e : ℕ) → ArePlain (left_at b writer x key e)
left_at_plain b writer x (Kept vpn) e = refl
left_at_plain b writer x (Physical page) e = plain_if (e == writer) [] (left_if (sees b e page) page x) refl (left_plain (sees b e page) page x)

pub left_by_plain : (b : Book) (writer : ℕ) (x : Store) (e : ℕ) → ArePlain (left_by b writer x e)
left_by_plain b writer x e = left_at_plain b writer x x.key e

pub ring_left_plain : (b : Book) (owner page : ℕ) (bytes : Option (List ℕ)) (e : ℕ) → ArePlain (ring_left b owner page bytes e)
ring_left_plain b owner page None e = refl
ring_left_plain b owner page (Some bytes) e = left_by_plain b owner (page_store page bytes) e

pub copy_left_plain : (w : World) (x : Taking) (backup : Option ℕ) (e : ℕ) → ArePlain (copy_left w x backup e)
copy_left_plain w x None e = refl
copy_left_plain w x (Some backup) e = left_by_plain w.book x.env (page_store backup (page_bytes w x.page)) e

pub lost_with_plain : (b : Book) (gone e n : ℕ) → ArePlain (lost_with b gone e n)
lost_with_plain b gone e zero = refl
lost_with_plain b gone e (suc page) =
    plain_both (lost_with b gone e page) (if belongs_to gone (b.pages page) then lost_bindings b page e else []) (lost_with_plain b gone e page)
    (plain_if (belongs_to gone (b.pages page)) (lost_bindings b page e) [] (breaks_plain b page e) refl)
