-- What comes before the turn, and what others bring: further items.
use Rattle.std.proofs.Common.{◌≡◌, ◌≢◌, ◌+◌, ℕ, zero, suc, List, [], ◌∷◌, ◌++◌, map, Bool, true, false, Option, None, Some, refl, ◌∙◌, ap}
use Rattle.std.specs.Prelude.{◌==◌, if◌then◌else◌}
use Rattle.std.proofs.lemmas.Bool.{cond_both, eq-eqb, ne_eqb}
use Rattle.bind_book.specs.Stripe.{is_bound}
use Rattle.external_event.specs.declared.event.Occurrence.{Occurrence}
use Rattle.external_event.specs.declared.event.Occurrence.TheVariants as outside
use Rattle.filter_tree.specs.ClaimBook.{ClaimValue}
use Rattle.page_book.specs.Row.{belongs_to}
use Rattle.revocation_book.specs.Pending.{asked}
use Rattle.revocation_book.specs.declared.revocation.Pending.{Pending}
use Rattle.revocation_book.specs.declared.revocation.Taking.{Taking}
use Rattle.world_model.specs.Book.{Book, sees}
use Rattle.world_model.specs.ClaimCalls.{claim_of}
use Rattle.world_model.specs.Deadlines.{copy_left, settles, takes}
use Rattle.world_model.specs.Death.{lost_with}
use Rattle.world_model.specs.Event.{arrives, asks, happen, revokes, ring_bytes, ring_left, signals}
use Rattle.world_model.specs.Item.{Item, Packet, Taken, Line, Asked}
use Rattle.world_model.specs.PageCalls.{left_at, left_by, left_if, lost_bindings, lost_if, page_bytes}
use Rattle.world_model.specs.Rings.{page_store, ring_of}
use Rattle.world_model.specs.Solo.{Key, Kept, Physical, Store}
use Rattle.world_model.specs.Tick.{serve_phases}
use Rattle.world_model.specs.World.{World, Reply, after, in_turn, is_living, no_change, only, run_phases}
use Rattle.due_law.proofs.Dues.{AreFurther, further_both}

-- who is given items alone
pub only_own : (e : ℕ) (items : List Item) → only e items e ≡ items
only_own e items = ap (λ (t : Bool). if t then items else []) (eq-eqb e e refl)

pub only_away : (e other : ℕ) (items : List Item) → e ≢ other → only other items e ≡ []
only_away e other items ne = ap (λ (t : Bool). if t then items else []) (ne_eqb e other ne)

pub only_further : (e other : ℕ) (items : List Item) → AreFurther items → AreFurther (only other items e)
only_further e other items all = cond_both (e == other) items [] AreFurther (λ its. all) (λ away. tt)

-- what is left, and what is lost
if_left : (seen : Bool) (page : ℕ) (x : Store) → AreFurther (left_if seen page x)
if_left true page x = (refl, tt)
if_left false page x = tt

at_left : (b : Book) (writer : ℕ) (x : Store) (key : Key) (e : ℕ) → AreFurther (left_at b writer x key e)
at_left b writer x (Kept vpn) e = tt
at_left b writer x (Physical page) e = cond_both (e == writer) [] (left_if (sees b e page) page x) AreFurther (λ own. tt) (λ other. if_left (sees b e page) page x)

pub left_further : (b : Book) (writer : ℕ) (x : Store) (e : ℕ) → AreFurther (left_by b writer x e)
left_further b writer x e = at_left b writer x x.key e

if_lost : (bound : Bool) (page : ℕ) → AreFurther (lost_if bound page)
if_lost true page = (refl, tt)
if_lost false page = tt

pub lost_further : (b : Book) (page e : ℕ) → AreFurther (lost_bindings b page e)
lost_further b page e = if_lost (is_bound page (b.binds e)) page

pub all_lost_further : (b : Book) (gone e n : ℕ) → AreFurther (lost_with b gone e n)
all_lost_further b gone e zero = tt
all_lost_further b gone e (suc page) =
    further_both (lost_with b gone e page) (if belongs_to gone (b.pages page) then lost_bindings b page e else []) (all_lost_further b gone e page)
    (cond_both (belongs_to gone (b.pages page)) (lost_bindings b page e) [] AreFurther (λ its. lost_further b page e) (λ other. tt))

-- A reply gives further items alone, and who runs, runs on.
pub record IsAside (e : ℕ) (w : World) (r : Reply) : Type 0 where
  pub further : AreFurther (r.items e)
  pub runner : r.book.runner ≡ w.book.runner
  pub excess : r.book.excess e ≡ w.book.excess e
  pub quantum : r.book.quantum ≡ w.book.quantum

module _ (e : ℕ) (w : World) where
  pub nothing_aside : IsAside e w (no_change w)
  nothing_aside = record { further = tt; runner = refl; excess = refl; quantum = refl }

  ring_further : (owner page : ℕ) (bytes : Option (List ℕ)) → AreFurther (ring_left w.book owner page bytes e)
  ring_further owner page None = tt
  ring_further owner page (Some bytes) = left_further w.book owner (page_store page bytes) e

  packet_aside : (packet : List ℕ) (o : Option ClaimValue) → IsAside e w (arrives packet o w)
  packet_aside packet None = record { further = tt; runner = refl; excess = refl; quantum = refl }
  packet_aside packet (Some c) =
      let s = w.solos c.env in
      let bytes = ring_bytes s (ring_of s.rings c.id) packet in
      record {
        further = cond_both (e == c.env) (Packet c.id packet ∷ []) (ring_left w.book c.env c.page bytes e) AreFurther (λ its. (refl, tt)) (λ other. ring_further c.env c.page bytes);
        runner = refl;
        excess = refl;
        quantum = refl;
      }

  signal_aside : (line : ℕ) (o : Option ℕ) → IsAside e w (signals line o w)
  signal_aside line None = nothing_aside
  signal_aside line (Some owner) = record { further = only_further e owner (Line line ∷ []) (refl, tt); runner = refl; excess = refl; quantum = refl }

  asks_aside : (who : ℕ) (o : Option Pending) → IsAside e w (asks who o w)
  asks_aside who None = nothing_aside
  asks_aside who (Some p) = record { further = only_further e who (Asked p.outstanding p.deadline ∷ []) (refl, tt); runner = refl; excess = refl; quantum = refl }

  pub revokes_aside : (who count until : ℕ) → IsAside e w (revokes who count until w)
  revokes_aside who count until =
      let pending = asked count until (w.book.pending who) in
      cond_both (is_living w who) (asks who pending w) (no_change w) (IsAside e w) (λ lives. asks_aside who pending) (λ gone. nothing_aside)

  event_aside : (what : Occurrence) → IsAside e w (happen what w)
  event_aside (outside.Packet packet) = packet_aside packet (claim_of w.book packet)
  event_aside (outside.Line line) = signal_aside line (w.book.lines line)
  event_aside (outside.Revoke env count grace) = revokes_aside env count (w.book.time + grace)

  copy_further : (x : Taking) (backup : Option ℕ) → AreFurther (copy_left w x backup e)
  copy_further x None = tt
  copy_further x (Some backup) = left_further w.book x.env (page_store backup (page_bytes w x.page)) e

  taking_aside : (x : Taking) → IsAside e w (takes x w)
  taking_aside x = record {
    further = cond_both (e == x.env) (Taken x.page x.backup ∷ []) (copy_left w x x.backup e ++ lost_bindings w.book x.page e) AreFurther (λ its. (refl, tt))
        (λ other. further_both (copy_left w x x.backup e) (lost_bindings w.book x.page e) (copy_further x x.backup) (lost_further w.book x.page e));
    runner = refl;
    excess = refl;
    quantum = refl;
  }

-- So are all phases before the turn.
pub record AreAside (e : ℕ) (w : World) (phases : List (World → Reply)) : Type 0 where
  pub further : AreFurther ((in_turn phases w).items e)
  pub runner : (run_phases w phases).book.runner ≡ w.book.runner
  pub excess : (run_phases w phases).book.excess e ≡ w.book.excess e
  pub quantum : (run_phases w phases).book.quantum ≡ w.book.quantum

aside_on : (e : ℕ) (w : World) (p : World → Reply) (ps : List (World → Reply)) → IsAside e w (p w) → AreAside e (after w (p w)) ps → AreAside e w (p ∷ ps)
aside_on e w p ps first next = record {
  further = further_both ((p w).items e) ((in_turn ps (after w (p w))).items e) first.further next.further;
  runner = next.runner ∙ first.runner;
  excess = next.excess ∙ first.excess;
  quantum = next.quantum ∙ first.quantum;
}

serving_aside : (e : ℕ) (xs : List Taking) (w : World) → AreAside e w (serve_phases xs)
serving_aside e [] w =
    aside_on e w settles [] (record { further = tt; runner = refl; excess = refl; quantum = refl }) (record { further = tt; runner = refl; excess = refl; quantum = refl })
serving_aside e (x ∷ xs) w = aside_on e w (takes x) (serve_phases xs) (taking_aside e w x) (serving_aside e xs (after w (takes x w)))

pub early_aside : (e : ℕ) (happens : List Occurrence) (xs : List Taking) (w : World) → AreAside e w (map happen happens ++ serve_phases xs)
early_aside e [] xs w = serving_aside e xs w
early_aside e (what ∷ happens) xs w =
    aside_on e w (happen what) (map happen happens ++ serve_phases xs) (event_aside e w what) (early_aside e happens xs (after w (happen what w)))
