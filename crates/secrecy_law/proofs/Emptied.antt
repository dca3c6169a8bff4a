-- The dead are empty, and stay so.
use Rattle.std.proofs.Common.{◌≡◌, ◌≢◌, ℕ, List, [], ◌∷◌, map, Bool, true, false, Option, Some, None, inl, inr, refl, sym, ◌∙◌, ap, subst}
use Rattle.std.specs.Prelude.{◌⊎◌, if◌then◌else◌, filter}
use Rattle.std.proofs.lemmas.Bool.{ne_eqb}
use Rattle.boot_image.specs.ImageValue.{ImageValue}
use Rattle.filter_tree.specs.ClaimBook.{is_of_env}
use Rattle.page_book.specs.Row.{is_owned_by}
use Rattle.page_laws.specs.Sight.{seen_if}
use Rattle.bind_book.specs.Stripe.{is_bound}
use Rattle.revocation_book.specs.Backups.{is_loaded}
use Rattle.world_model.specs.declared.life.Cause.{Cause}
use Rattle.world_model.specs.declared.life.Life.{Life}
use Rattle.world_model.specs.declared.life.Life.TheVariants.{Live, Dead}
use Rattle.world_model.specs.declared.slot.Runner.{Runner}
use Rattle.revocation_book.specs.declared.revocation.Pending.{Pending}
use Rattle.world_model.specs.Book.{is_runner}
use Rattle.world_model.specs.LineCalls.{is_line_of}
use Rattle.call_verdicts.specs.Granted.{GrantedMay}
use Rattle.secrecy_law.proofs.Living.{are_of_living}
use Rattle.world_model.specs.Deadlines.{settles, takes}
use Rattle.world_model.specs.Event.{happen}
use Rattle.world_model.specs.Tick.{step, timer, turn}
use Rattle.world_model.specs.Item.{Item, Boot, Step, Start, End, Transfer, Killed, Answer, Gained, Lost, Left, Packet, Line, Asked, Taken, absorb, absorb_all, absorbed}
use Rattle.world_model.specs.PageCalls.{page_bytes}
use Rattle.world_model.specs.Solo.{Solo, absent, dead, is_dead}
use Rattle.world_model.specs.Step.{Act, Nothing, Stores, Calls, Raises, Dies, act_of, acted, step_alone}
use Rattle.world_model.specs.World.{World, Reply, after}
use Rattle.mips_exec.specs.Step.{cpu_after}
use Rattle.run_model.specs.Boot.{boot_items, boot_world}
use Rattle.run_model.specs.Excess.{BootsAccounted, IsAccounted, TicksKeepAccounts}
use Rattle.run_model.specs.Run.{System, world_after}
use Rattle.run_model.proofs.Lives.{keep_answer, keep_asked, keep_end, keep_gained, keep_line, keep_lost, keep_packet, keep_start, keep_taken, keep_transfer}
use Rattle.sharing_law.specs.Agreement.{BackupsAreOwned, BooksAgree, ClaimsAgree, claim_page, ring_page}
use Rattle.giving_law.proofs.Moments.{each_moment}
use Rattle.secrecy_law.specs.Dead.{DeadHaveNothing}

-- no binding, no page but guaranteed ones, no claim
pub record IsEmpty (s : Solo) : Type 0 where
  pub binds : (row : ℕ) → s.binds row ≡ None
  pub seen : (page : ℕ) → s.seen page ≡ None
  pub rings : s.rings ≡ []

-- so it is with the dead
abbrev IsEmptyDead : Solo → Type 0
IsEmptyDead s = (cause : Cause) → s.life ≡ Dead cause → IsEmpty s

dead_empty : (cause : Cause) (s : Solo) → IsEmpty (dead cause s)
dead_empty cause s = record { binds = λ row. refl; seen = λ page. refl; rings = refl }

-- An item leaves life, or it leaves an empty environment.
abbrev LivesOn : Solo → Solo → Type 0
LivesOn s t = (t.life ≡ s.life) ⊎ IsEmpty t

acted_lives : (act : Act) (s : Solo) → LivesOn s (acted act s)
acted_lives Nothing s = inl refl
acted_lives (Stores x) s = inl refl
acted_lives (Calls c) s = inl refl
acted_lives (Raises exc) s = inl refl
acted_lives (Dies cause) s = inr (dead_empty cause s)

-- a living environment's item
module _ (s : Solo) (lives : is_dead s.life ≡ false) where
  is_live : s.life ≡ Live
  is_live = by_life s.life refl
    where
      by_life : (l : Life) → s.life ≡ l → l ≡ Live
      by_life Live is = refl
      by_life (Dead cause) is = let clash : true ≡ false = sym (ap is_dead is) ∙ lives in cc

  -- it absorbs what it is given
  absorbs : (item : Item) → absorb s item ≡ absorbed s item
  absorbs item = ap (λ (d : Bool). if d then s else absorbed s item) lives

  item_lives : (item : Item) → LivesOn s (absorb s item)
  item_lives (Boot version number name entry accept kept) = inl (ap (λ (t : Solo). t.life) (absorbs (Boot version number name entry accept kept)) ∙ sym is_live)
  item_lives Step = subst (LivesOn s) (sym (absorbs Step)) (acted_lives (act_of s (step_alone s)) (record s { cpu = cpu_after s.cpu (step_alone s) }))
  item_lives Start = inl (keep_start s)
  item_lives End = inl (keep_end s)
  item_lives (Transfer from kind registers) = inl (keep_transfer from kind registers s)
  item_lives Killed = inr (subst IsEmpty (sym (absorbs Killed)) (dead_empty _ s))
  item_lives (Answer verdict) = inl (keep_answer verdict s)
  item_lives (Gained page writable bytes) = inl (keep_gained page writable bytes s)
  item_lives (Lost page) = inl (keep_lost page s)
  item_lives (Left page offset bytes) = inl (ap (λ (t : Solo). t.life) (absorbs (Left page offset bytes)))
  item_lives (Packet claim packet) = inl (keep_packet claim packet s)
  item_lives (Line line) = inl (keep_line line s)
  item_lives (Asked outstanding deadline) = inl (keep_asked outstanding deadline s)
  item_lives (Taken page backup) = inl (keep_taken page backup s)

item_keeps : (s : Solo) (item : Item) → IsEmptyDead s → IsEmptyDead (absorb s item)
item_keeps s item was = by_life (is_dead s.life) refl
  where
    by_life : (d : Bool) → is_dead s.life ≡ d → IsEmptyDead (absorb s item)
    by_life true died = subst IsEmptyDead (sym (ap (λ (d : Bool). if d then s else absorbed s item) died)) was
    by_life false lives = λ cause is. elim (item_lives s lives item) [
      | inl same ↦ let clash : true ≡ false = sym (ap is_dead (sym same ∙ is)) ∙ lives in cc
      | inr empty ↦ empty
    ]

all_keep : (items : List Item) (s : Solo) → IsEmptyDead s → IsEmptyDead (absorb_all s items)
all_keep [] s was = was
all_keep (item ∷ items) s was = all_keep items (absorb s item) (item_keeps s item was)

-- at each moment
abbrev AreEmptyDead : World → Type 0
AreEmptyDead w = (e : ℕ) → IsEmptyDead (w.solos e)

phase_keeps : (phase : World → Reply) (w : World) → AreEmptyDead w → AreEmptyDead (after w (phase w))
phase_keeps phase w was e = all_keep ((phase w).items e) (w.solos e) (was e)

boots_empty : (image : ImageValue) → AreEmptyDead (boot_world image)
boots_empty image e = all_keep (boot_items image e) (absent e) (λ cause is. cc)

empty_dead : (system : System) (t : ℕ) → AreEmptyDead (world_after system t)
empty_dead system t =
    each_moment AreEmptyDead (λ what. phase_keeps (happen what)) (λ x. phase_keeps (takes x)) (phase_keeps settles) (phase_keeps turn) (phase_keeps step) (phase_keeps timer) system (boots_empty system.image) t 0

-- what an environment has that the book lists
no_members : {A B : Type 0} (f : A → B) (xs : List A) → [] ≡ map f xs → xs ≡ []
no_members f [] is = refl
no_members f (x ∷ xs) is = cc

owned_seen : (owned bound : Bool) (bytes : List ℕ) → seen_if owned bound bytes ≡ None → owned ≡ false
owned_seen true bound bytes is = cc
owned_seen false bound bytes is = refl

runs_not : (e : ℕ) (o : Option Runner) → ((r : Runner) → o ≡ Some r → r.env ≢ e) → is_runner e o ≡ false
runs_not e None others = refl
runs_not e (Some r) others = ne_eqb r.env e (others r refl)

pub dead_have_nothing : GrantedMay → TicksKeepAccounts → BooksAgree → BackupsAreOwned → BootsAccounted → ClaimsAgree → DeadHaveNothing
dead_have_nothing granted keep agree backups boots claims system t e cause died =
    let w = world_after system t in
    let b = w.book in
    let empty = empty_dead system t e cause died in
    let agreed = agree system t e in
    let accounted : IsAccounted w = keep system.schedule (boot_world system.image) (boots system.image) t in
    let owns : (page : ℕ) → is_owned_by e (b.pages page) ≡ false =
    λ page. owned_seen (is_owned_by e (b.pages page)) (is_bound page (b.binds e)) (page_bytes w page) (sym (agreed.seen page) ∙ empty.seen page) in
    let lives_not : (n : ℕ) → (w.solos n).life ≡ Live → n ≢ e = λ n lives same. (let clash : Live ≡ Dead cause = sym lives ∙ ap (λ (m : ℕ). (w.solos m).life) same ∙ died in cc) in
    let holders = are_of_living granted system t 0 in
    record {
      owns = owns;
      sees = empty.seen;
      binds = λ row. sym (agreed.binds row) ∙ empty.binds row;
      claims = no_members claim_page (filter (is_of_env e) b.claims) (sym (ap (map ring_page) empty.rings) ∙ claims system t e);
      backups = λ page. none_loaded page (is_loaded (b.backups e) page) refl (owns page);
      lines = λ line. no_line line (w.book.lines line) refl (λ owner is. lives_not owner (holders.lines line owner is));
      pending = no_pending (w.book.pending e) refl (λ p is. lives_not e (holders.pending e p is) refl);
      slots = λ k hold is. (lives_not hold.owner (accounted.slots_live k hold is).0, lives_not hold.holder (accounted.slots_live k hold is).1);
      rests = runs_not e b.runner (λ r is. lives_not r.env (accounted.runner_lives r is));
    }
  where
    no_line : (line : ℕ) (o : Option ℕ) → (world_after system t).book.lines line ≡ o → ((owner : ℕ) → (world_after system t).book.lines line ≡ Some owner → owner ≢ e) → is_line_of e o ≡ false
    no_line line None is other = refl
    no_line line (Some owner) is other = ne_eqb owner e (other owner is)

    no_pending : (o : Option Pending) → (world_after system t).book.pending e ≡ o → ((p : Pending) → (world_after system t).book.pending e ≡ Some p → ⊥) → (world_after system t).book.pending e ≡ None
    no_pending None is never = is
    no_pending (Some p) is never = absurd (never p is)

    none_loaded : (page : ℕ) (loaded : Bool) → is_loaded ((world_after system t).book.backups e) page ≡ loaded → is_owned_by e ((world_after system t).book.pages page) ≡ false → loaded ≡ false
    none_loaded page false is none = refl
    none_loaded page true is none = let clash : true ≡ false = sym ((backups system t).owned e page is) ∙ none in cc
