-- The phase of a tick in which no book changes but whose turn it is.
use Rattle.std.proofs.Common.{◌≡◌, ◌≤◌, ℕ, Option, Some, None, refl, sym, ◌∙◌, subst, arith}
use Rattle.std.proofs.lemmas.Grind.{common_steps}
use Rattle.std.specs.Prelude.{◌==◌}
use Rattle.page_book.specs.Row.{is_owned_by}
use Rattle.world_model.specs.declared.slot.Runner.{Runner}
use Rattle.world_model.specs.declared.slot.Turn.{Turn}
use Rattle.world_model.specs.Book.{Book, WholeTurn, whole_turn}
use Rattle.world_model.specs.Item.{Start}
use Rattle.world_model.specs.PageCalls.{page_bytes}
use Rattle.world_model.specs.World.{World, after, no_change}
use Rattle.world_model.specs.Tick.{take_turn, turn, turn_when}
use Rattle.page_laws.specs.Sight.{seen_in}
use Rattle.sharing_law.specs.Agreement.{AreBoundAllocated}
use Rattle.sharing_law.proofs.Given.{IsRested, given_rests, rests_same, started}
use Rattle.sharing_law.proofs.Sound.{Sound}

-- a book that lists what another lists
pub record ListsSame (old new : Book) : Type 0 where
  pub version : new.version ≡ old.version
  pub pages : new.pages ≡ old.pages
  pub binds : new.binds ≡ old.binds
  pub claims : new.claims ≡ old.claims
  pub next : new.next_claim ≡ old.next_claim
  pub backups : new.backups ≡ old.backups
  pub kept : new.kept ≡ old.kept
  pub lines : new.lines ≡ old.lines
  pub count : new.page_count ≡ old.page_count

pub same_lists : (b : Book) → ListsSame b b
same_lists b = record { version = refl; pages = refl; binds = refl; claims = refl; next = refl; backups = refl; kept = refl; lines = refl; count = refl }

pub allocated_same : (w v : World) → ListsSame w.book v.book → AreBoundAllocated w → AreBoundAllocated v
allocated_same w v same allocated e row b at = grind (arith, common_steps)

-- two worlds whose books list the same, and whose environments differ in their registers and their guaranteed pages alone
pub record IsAlike (w v : World) : Type 0 where
  pub solos : (i : ℕ) → IsRested (w.solos i) (v.solos i)
  pub lists : ListsSame w.book v.book

pub bytes_alike : (w v : World) → IsAlike w v → (page : ℕ) → page_bytes v page ≡ page_bytes w page
bytes_alike w v alike page = grind (arith, common_steps)

pub sound_alike : (w v : World) → IsAlike w v → Sound w → Sound v
sound_alike w v alike sound = record {
  agreed = λ e. record {
    binds = λ row. (λ k. (alike.solos e).binds k row) ∙ (sound.agreed e).binds row ∙ (λ k. sym alike.lists.binds k e row);
    seen = λ page. (λ k. (alike.solos e).seen k page) ∙ (sound.agreed e).seen page ∙ (λ k. seen_in e (sym alike.lists.pages k) (sym alike.lists.binds k e) (λ p. sym (bytes_alike w v alike p) k) page);
  };
  none = λ i cause died.
      let before = sound.none i cause (sym (alike.solos i).life ∙ died) in
      record { binds = λ row. (λ k. alike.lists.binds k i row) ∙ before.binds row; owns = λ page. (λ k. is_owned_by i (alike.lists.pages k page)) ∙ before.owns page };
  stripes = λ i row behind. (λ k. alike.lists.binds k i row) ∙ sound.stripes i row behind;
  behind = λ page more. (λ k. alike.lists.pages k page) ∙ sound.behind page (subst (λ (n : ℕ). n ≤ page) alike.lists.count more);
}

pub unchanged : (w : World) → IsAlike w (after w (no_change w))
unchanged w = record { solos = λ i. rests_same (w.solos i); lists = same_lists w.book }

-- The turn: who starts rests, and all others stay as they are.
turn_taken : (w : World) (told : WholeTurn) (x : Option Turn) → IsAlike w (after w (take_turn w told x))
turn_taken w told None = unchanged w
turn_taken w told (Some t) = record { solos = λ i. given_rests (w.solos i) Start (started (w.solos i)) (i == t.env); lists = record { version = refl; pages = refl; binds = refl; claims = refl; next = refl; backups = refl; kept = refl; lines = refl; count = refl } }

turn_by : (w : World) (o : Option Runner) → IsAlike w (after w (turn_when w o))
turn_by w None = turn_taken w (whole_turn w.book) (whole_turn w.book).runs
turn_by w (Some r) = unchanged w

pub turn_alike : (w : World) → IsAlike w (after w (turn w))
turn_alike w = turn_by w w.book.runner
