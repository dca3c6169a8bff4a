-- A call that is to be made again: another environment is asked for a page, on the world that is shown.
use Rattle.std.proofs.Common.{◌≡◌, ◌≢◌, ◌≤◌, ℕ, ◌+◌, ◌*◌, List, [], ◌∷◌, ◌++◌, Bool, true, false, Option, Some, None, is_none, refl, sym, ◌∙◌, ap, arith, subst}
use Rattle.std.specs.Prelude.{if◌then◌else◌, slice_get}
use Rattle.std.proofs.lemmas.List.{append-nil}
use Rattle.std.proofs.lemmas.Bool.{cond_both}
use Rattle.revocation_book.specs.declared.revocation.Pending.{Pending}
use Rattle.revocation_book.specs.Pending.{asked}
use Rattle.revocation_book.specs.RevocationBook.{pending_at}
use Rattle.slot_vector.specs.Slices.{Slices}
use Rattle.world_model.specs.declared.verdict.Verdict.TheVariants.{Again}
use Rattle.world_model.specs.Event.{asks, revokes}
use Rattle.world_model.specs.Item.{Item, Answer, Asked, absorb_all}
use Rattle.world_model.specs.Solo.{Solo}
use Rattle.world_model.specs.Table.{set_at}
use Rattle.world_model.specs.Verdict.{asks_one, reply_by_verdict}
use Rattle.world_model.specs.World.{World, Reply, after, is_living, no_change, only, tells}
use Rattle.board_model.specs.declared.roster.Environment.{Environment}
use Rattle.board_model.specs.Shown.{Environments, Shown}
use Rattle.board_model.specs.Showing.{solo_of, world_of}
use Rattle.board_model.specs.Sound.{IsSoundBoard}
use Rattle.board_model.specs.Doing as doing
use Rattle.board_model.proofs.Parts.{by_env, only_else, set_else, set_here}
use Rattle.board_model.proofs.Phases.{quiet_world}
use Rattle.board_model.proofs.Replying.{Serves, again_answered}
use Rattle.board_model.proofs.Revoking.{revoked_world}
use Rattle.board_model.proofs.Seen.{IsNamed, Runs}

-- What an environment's asking leaves: the environments, slots, registers, claims and the time; and it writes a row at
-- most.
pub record LeavesAll (b new : Shown) : Type 0 where
  pub roster : new.roster ≡ b.roster
  pub slots : new.slots ≡ b.slots
  pub cpu : new.cpu ≡ b.cpu
  pub claims : new.claims ≡ b.claims
  pub time : new.time ≡ b.time
  pub room : b.ledger.spare ≤ new.ledger.spare + 1

all_left : (b : Shown) → LeavesAll b b
all_left b = record { roster = refl; slots = refl; cpu = refl; claims = refl; time = refl; room = omega arith }

pending_left : (b : Shown) (who : ℕ) (o : Option Pending) → LeavesAll b (doing.with_asked b who o)
pending_left b who None = record { roster = refl; slots = refl; cpu = refl; claims = refl; time = refl; room = omega arith }
pending_left b who (Some p) = record { roster = refl; slots = refl; cpu = refl; claims = refl; time = refl; room = omega arith }

revoked_left : (b : Shown) (who count deadline : ℕ) → LeavesAll b (doing.after_revocation b who count deadline)
revoked_left b who count deadline =
    let pending = asked count deadline (pending_at b.revocations who) in
    cond_both (is_living (world_of b) who) (doing.with_asked b who pending) b (LeavesAll b) (λ lives. pending_left b who pending) (λ gone. all_left b)

pub asked_left : (b : Shown) (who : ℕ) → LeavesAll b (doing.with_one_asked b who)
asked_left b who =
    let deadline = b.time + 2 * b.slots.quantum in
    cond_both (is_none (pending_at b.revocations who)) (doing.after_revocation b who 1 deadline) b (LeavesAll b) (λ nothing. revoked_left b who 1 deadline) (λ pending. all_left b)

-- the world once it is asked
asked_world : (b : Shown) (who : ℕ) → IsSoundBoard b → world_of (doing.with_one_asked b who) ≡ after (world_of b) (asks_one who (world_of b))
asked_world b who sound = by_test (is_none (pending_at b.revocations who))
  where
    deadline : ℕ
    deadline = b.time + 2 * b.slots.quantum

    by_test : (t : Bool) → world_of (if t then doing.after_revocation b who 1 deadline else b) ≡ after (world_of b) (if t then revokes who 1 deadline (world_of b) else no_change (world_of b))
    by_test true = revoked_world b who 1 deadline sound
    by_test false = quiet_world (world_of b)

-- nobody else is given anything
pending_else : (w : World) (who i : ℕ) (o : Option Pending) → i ≢ who → (asks who o w).items i ≡ []
pending_else w who i None ne = refl
pending_else w who i (Some p) ne = only_else who i (Asked p.outstanding p.deadline ∷ []) ne

asked_else : (w : World) (who i : ℕ) → i ≢ who → (asks_one who w).items i ≡ []
asked_else w who i ne =
    let deadline = w.book.time + 2 * w.book.quantum in
    let pending = asked 1 deadline (w.book.pending who) in
    cond_both (is_none (w.book.pending who)) (revokes who 1 deadline w) (no_change w) (λ (r : Reply). r.items i ≡ [])
    (λ nothing. cond_both (is_living w who) (asks who pending w) (no_change w) (λ (r : Reply). r.items i ≡ []) (λ lives. pending_else w who i pending ne) (λ gone. refl))
    (λ some. refl)

module _ (b : Shown) (e : ℕ) (x : Environment) (r : Runs b e x) (sound : IsSoundBoard b) (who : ℕ) (other : who ≢ e) where
  abbrev w : World
  w = world_of b

  abbrev asking : Shown
  asking = doing.with_one_asked b who

  abbrev items : ℕ → List Item
  items = (asks_one who w).items

  same : world_of asking ≡ after w (asks_one who w)
  same = asked_world b who sound

  still : Runs asking e x
  still = record {
    at = ap (λ (roster : Environments). slice_get roster.list e) (asked_left b who).roster ∙ r.at;
    lives = r.lives;
    runs = subst (λ (v : Slices). IsNamed e v.runner) (sym (asked_left b who).slots) r.runs;
  }

  answered : Serves asking e (solo_of asking e) (tells e (Answer (Again who)) (world_of asking)) (doing.after_answer asking (Again who))
  answered = again_answered asking e x still who

  mine : items e ≡ []
  mine = asked_else w who e (λ is. other (sym is))

  before : (i : ℕ) → solo_of asking i ≡ absorb_all (solo_of b i) (items i)
  before i = ap (λ (v : World). v.solos i) same

  here : solo_of (doing.after_answer asking (Again who)) e ≡ absorb_all (set_at e (solo_of b e) (solo_of b) e) (only e (Answer (Again who) ∷ []) e ++ items e)
  here =
      answered.solos e
      ∙ ap (λ (s : Solo). absorb_all s (only e (Answer (Again who) ∷ []) e)) (set_here e (solo_of asking e) (solo_of asking) ∙ before e ∙ ap (absorb_all (solo_of b e)) mine ∙ sym (set_here e (solo_of b e) (solo_of b)))
      ∙ ap (absorb_all (set_at e (solo_of b e) (solo_of b) e)) (sym (ap (λ its. only e (Answer (Again who) ∷ []) e ++ its) mine ∙ append-nil (only e (Answer (Again who) ∷ []) e)))

  there : (i : ℕ) → i ≢ e → solo_of (doing.after_answer asking (Again who)) i ≡ absorb_all (set_at e (solo_of b e) (solo_of b) i) (only e (Answer (Again who) ∷ []) i ++ items i)
  there i ne =
      answered.solos i
      ∙ ap (absorb_all (set_at e (solo_of asking e) (solo_of asking) i)) (only_else e i (Answer (Again who) ∷ []) ne)
      ∙ set_else e i (solo_of asking e) (solo_of asking) ne
      ∙ before i
      ∙ ap (λ (s : Solo). absorb_all s (items i)) (sym (set_else e i (solo_of b e) (solo_of b) ne))
      ∙ ap (λ its. absorb_all (set_at e (solo_of b e) (solo_of b) i) (its ++ items i)) (sym (only_else e i (Answer (Again who) ∷ []) ne))

  pub presses : Serves b e (solo_of b e) (reply_by_verdict w e (Again who)) (doing.after_answer asking (Again who))
  presses = record {
    book = ap (λ (v : World). v.book) same;
    count = ap (λ (v : World). v.count) same;
    solos = by_env (solo_of (doing.after_answer asking (Again who))) (λ i. absorb_all (set_at e (solo_of b e) (solo_of b) i) (only e (Answer (Again who) ∷ []) i ++ items i)) e here there;
    rows = ap (λ (v : World). v.rows) same;
    room = let left = (asked_left b who).room in omega (arith, left);
    spare = ap (λ (roster : Environments). roster.spare) (asked_left b who).roster;
    time = (asked_left b who).time;
  }
