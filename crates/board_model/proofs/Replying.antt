-- What an act or a call of the runner leaves, where it brings a reply.
use Rattle.std.proofs.Common.{◌≡◌, ◌≢◌, ◌≤◌, ℕ, ◌+◌, List, [], ◌∷◌, ◌++◌, length, refl, sym, ◌∙◌, ap, arith, rules}
use Rattle.std.proofs.lemmas.List.Sums.{fold-append}
use Rattle.std.proofs.lemmas.List.{append-nil}
use Rattle.world_model.specs.declared.code.Code.{Code}
use Rattle.world_model.specs.declared.call.Deed.{Deed}
use Rattle.world_model.specs.declared.call.Deed.TheVariants.{Answers}
use Rattle.world_model.specs.declared.verdict.Verdict.{Verdict}
use Rattle.world_model.specs.declared.verdict.Verdict.TheVariants.{Refuse, Again, Grant}
use Rattle.world_model.specs.Item.{Item, Answer, absorb, absorb_all, answered_cpu, deed_at, own_part}
use Rattle.world_model.specs.Solo.{Solo}
use Rattle.world_model.specs.Step.{Act, acted}
use Rattle.world_model.specs.Table.{set_at}
use Rattle.world_model.specs.Tick as tick
use Rattle.world_model.specs.Verdict.{done, reply_by_verdict}
use Rattle.world_model.specs.World.{Reply, after, in_turn, no_change, tells, no_items}
use Rattle.board_model.specs.declared.roster.Environment.{Environment}
use Rattle.board_model.specs.Shown.{Shown}
use Rattle.board_model.specs.Showing.{world_of, book_of, solo_of}
use Rattle.board_model.specs.Doing as doing
use Rattle.board_model.proofs.Parts.{worlds, by_env, set_here, set_else, one_changed, one_given}
use Rattle.board_model.proofs.Phases.{acted_brings, acted_world, told_first}
use Rattle.board_model.proofs.Seen.{same_solo, Runs, runner_solo, runner_seen}
use Rattle.kernel_journal.specs.Ledger.{Ledger}
use Rattle.world_model.specs.Book.{Book}

-- One environment has come to be another, each has absorbed then what it is given, and few rows are written.
pub record Serves (b : Shown) (e : ℕ) (first : Solo) (reply : Reply) (new : Shown) : Type 0 where
  pub book : book_of new ≡ reply.book
  pub count : length new.roster.list ≡ length b.roster.list
  pub solos : (i : ℕ) → solo_of new i ≡ absorb_all (set_at e first (solo_of b) i) (reply.items i)
  pub rows : new.ledger.rows ≡ b.ledger.rows ++ reply.rows
  pub room : b.ledger.spare ≤ new.ledger.spare + 128
  pub spare : new.roster.spare ≡ b.roster.spare
  pub time : new.time ≡ b.time

-- apart from a tick it is the world once the act is served
pub alone : (b : Shown) (e : ℕ) (act : Act) (new : Shown) → Serves b e (acted act (solo_of b e)) (tick.act_reply e act (world_of b)) new → world_of new ≡ tick.act_world (world_of b) e act
alone b e act new serves =
    let w = world_of b in
    worlds (world_of new) (after (acted_world w e act) (tick.act_reply e act w)) serves.book serves.count serves.solos serves.rows
    ∙ ap (after (acted_world w e act)) (sym (acted_brings w e act))

-- and where what the runner is told makes it do the act it is the world after both
pub told : (b : Shown) (e : ℕ) (item : Item) (act : Act) (new : Shown) → Serves b e (acted act (solo_of b e)) (tick.act_reply e act (world_of b)) new → absorb (solo_of b e) item ≡ acted act (solo_of b e) →
    world_of new ≡ after (world_of b) (in_turn (tells e item ∷ tick.act_reply e act ∷ []) (world_of b))
told b e item act new serves acts = alone b e act new serves ∙ sym (told_first (world_of b) e item act acts)

-- where one did something itself, and each is given something
pub all_given : (old new : ℕ → Solo) (e : ℕ) (first : Solo) (its : List Item) (theirs : ℕ → List Item) → new e ≡ absorb_all first its → ((i : ℕ) → i ≢ e → new i ≡ absorb_all (old i) (theirs i)) → (i : ℕ) → new i ≡ absorb_all (set_at e first old i) (set_at e its theirs i)
all_given old new e first its theirs here others = search (rules, by_env, set_here, set_else)

-- what stays where nothing is written: the ledger, how many environments may come yet, and the time
abbrev unwritten : Shown → Ledger × (ℕ × ℕ)
unwritten b = (b.ledger, (b.roster.spare, b.time))

-- where nothing is written, and one alone comes to be another
pub changes_one : {b : Shown} {e : ℕ} {first : Solo} {book : Book} {new : Shown} → unwritten new ≡ unwritten b → book_of new ≡ book → length new.roster.list ≡ length b.roster.list → solo_of new e ≡ first → ((i : ℕ) → i ≢ e → solo_of new i ≡ solo_of b i)
    → Serves b e first (record { book = book; items = no_items; rows = [] }) new
changes_one {b} {e} {first} {book} {new} same books count here others = record {
  book = books;
  count = count;
  solos = one_changed (solo_of b) (solo_of new) e first here others;
  rows = ap (λ u. u.0.rows) same ∙ sym (append-nil b.ledger.rows);
  room = let spare : new.ledger.spare ≡ b.ledger.spare = ap (λ u. u.0.spare) same in omega (arith, spare);
  spare = ap (λ u. u.1.0) same;
  time = ap (λ u. u.1.1) same;
}

-- an environment whose call is granted with a value, once it has done its own part
abbrev pub deeded : Deed → ℕ → Solo → Solo
deeded d v s = record (own_part d s) { cpu = answered_cpu (Grant v) s.cpu }

module _ (b : Shown) (e : ℕ) (x : Environment) (r : Runs b e x) where
  pub answered_others : (verdict : Verdict) (i : ℕ) → i ≢ e → solo_of (doing.after_answer b verdict) i ≡ solo_of b i
  answered_others verdict i ne = same_solo i (doing.after_answer b verdict) b (record { version = refl; record_is = refl; rings = refl; idles = r.runs.others i ne; idled = r.runs.others i ne; pages = refl; binds = refl; sights = refl })

  pub answered_seen : (verdict : Verdict) → solo_of (doing.after_answer b verdict) e ≡ record (runner_solo b e x) { cpu = answered_cpu verdict b.cpu }
  answered_seen verdict = runner_seen (doing.after_answer b verdict) e x (record { at = r.at; lives = r.lives; runs = r.runs })

  -- what the runner does is what is done of it as it is shown
  pub deeded_seen : (d : Deed) (v : ℕ) → deeded d v (runner_solo b e x) ≡ deeded d v (solo_of b e)
  deeded_seen d v = ap (deeded d v) (sym (runner_seen b e x r))

  -- a call is refused
  pub refuses : (why : Code) (v : ℕ) → Serves b e (solo_of b e) (reply_by_verdict (world_of b) e (Refuse why v)) (doing.after_answer b (Refuse why v))
  refuses why v = search (rules, one_given, runner_seen, append-nil, answered_seen, answered_others)

  -- a call is to be made again: its answer alone
  pub again_answered : (who : ℕ) → Serves b e (solo_of b e) (tells e (Answer (Again who)) (world_of b)) (doing.after_answer b (Again who))
  again_answered who = search (rules, one_given, runner_seen, append-nil, answered_seen, answered_others)

  -- a call is answered, and that is all
  pub answers : (v : ℕ) → Serves b e (deeded Answers v (solo_of b e)) (no_change (world_of b)) (doing.after_answer b (Grant v))
  answers v = changes_one refl refl refl (answered_seen (Grant v) ∙ deeded_seen Answers v) (answered_others (Grant v))

  -- a call is granted: what it does comes behind the answer
  pub granted_serves : (v : ℕ) (new : Shown) → Serves b e (deeded (deed_at (solo_of b e) v) v (solo_of b e)) (done (world_of b) e (deed_at (solo_of b e) v)) new → Serves b e (solo_of b e) (reply_by_verdict (world_of b) e (Grant v)) new
  granted_serves v new serves = search (rules, fold-append, runner_seen, one_given, set_here, set_else)
