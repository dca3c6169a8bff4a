-- Requests, deaths, turns, steps and the timer.
use Rattle.std.proofs.Common.{arith, refl, sym, ◌∙◌, ap, subst, ◌≡◌, ◌<◌, ◌≤◌, ◌+◌, ◌*◌, ℕ, zero, suc, List, [], ◌∷◌, map, Bool, true, false, ◌&&◌, Option, None, Some}
use Rattle.std.specs.Prelude.{◌==◌, if◌then◌else◌, is_none, min, nat_le, nat_lt, not}
use Rattle.std.proofs.lemmas.Bool.{and_from, and_parts, cond_both, eqb-false, eqb-true, le-leb, lt-ltb}
use Rattle.kernel_journal.specs.declared.row.Row.{Row}
use Rattle.kernel_journal.specs.declared.row.Row.TheVariants as row
use Rattle.env_frames.specs.declared.transfer.TransferKind.TheVariants as kind
use Rattle.revocation_book.specs.declared.revocation.Pending.{Pending}
use Rattle.revocation_book.specs.Pending.{asked, lowered, most_outstanding, outstanding_in, pending_of}
use Rattle.world_model.specs.declared.call.Deed.{Deed}
use Rattle.world_model.specs.declared.call.Deed.TheVariants.{Answers, Own, Stops, Gives, Allocates, Frees, Recaps, Binds, Unbinds, Transfers, TakesSlot, DropsSlot, TakesLine, DropsLine, Claims, Unclaims, Downloads, Loads}
use Rattle.world_model.specs.declared.hold.Hold.{Hold}
use Rattle.world_model.specs.declared.life.Cause.{Cause}
use Rattle.world_model.specs.declared.slot.Runner.{Runner}
use Rattle.world_model.specs.declared.slot.Turn.{Turn}
use Rattle.world_model.specs.declared.timer.Timer.{Timer}
use Rattle.world_model.specs.declared.timer.Timer.TheVariants as answer
use Rattle.world_model.specs.declared.verdict.Verdict.{Verdict}
use Rattle.world_model.specs.declared.verdict.Verdict.TheVariants.{Refuse, Again, Grant}
use Rattle.mips_exec.specs.Step.{cpu_after}
use Rattle.world_model.specs.Book.{has_part, hold_without, whole_turn}
use Rattle.world_model.specs.Death.{death, released_row, released_rows}
use Rattle.world_model.specs.Event.{asks, revokes}
use Rattle.world_model.specs.Item.{Answer, Killed, Step, absorb, deed_at}
use Rattle.world_model.specs.SlotCalls.{dropped, slot_row}
use Rattle.world_model.specs.Solo.{Solo, is_dead}
use Rattle.world_model.specs.Step.{Act, Nothing, Stores, Calls, Raises, Dies, act_of, acted, step_alone, stepped}
use Rattle.world_model.specs.Table.{set_at}
use Rattle.world_model.specs.Tick.{act_now, act_reply, clock, count_when, kill, owes_more, pay_row, step, step_when, take_turn, timer, timer_now, timer_reply, turn, turn_when}
use Rattle.world_model.specs.Verdict.{asks_one, done, reply_by_verdict, verdict}
use Rattle.world_model.specs.World.{World, Reply, after, followed, is_living, no_change, tells}
use Rattle.ledger_audit.specs.StrictRules.{RequestState, requests_after}
use Rattle.run_model.proofs.Telling.{told_own}
use Rattle.strict_law.proofs.Requests.{AreQuiet, Covers, Eased, Fewer, Goes, IsKept, Same, goes_followed, are_kept, is_quiet, quiet_both, quiet_goes, quiet_rows, requests_from, stays_dead}

-- nothing happens to what is pending
pub same_goes : (time : ℕ) (w : World) (r : Reply) (s : RequestState) → AreQuiet r.rows → r.book.pending ≡ w.book.pending → IsKept time w s → Goes time w r s
same_goes time w r s quiet same is = quiet_goes time w r s quiet (λ e. Same (ap (λ (f : ℕ → Option Pending). f e) same)) is

-- Requests. An environment that isn't dead by the rows is asked for pages, with a deadline that isn't over.
record IsRequest (w : World) (r : Reply) (t who pages deadline : ℕ) : Type 0 where
  rows : r.rows ≡ row.Asked t who pages deadline ∷ []
  pending : r.book.pending ≡ set_at who (Some (record { outstanding = pages; deadline = deadline })) w.book.pending
  some : 0 < pages
  later : t ≤ deadline

request_goes : (time t who pages deadline : ℕ) (w : World) (r : Reply) (s : RequestState) → IsRequest w r t who pages deadline → s.dead who ≡ false → time ≤ deadline → IsKept time w s → Goes time w r s
request_goes time t who pages deadline w r s asks lives ahead is = record {
  kept =
      let alive : not (s.dead who) ≡ true = ap not lives in
      let here = and_from (not (s.dead who)) (nat_lt 0 pages && nat_le t deadline) alive (and_from (nat_lt 0 pages) (nat_le t deadline) (lt-ltb 0 pages asks.some) (le-leb t deadline asks.later)) in
      subst (λ (rows : List Row). are_kept s rows ≡ true) (sym asks.rows) (and_from (not (s.dead who) && (nat_lt 0 pages && nat_le t deadline)) true here refl);
  now = subst (λ (rows : List Row). IsKept time (after w r) (requests_from s rows)) (sym asks.rows) (record {
    covers = λ e. subst (λ (f : ℕ → Option Pending). Covers time (f e) (if e == who then pages else s.pages e) (if e == who then deadline else s.deadline e)) (sym asks.pending) (by_whom e (e == who));
    dead = λ e gone. stays_dead w r e (is.dead e gone);
  });
}
  where
    by_whom : (e : ℕ) (b : Bool)
        → Covers time (if b then Some (record { outstanding = pages; deadline = deadline }) else w.book.pending e) (if b then pages else s.pages e) (if b then deadline else s.deadline e)
    by_whom e true = record { some = asks.some; most = omega arith; until = refl; ahead = ahead }
    by_whom e false = is.covers e

-- who lives isn't dead by the rows
lives_by_rows : (time : ℕ) (w : World) (s : RequestState) (e : ℕ) → IsKept time w s → is_living w e ≡ true → s.dead e ≡ false
lives_by_rows time w s e is lives = by_test (s.dead e) refl
  where
    alive : not (is_dead (w.solos e).life) ≡ true
    alive = (and_parts (nat_lt e w.count) (not (is_dead (w.solos e).life)) lives).1

    by_test : (b : Bool) → s.dead e ≡ b → b ≡ false
    by_test false here = refl
    by_test true here = let never : not true ≡ true = sym (ap not (is.dead e here)) ∙ alive in cc

record IsNew (pages deadline : ℕ) (p : Pending) : Type 0 where
  some : 0 < p.outstanding
  its : p.deadline ≡ deadline

new_pending : (outstanding deadline : ℕ) (p : Pending) → pending_of outstanding deadline ≡ Some p → IsNew outstanding deadline p
new_pending outstanding deadline p =
    cond_both (outstanding == 0) None (Some (record { outstanding = outstanding; deadline = deadline })) (λ (o : Option Pending). o ≡ Some p → IsNew outstanding deadline p)
    (λ none is. cc)
    (λ more is. let same : record { outstanding = outstanding; deadline = deadline } ≡ p = cc in subst (IsNew outstanding deadline) same (record { some = omega (arith, eqb-false outstanding 0 more); its = refl }))

-- A reply to a world, after which another has the same book and the same dead.
module _ (time : ℕ) (w v : World) (s : RequestState) (pending : w.book.pending ≡ v.book.pending) (was : IsKept time w s) (is : IsKept time v s) where
  quiet_there : (r : Reply) → AreQuiet r.rows → r.book.pending ≡ w.book.pending → Goes time v r s
  quiet_there r quiet same = same_goes time v r s quiet (same ∙ pending) is

  asks_there : (e count deadline : ℕ) → is_living w e ≡ true → w.book.time ≤ deadline → time ≤ deadline → (o : Option Pending) → asked count deadline (w.book.pending e) ≡ o → Goes time v (asks e o w) s
  asks_there e count deadline lives later ahead None none = quiet_there (no_change w) refl refl
  asks_there e count deadline lives later ahead (Some p) some =
      let new = new_pending (min most_outstanding (outstanding_in (w.book.pending e) + count)) deadline p some in
      request_goes time w.book.time e p.outstanding p.deadline v (asks e (Some p) w) s
      (record { rows = refl; pending = ap (set_at e (Some p)) pending; some = new.some; later = omega (arith, new.its, later) }) (lives_by_rows time w s e was lives) (omega (arith, new.its, ahead)) is

  pub revokes_there : (e count deadline : ℕ) → w.book.time ≤ deadline → time ≤ deadline → Goes time v (revokes e count deadline w) s
  revokes_there e count deadline later ahead =
      cond_both (is_living w e) (asks e (asked count deadline (w.book.pending e)) w) (no_change w) (λ (r : Reply). Goes time v r s)
      (λ lives. asks_there e count deadline lives later ahead (asked count deadline (w.book.pending e)) refl) (λ gone. quiet_there (no_change w) refl refl)

  asks_one_there : (who : ℕ) → time ≤ w.book.time + 2 * w.book.quantum → Goes time v (asks_one who w) s
  asks_one_there who ahead =
      let until = w.book.time + 2 * w.book.quantum in
      cond_both (is_none (w.book.pending who)) (revokes who 1 until w) (no_change w) (λ (r : Reply). Goes time v r s)
      (λ nothing. revokes_there who 1 until (omega arith) ahead) (λ some. quiet_there (no_change w) refl refl)

  -- deeds
  slot_quiet : (t k : ℕ) (hold : Option Hold) → is_quiet (slot_row t k hold) ≡ true
  slot_quiet t k None = refl
  slot_quiet t k (Some hold) = refl

  one_quiet : (r : Row) → is_quiet r ≡ true → AreQuiet (r ∷ [])
  one_quiet r quiet = and_from (is_quiet r) true quiet refl

  deed_quiet : (e : ℕ) (d : Deed) → AreQuiet (done w e d).rows
  deed_quiet e Answers = refl
  deed_quiet e (Own own) = refl
  deed_quiet e Stops = refl
  deed_quiet e (Gives target) = refl
  deed_quiet e (Allocates page words) = refl
  deed_quiet e (Frees page) = refl
  deed_quiet e (Recaps page words) = refl
  deed_quiet e (Binds binding word) = refl
  deed_quiet e (Unbinds vpn) = refl
  deed_quiet e (Transfers target kind.Asynchronous) = refl
  deed_quiet e (Transfers target kind.Synchronous) = one_quiet _ (slot_quiet w.book.time w.book.cursor _)
  deed_quiet e (TakesSlot k) = refl
  deed_quiet e (DropsSlot k) = one_quiet _ (slot_quiet w.book.time k (dropped e (w.book.slots k)))
  deed_quiet e (TakesLine line) = refl
  deed_quiet e (DropsLine line) = refl
  deed_quiet e (Claims claim address atoms page) = refl
  deed_quiet e (Unclaims claim) = refl
  deed_quiet e (Downloads claim address words) = refl
  deed_quiet e (Loads page) = refl

  as_before : (i : ℕ) → Eased (v.book.pending i) (w.book.pending i)
  as_before i = Same (ap (λ (f : ℕ → Option Pending). f i) pending)

  deed_eases : (e : ℕ) (d : Deed) (i : ℕ) → Eased (v.book.pending i) ((done w e d).book.pending i)
  deed_eases e (Frees page) i = by_whom (i == e) refl
    where
      by_whom : (b : Bool) → (i == e) ≡ b → Eased (v.book.pending i) (if b then lowered (w.book.pending e) else w.book.pending i)
      by_whom true mine =
          let same : e ≡ i = sym (eqb-true i e mine) in
          Fewer (ap (λ (n : ℕ). lowered (w.book.pending n)) same ∙ ap (λ (f : ℕ → Option Pending). lowered (f i)) pending)
      by_whom false other = as_before i
  deed_eases e Answers i = as_before i
  deed_eases e (Own own) i = as_before i
  deed_eases e Stops i = as_before i
  deed_eases e (Gives target) i = as_before i
  deed_eases e (Allocates page words) i = as_before i
  deed_eases e (Recaps page words) i = as_before i
  deed_eases e (Binds binding word) i = as_before i
  deed_eases e (Unbinds vpn) i = as_before i
  deed_eases e (Transfers target kind) i = as_before i
  deed_eases e (TakesSlot k) i = as_before i
  deed_eases e (DropsSlot k) i = as_before i
  deed_eases e (TakesLine line) i = as_before i
  deed_eases e (DropsLine line) i = as_before i
  deed_eases e (Claims claim address atoms page) i = as_before i
  deed_eases e (Unclaims claim) i = as_before i
  deed_eases e (Downloads claim address words) i = as_before i
  deed_eases e (Loads page) i = as_before i

  deed_goes : (e : ℕ) (d : Deed) → Goes time v (done w e d) s
  deed_goes e d = quiet_goes time v (done w e d) s (deed_quiet e d) (deed_eases e d) is

-- what a caller is answered, and what follows
told : (time : ℕ) (w : World) (e : ℕ) (v : Verdict) (s : RequestState) → IsKept time w s → Goes time w (tells e (Answer v) w) s
told time w e v s is = same_goes time w (tells e (Answer v) w) s refl refl is

reply_goes : (time : ℕ) (w : World) (e : ℕ) (s : RequestState) → time ≤ w.book.time + 2 * w.book.quantum → IsKept time w s → (v : Verdict) → Goes time w (reply_by_verdict w e v) s
reply_goes time w e s ahead is (Refuse code value) = told time w e (Refuse code value) s is
reply_goes time w e s ahead is (Again who) =
    let first = told time w e (Again who) s is in
    goes_followed time w (tells e (Answer (Again who)) w) (asks_one who w) s first (asks_one_there time w (after w (tells e (Answer (Again who)) w)) s refl is first.now who ahead)
reply_goes time w e s ahead is (Grant value) =
    let first = told time w e (Grant value) s is in
    let d = deed_at (w.solos e) value in
    goes_followed time w (tells e (Answer (Grant value)) w) (done w e d) s first (deed_goes time w (after w (tells e (Answer (Grant value)) w)) s refl is first.now e d)

-- A death.
released_quiet : (t e : ℕ) (slots : ℕ → Option Hold) (count : ℕ) → AreQuiet (released_rows t e slots count)
released_quiet t e slots zero = refl
released_quiet t e slots (suc k) =
    quiet_both (released_rows t e slots k) (released_row t e k (slots k)) (released_quiet t e slots k)
    (cond_both (has_part e (slots k)) (slot_row t k (hold_without e (slots k)) ∷ []) [] AreQuiet (λ part. one (hold_without e (slots k))) (λ none. refl))
  where
    one : (hold : Option Hold) → AreQuiet (slot_row t k hold ∷ [])
    one None = refl
    one (Some hold) = refl

death_goes : (time : ℕ) (w : World) (e : ℕ) (s : RequestState) → is_dead (w.solos e).life ≡ true → IsKept time w s → Goes time w (death w e) s
death_goes time w e s gone is =
    let r = death w e in
    let dead = row.Dead w.book.time w.book.cursor e in
    let released = released_rows w.book.time e w.book.slots w.book.slot_count in
    let rest = quiet_rows (requests_after dead s) released (released_quiet w.book.time e w.book.slots w.book.slot_count) in
    record {
      kept = rest.1;
      now = subst (IsKept time (after w r)) (sym rest.0) (record {
        covers = λ i. covered i (i == e);
        dead = λ i. died i (i == e) refl;
      });
    }
  where
    covered : (i : ℕ) (b : Bool) → Covers time (if b then None else w.book.pending i) (if b then 0 else s.pages i) (s.deadline i)
    covered i true = tt
    covered i false = is.covers i

    died : (i : ℕ) (b : Bool) → (i == e) ≡ b → (if b then true else s.dead i) ≡ true → is_dead ((after w (death w e)).solos i).life ≡ true
    died i true mine here = stays_dead w (death w e) i (subst (λ (n : ℕ). is_dead (w.solos n).life ≡ true) (sym (eqb-true i e mine)) gone)
    died i false other here = stays_dead w (death w e) i (is.dead i here)

-- The step.
step_dies : (s : Solo) (cause : Cause) → act_of s (step_alone s) ≡ Dies cause → is_dead (absorb s Step).life ≡ true
step_dies s cause is =
    cond_both (is_dead s.life) s (stepped s (step_alone s)) (λ (t : Solo). is_dead t.life ≡ true) (λ dead. dead)
    (λ lives. subst (λ (act : Act). is_dead (acted act (record s { cpu = cpu_after s.cpu (step_alone s) })).life ≡ true) (sym is) refl)

told_itself : (w : World) (e : ℕ) (P : Solo → Type 0) → P (absorb (w.solos e) Step) → P ((after w (tells e Step w)).solos e)
told_itself w e P here = subst P (sym (told_own w e Step)) here

act_goes : (time : ℕ) (w : World) (e : ℕ) (s : RequestState) → time ≤ w.book.time + 2 * w.book.quantum → IsKept time (after w (tells e Step w)) s → (act : Act) → act_now w e ≡ act
    → (let v = after w (tells e Step w) in Goes time v (act_reply e act v) s)
act_goes time w e s ahead is Nothing acts = let v = after w (tells e Step w) in same_goes time v (act_reply e Nothing v) s refl refl is
act_goes time w e s ahead is (Stores x) acts = let v = after w (tells e Step w) in same_goes time v (act_reply e (Stores x) v) s refl refl is
act_goes time w e s ahead is (Raises exc) acts = let v = after w (tells e Step w) in same_goes time v (act_reply e (Raises exc) v) s refl refl is
act_goes time w e s ahead is (Calls call) acts = let v = after w (tells e Step w) in reply_goes time v e s ahead is (verdict v e call)
act_goes time w e s ahead is (Dies cause) acts =
    let v = after w (tells e Step w) in
    death_goes time v e s (told_itself w e (λ (t : Solo). is_dead t.life ≡ true) (step_dies (w.solos e) cause acts)) is

-- a reply, and nothing more
goes_alone : (time : ℕ) (w : World) (r : Reply) (s : RequestState) → Goes time w r s → Goes time w (followed r (no_change (after w r))) s
goes_alone time w r s goes = goes_followed time w r (no_change (after w r)) s goes (same_goes time (after w r) (no_change (after w r)) (requests_from s r.rows) refl refl goes.now)

pub step_goes : (time : ℕ) (w : World) (s : RequestState) → time ≤ w.book.time + 2 * w.book.quantum → IsKept time w s → Goes time w (step w) s
step_goes time w s ahead is = by_runner w.book.runner
  where
    by_runner : (o : Option Runner) → Goes time w (step_when w o) s
    by_runner None = same_goes time w (no_change w) s refl refl is
    by_runner (Some r) =
        let first = tells r.env Step w in
        let act = act_now w r.env in
        let v = after w first in
        let stepped = same_goes time w first s refl refl is in
        goes_followed time w first (followed (act_reply r.env act v) (no_change (after v (act_reply r.env act v)))) s stepped
        (goes_alone time v (act_reply r.env act v) s (act_goes time w r.env s ahead stepped.now act refl))

-- The turn.
pays_quiet : (t : ℕ) (pays : List Turn) → AreQuiet (map (pay_row t) pays)
pays_quiet t [] = refl
pays_quiet t (p ∷ pays) = pays_quiet t pays

pub turn_goes : (time : ℕ) (w : World) (s : RequestState) → IsKept time w s → Goes time w (turn w) s
turn_goes time w s is = by_runner w.book.runner
  where
    taken : (o : Option Turn) → Goes time w (take_turn w (whole_turn w.book) o) s
    taken None = same_goes time w (no_change w) s refl refl is
    taken (Some t) = same_goes time w (take_turn w (whole_turn w.book) (Some t)) s (quiet_both (map (pay_row w.book.time) (whole_turn w.book).pays) _ (pays_quiet w.book.time (whole_turn w.book).pays) refl) refl is

    by_runner : (o : Option Runner) → Goes time w (turn_when w o) s
    by_runner None = taken (whole_turn w.book).runs
    by_runner (Some r) = same_goes time w (no_change w) s refl refl is

-- The timer.
killed_dies : (s : Solo) → is_dead (absorb s Killed).life ≡ true
killed_dies s = cond_both (is_dead s.life) s _ (λ (t : Solo). is_dead t.life ≡ true) (λ dead. dead) (λ lives. refl)

kill_goes : (time : ℕ) (w : World) (e : ℕ) (s : RequestState) → IsKept time w s → Goes time w (kill e w) s
kill_goes time w e s is =
    let first = tells e Killed w in
    let v = after w first in
    let killed = same_goes time w first s refl refl is in
    let gone : is_dead (v.solos e).life ≡ true = subst (λ (t : Solo). is_dead t.life ≡ true) (sym (told_own w e Killed)) (killed_dies (w.solos e)) in
    goes_followed time w first (followed (death v e) (no_change (after v (death v e)))) s killed (goes_alone time v (death v e) s (death_goes time v e s gone killed.now))

timer_answer_goes : (time : ℕ) (w : World) (r : Runner) (s : RequestState) → IsKept time w s → (what : Timer) → Goes time w (timer_reply r what w) s
timer_answer_goes time w r s is answer.Nothing = same_goes time w (timer_reply r answer.Nothing w) s refl refl is
timer_answer_goes time w r s is answer.End = same_goes time w (timer_reply r answer.End w) s refl refl is
timer_answer_goes time w r s is answer.Stop = same_goes time w (timer_reply r answer.Stop w) s refl refl is
timer_answer_goes time w r s is (answer.Over excess) = same_goes time w (timer_reply r (answer.Over excess) w) s refl refl is
timer_answer_goes time w r s is answer.Kill =
    let first = owes_more r.env w in
    let v = after w first in
    let owes = same_goes time w first s refl refl is in
    goes_followed time w first (followed (kill r.env v) (no_change (after v (kill r.env v)))) s owes (goes_alone time v (kill r.env v) s (kill_goes time v r.env s owes.now))

pub timer_goes : (time : ℕ) (w : World) (s : RequestState) → IsKept time w s → Goes time w (timer w) s
timer_goes time w s is =
    let first = count_when w.book.runner w in
    let v = after w first in
    let counted = by_runner w.book.runner in
    goes_followed time w first (followed (clock v) (no_change (after v (clock v)))) s counted
    (goes_alone time v (clock v) (requests_from s first.rows) (same_goes time v (clock v) (requests_from s first.rows) refl refl counted.now))
  where
    by_runner : (o : Option Runner) → Goes time w (count_when o w) s
    by_runner None = same_goes time w (no_change w) s refl refl is
    by_runner (Some r) = timer_answer_goes time w r s is (timer_now w r)
