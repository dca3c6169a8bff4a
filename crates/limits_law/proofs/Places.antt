-- No phase but the turn moves the cursor, and none changes how many slots and pages there are.
use Rattle.std.proofs.Common.{arith, refl, sym, ◌∙◌, ap, subst, ◌≡◌, ◌<◌, ◌≤◌, ◌+◌, ◌%◌, ℕ, zero, suc, List, [], ◌∷◌, length, Option, None, Some}
use Rattle.std.specs.Prelude.{◌*◌, ◌==◌, is_none}
use Rattle.std.proofs.lemmas.Bool.{cond_both}
use Rattle.std.proofs.Math.Nat.{mod-lt}
use Rattle.limits_law.specs.Cursor.{CursorsAreWithin}
use Rattle.external_event.specs.declared.event.Occurrence.{Occurrence}
use Rattle.external_event.specs.declared.event.Occurrence.TheVariants as outside
use Rattle.filter_tree.specs.ClaimBook.{ClaimValue}
use Rattle.revocation_book.specs.declared.revocation.Pending.{Pending}
use Rattle.revocation_book.specs.Pending.{asked}
use Rattle.world_model.specs.declared.call.Deed.{Deed}
use Rattle.world_model.specs.declared.call.Deed.TheVariants.{Answers, Own, Stops, Gives, Allocates, Frees, Recaps, Binds, Unbinds, Transfers, TakesSlot, DropsSlot, TakesLine, DropsLine, Claims, Unclaims, Downloads, Loads}
use Rattle.world_model.specs.declared.slot.Runner.{Runner}
use Rattle.world_model.specs.declared.slot.Turn.{Turn}
use Rattle.world_model.specs.declared.timer.Timer.{Timer}
use Rattle.world_model.specs.declared.timer.Timer.TheVariants as answer
use Rattle.world_model.specs.declared.verdict.Verdict.{Verdict}
use Rattle.world_model.specs.declared.verdict.Verdict.TheVariants.{Refuse, Again, Grant}
use Rattle.world_model.specs.Book.{Book, WholeTurn, excess_after_forfeit, first_turn, owed, pays_first, turn_from, turn_or, turn_within, whole_turn}
use Rattle.world_model.specs.declared.hold.Hold.{Hold}
use Rattle.boot_image.specs.ImageValue.{ProgramValue}
use Rattle.run_model.specs.Boot.{book_of_image, boot_world, with_all_kept, with_kept}
use Rattle.run_model.specs.Run.{System, moment}
use Rattle.giving_law.proofs.Moments.{each_moment}
use Rattle.world_model.specs.ClaimCalls.{claim_of}
use Rattle.world_model.specs.Deadlines.{settles, takes}
use Rattle.world_model.specs.Event.{arrives, asks, happen, revokes, signals}
use Rattle.world_model.specs.Item.{deed_at}
use Rattle.world_model.specs.Step.{Act, Nothing, Stores, Calls, Raises, Dies}
use Rattle.world_model.specs.Tick.{act_now, act_reply, count_when, step, step_when, timer, timer_now, timer_reply, turn_when, take_turn}
use Rattle.world_model.specs.Verdict.{asks_one, done, reply_by_verdict, verdict}
use Rattle.world_model.specs.World.{World, Reply, is_living, no_change}

-- the cursor, and how many slots and pages there are
abbrev pub Place : Type 0
Place = ℕ × ℕ × ℕ

abbrev pub place : Book → Place
place b = (b.cursor, b.slot_count, b.page_count)

asks_place : (e : ℕ) (p : Option Pending) (w : World) → place (asks e p w).book ≡ place w.book
asks_place e None w = refl
asks_place e (Some p) w = refl

revokes_place : (e count deadline : ℕ) (w : World) → place (revokes e count deadline w).book ≡ place w.book
revokes_place e count deadline w =
    cond_both (is_living w e) (asks e (asked count deadline (w.book.pending e)) w) (no_change w) (λ (r : Reply). place r.book ≡ place w.book)
    (λ lives. asks_place e (asked count deadline (w.book.pending e)) w) (λ not. refl)

arrives_place : (packet : List ℕ) (c : Option ClaimValue) (w : World) → place (arrives packet c w).book ≡ place w.book
arrives_place packet None w = refl
arrives_place packet (Some c) w = refl

signals_place : (line : ℕ) (owner : Option ℕ) (w : World) → place (signals line owner w).book ≡ place w.book
signals_place line None w = refl
signals_place line (Some owner) w = refl

pub happen_place : (what : Occurrence) (w : World) → place (happen what w).book ≡ place w.book
happen_place (outside.Packet packet) w = arrives_place packet (claim_of w.book packet) w
happen_place (outside.Line line) w = signals_place line (w.book.lines line) w
happen_place (outside.Revoke env count grace) w = revokes_place env count (w.book.time + grace) w

-- the turn leaves the cursor at a slot
first_below : (slots : ℕ → Option Hold) (count place tries : ℕ) (t : Turn) → 0 < count → first_turn slots count place tries ≡ Some t → t.slot < count
first_below slots count place zero t some is = cc
first_below slots count place (suc tries) t some is = by_hold (slots ((place + 1) % count)) (first_below slots count ((place + 1) % count) tries t some) is
  where
    by_hold : (o : Option Hold) → (first_turn slots count ((place + 1) % count) tries ≡ Some t → t.slot < count)
        → turn_or ((place + 1) % count) o (first_turn slots count ((place + 1) % count) tries) ≡ Some t → t.slot < count
    by_hold None later is = later is
    by_hold (Some hold) later is = let same : (place + 1) % count ≡ t.slot = cc in subst (λ (k : ℕ). k < count) same (mod-lt (place + 1) some)

within_turn : (slots : ℕ → Option Hold) (count n cursor : ℕ) (excess : ℕ → ℕ) → cursor < count → (turn_from slots count n cursor excess).cursor < count
within_turn slots count zero cursor excess within = within
within_turn slots count (suc n) cursor excess within =
    by_turn (first_turn slots count cursor count) (λ t is. first_below slots count cursor count t (omega (arith, within)) is)
    (λ (at : ℕ) (owed : ℕ → ℕ) (below : at < count). within_turn slots count n at owed below)
  where
    by_turn : (o : Option Turn) → ((t : Turn) → o ≡ Some t → t.slot < count) → ((at : ℕ) (owed : ℕ → ℕ) → at < count → (turn_from slots count n at owed).cursor < count)
        → (turn_within (turn_from slots count n) cursor excess o).cursor < count
    by_turn None below rest = within
    by_turn (Some t) below rest =
        cond_both (excess t.env == 0) (record { pays = []; runs = Some t; excess = excess; cursor = t.slot }) (pays_first t (turn_from slots count n t.slot (excess_after_forfeit t.env excess)))
        (λ (told : WholeTurn). told.cursor < count) (λ free. below t refl) (λ owes. rest t.slot (excess_after_forfeit t.env excess) (below t refl))

done_place : (w : World) (e : ℕ) (d : Deed) → place (done w e d).book ≡ place w.book
done_place w e Answers = refl
done_place w e (Own own) = refl
done_place w e Stops = refl
done_place w e (Gives target) = refl
done_place w e (Allocates page words) = refl
done_place w e (Frees page) = refl
done_place w e (Recaps page words) = refl
done_place w e (Binds binding word) = refl
done_place w e (Unbinds vpn) = refl
done_place w e (Transfers target kind) = refl
done_place w e (TakesSlot slot) = refl
done_place w e (DropsSlot slot) = refl
done_place w e (TakesLine line) = refl
done_place w e (DropsLine line) = refl
done_place w e (Claims claim address atoms page) = refl
done_place w e (Unclaims claim) = refl
done_place w e (Downloads claim address words) = refl
done_place w e (Loads page) = refl

asks_one_place : (who : ℕ) (w : World) → place (asks_one who w).book ≡ place w.book
asks_one_place who w =
    let until = w.book.time + 2 * w.book.quantum in
    cond_both (is_none (w.book.pending who)) (revokes who 1 until w) (no_change w) (λ (r : Reply). place r.book ≡ place w.book) (λ nothing. revokes_place who 1 until w) (λ pending. refl)

reply_place : (w : World) (e : ℕ) (v : Verdict) → place (reply_by_verdict w e v).book ≡ place w.book
reply_place w e (Refuse code value) = refl
reply_place w e (Again who) = asks_one_place who w
reply_place w e (Grant value) = done_place w e (deed_at (w.solos e) value)

act_place : (w : World) (e : ℕ) (act : Act) → place (act_reply e act w).book ≡ place w.book
act_place w e Nothing = refl
act_place w e (Stores x) = refl
act_place w e (Calls call) = reply_place w e (verdict w e call)
act_place w e (Raises exc) = refl
act_place w e (Dies cause) = refl

step_when_place : (w : World) (o : Option Runner) → place (step_when w o).book ≡ place w.book
step_when_place w None = refl
step_when_place w (Some r) = act_place _ r.env (act_now w r.env)

pub step_place : (w : World) → place (step w).book ≡ place w.book
step_place w = step_when_place w w.book.runner

answer_place : (w : World) (r : Runner) (what : Timer) → place (timer_reply r what w).book ≡ place w.book
answer_place w r answer.Nothing = refl
answer_place w r answer.End = refl
answer_place w r answer.Stop = refl
answer_place w r (answer.Over excess) = refl
answer_place w r answer.Kill = refl

count_place : (w : World) (o : Option Runner) → place (count_when o w).book ≡ place w.book
count_place w None = refl
count_place w (Some r) = answer_place w r (timer_now w r)

-- the timer
timer_place : (w : World) → place (timer w).book ≡ place w.book
timer_place w = count_place w w.book.runner

-- So the cursor is at a slot at each moment, and there are as many slots and pages as at boot.
pub record IsPlaced (slots pages : ℕ) (b : Book) : Type 0 where
  pub cursor : b.cursor < b.slot_count
  pub ring : b.slot_count ≡ slots
  pub count : b.page_count ≡ pages

module _ (slots pages : ℕ) where
  same_place : (b c : Book) → place c ≡ place b → IsPlaced slots pages b → IsPlaced slots pages c
  same_place b c same its = record {
    cursor = subst (λ (p : Place). p.0 < p.1) (sym same) its.cursor;
    ring = ap (λ (p : Place). p.1) same ∙ its.ring;
    count = ap (λ (p : Place). p.2) same ∙ its.count;
  }

  turned_place : (w : World) (o : Option Turn) → IsPlaced slots pages w.book → IsPlaced slots pages (take_turn w (whole_turn w.book) o).book
  turned_place w None its = its
  turned_place w (Some t) its =
      let b = w.book in
      record { cursor = within_turn b.slots b.slot_count (suc (owed b.excess b.slots b.slot_count)) b.cursor b.excess its.cursor; ring = its.ring; count = its.count }

  turn_place : (w : World) (o : Option Runner) → IsPlaced slots pages w.book → IsPlaced slots pages (turn_when w o).book
  turn_place w None its = turned_place w (whole_turn w.book).runs its
  turn_place w (Some r) its = its

kept_place : (e : ℕ) (programs : List ProgramValue) (b : Book) → place (with_all_kept e programs b) ≡ place b
kept_place e [] b = refl
kept_place e (p ∷ programs) b = kept_place (e + 1) programs (with_kept e p b)

pub placed : (system : System) → 1 ≤ length system.image.slots → (t k : ℕ) → IsPlaced (length system.image.slots) system.image.pages (moment system t k).book
placed system some t k =
    let slots = length system.image.slots in
    let pages = system.image.pages in
    let booted = book_of_image system.image in
    each_moment (λ w. IsPlaced slots pages w.book) (λ what w its. same_place slots pages w.book (happen what w).book (happen_place what w) its) (λ x w its. same_place slots pages w.book (takes x w).book refl its)
    (λ w its. same_place slots pages w.book (settles w).book refl its) (λ w its. turn_place slots pages w w.book.runner its) (λ w its. same_place slots pages w.book (step w).book (step_place w) its)
    (λ w its. same_place slots pages w.book (timer w).book (timer_place w) its) system
    (same_place slots pages booted (boot_world system.image).book (kept_place 0 system.image.programs booted) (record { cursor = omega (arith, some); ring = refl; count = refl })) t k

pub cursors_are_within : CursorsAreWithin
cursors_are_within system t k accepted =
    let its = placed system accepted.slots_least t k in
    record { cursor = its.cursor; slots = its.ring; most = omega (arith, its.ring, accepted.slots_most); pages = its.count }
