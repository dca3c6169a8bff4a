-- Whoever has an interrupt line, or is asked for pages, lives.
use Rattle.std.proofs.Common.{◌≡◌, ◌≢◌, ◌+◌, ℕ, List, [], ◌∷◌, ◌++◌, Bool, true, false, Option, Some, None, is_none, inl, inr, refl, sym, ◌∙◌, ap, subst}
use Rattle.std.specs.Prelude.{◌==◌, ◌*◌, if◌then◌else◌, nat_lt, not}
use Rattle.std.proofs.lemmas.Bool.{and_parts, cases_eq, cond_both, eqb-false, eqb-true, ne_eqb}
use Rattle.boot_image.specs.ImageValue.{ImageValue, ProgramValue}
use Rattle.external_event.specs.declared.event.Occurrence.{Occurrence}
use Rattle.external_event.specs.declared.event.Occurrence.TheVariants as outside
use Rattle.filter_tree.specs.ClaimBook.{ClaimValue}
use Rattle.revocation_book.specs.declared.revocation.Pending.{Pending}
use Rattle.revocation_book.specs.declared.revocation.Taking.{Taking}
use Rattle.revocation_book.specs.Pending.{asked, is_due, lowered}
use Rattle.world_model.specs.declared.call.Deed.{Deed}
use Rattle.world_model.specs.declared.call.Deed.TheVariants.{Answers, Own, Stops, Gives, Allocates, Frees, Recaps, Binds, Unbinds, Transfers, TakesSlot, DropsSlot, TakesLine, DropsLine, Claims, Unclaims, Downloads, Loads}
use Rattle.world_model.specs.declared.life.Cause.{Cause}
use Rattle.world_model.specs.declared.life.Cause.TheVariants as cause
use Rattle.world_model.specs.declared.life.Life.{Life}
use Rattle.world_model.specs.declared.life.Life.TheVariants.{Live, Dead}
use Rattle.world_model.specs.declared.slot.Runner.{Runner}
use Rattle.world_model.specs.declared.slot.Turn.{Turn}
use Rattle.world_model.specs.declared.timer.Timer.{Timer}
use Rattle.world_model.specs.declared.timer.Timer.TheVariants as answer
use Rattle.world_model.specs.declared.verdict.Verdict.{Verdict}
use Rattle.world_model.specs.declared.verdict.Verdict.TheVariants.{Refuse, Again, Grant}
use Rattle.world_model.specs.Book.{Book, whole_turn}
use Rattle.world_model.specs.ClaimCalls.{claim_of}
use Rattle.world_model.specs.Deadlines.{copy_left, settles, takes}
use Rattle.world_model.specs.Death.{death, lost_with}
use Rattle.world_model.specs.Event.{arrives, asks, happen, revokes, ring_bytes, ring_left, signals}
use Rattle.world_model.specs.Item.{End, Killed, Line, Packet, Start, Step, Taken, absorb_all, deed_at}
use Rattle.world_model.specs.LineCalls.{line_without}
use Rattle.world_model.specs.PageCalls.{lost_bindings}
use Rattle.world_model.specs.Rings.{ring_of}
use Rattle.world_model.specs.Solo.{Solo, is_dead}
use Rattle.world_model.specs.Step.{Act, Nothing, Stores, Calls, Raises, Dies}
use Rattle.world_model.specs.Table.{set_at}
use Rattle.world_model.specs.Tick.{act_now, act_reply, count_when, kill, owes_more, clock, step_when, take_turn, timer, timer_now, timer_reply, turn, turn_when}
use Rattle.world_model.specs.Verdict.{done, reply_by_verdict, reply_to, verdict}
use Rattle.world_model.specs.World.{World, Reply, after, is_living, no_change, tells}
use Rattle.call_verdicts.specs.Granted.{GrantedMay}
use Rattle.run_model.specs.Boot.{book_of_image, boot_world, with_all_kept, with_kept}
use Rattle.run_model.specs.Excess.{IsAccounted, Lives}
use Rattle.run_model.specs.Run.{System, moment}
use Rattle.run_model.proofs.Balance.{boots_accounted, happen_accounts, settling_accounts, step_keeps, taking_accounts, timer_accounts, turn_keeps}
use Rattle.run_model.proofs.Lives.{Keeps, breaks_keep, copy_left_keeps, keep_both, keep_end, keep_line, keep_none, keep_only, keep_packet, keep_set, keep_start, keep_taken, left_by_keeps, lost_with_keeps, ring_left_keeps}
use Rattle.run_model.proofs.Phases.{in_turn_is_each}
use Rattle.run_model.proofs.Replies.{call_is_mild, revocation_is_mild, step_leaves}
use Rattle.run_model.proofs.Telling.{call_named, call_stands, told_other, told_own}
use Rattle.giving_law.proofs.Moments.{each_moment}

-- whose the lines are, and what is pending
pub record AreOfLiving (w : World) : Type 0 where
  pub lines : (line e : ℕ) → w.book.lines line ≡ Some e → Lives w e
  pub pending : (e : ℕ) (p : Pending) → w.book.pending e ≡ Some p → Lives w e

-- In a later book who has a line, or is asked, lives, or had it before.
record LinesFrom (w : World) (b : Book) : Type 0 where
  lines : (line e : ℕ) → b.lines line ≡ Some e → Lives w e
  pending : (e : ℕ) (p : Pending) → b.pending e ≡ Some p → Lives w e

same_lines : (w : World) (b : Book) → AreOfLiving w → b.lines ≡ w.book.lines → b.pending ≡ w.book.pending → LinesFrom w b
same_lines w b its lines pending = record {
  lines = λ line e is. its.lines line e (ap (λ (f : ℕ → Option ℕ). f line) (sym lines) ∙ is);
  pending = λ e p is. its.pending e p (ap (λ (f : ℕ → Option Pending). f e) (sym pending) ∙ is);
}

-- a reply that leaves lives
still : (w : World) (r : Reply) → ((i : ℕ) → Keeps (r.items i)) → LinesFrom w r.book → AreOfLiving (after w r)
still w r keeps from = record {
  lines = λ line e is. keeps e (w.solos e) ∙ from.lines line e is;
  pending = λ e p is. keeps e (w.solos e) ∙ from.pending e p is;
}

-- ---- before the turn
living : (w : World) (e : ℕ) → is_living w e ≡ true → Lives w e
living w e is = by_life (w.solos e).life refl
  where
    by_life : (l : Life) → (w.solos e).life ≡ l → l ≡ Live
    by_life Live its = refl
    by_life (Dead cause) its =
        let alive : not (is_dead (w.solos e).life) ≡ true = (and_parts (nat_lt e w.count) (not (is_dead (w.solos e).life)) is).1 in
        let never : false ≡ true = ap (λ (l : Life). not (is_dead l)) (sym its) ∙ alive in
        cc

asked_from : (w : World) (e : ℕ) → AreOfLiving w → Lives w e → (o : Option Pending) → LinesFrom w (asks e o w).book
asked_from w e its lives None = same_lines w w.book its refl refl
asked_from w e its lives (Some q) = record { lines = its.lines; pending = λ i p is. by_own i p (i == e) refl is }
  where
    by_own : (i : ℕ) (p : Pending) (own : Bool) → (i == e) ≡ own → (if own then Some q else w.book.pending i) ≡ Some p → Lives w i
    by_own i p true own is = subst (Lives w) (sym (eqb-true i e own)) lives
    by_own i p false other is = its.pending i p is

revoked_from : (w : World) (e count until : ℕ) → AreOfLiving w → LinesFrom w (revokes e count until w).book
revoked_from w e count until its = by_living (is_living w e) refl
  where
    pending : Option Pending
    pending = asked count until (w.book.pending e)

    by_living : (b : Bool) → is_living w e ≡ b → LinesFrom w (if b then asks e (asked count until (w.book.pending e)) w else no_change w).book
    by_living true is = asked_from w e its (living w e is) (asked count until (w.book.pending e))
    by_living false is = same_lines w w.book its refl refl

arrival_keeps : (w : World) (packet : List ℕ) (o : Option ClaimValue) (i : ℕ) → Keeps ((arrives packet o w).items i)
arrival_keeps w packet None i = keep_none
arrival_keeps w packet (Some c) i =
    let s = w.solos c.env in
    let bytes = ring_bytes s (ring_of s.rings c.id) packet in
    keep_set c.env (Packet c.id packet ∷ []) (ring_left w.book c.env c.page bytes) (keep_packet c.id packet) (ring_left_keeps w.book c.env c.page bytes) i

arrival_lines : (w : World) (packet : List ℕ) (o : Option ClaimValue) → AreOfLiving w → LinesFrom w (arrives packet o w).book
arrival_lines w packet None its = same_lines w w.book its refl refl
arrival_lines w packet (Some c) its = same_lines w w.book its refl refl

signal_keeps : (w : World) (line : ℕ) (o : Option ℕ) (i : ℕ) → Keeps ((signals line o w).items i)
signal_keeps w line None i = keep_none
signal_keeps w line (Some owner) i = keep_only owner (Line line ∷ []) (keep_line line) i

signal_lines : (w : World) (line : ℕ) (o : Option ℕ) → AreOfLiving w → LinesFrom w (signals line o w).book
signal_lines w line None its = same_lines w w.book its refl refl
signal_lines w line (Some owner) its = same_lines w w.book its refl refl

happened : (what : Occurrence) (w : World) → IsAccounted w → AreOfLiving w → AreOfLiving (after w (happen what w))
happened (outside.Packet packet) w good its =
    let claim = claim_of w.book packet in
    still w (arrives packet claim w) (arrival_keeps w packet claim) (arrival_lines w packet claim its)
happened (outside.Line line) w good its =
    let owner = w.book.lines line in
    still w (signals line owner w) (signal_keeps w line owner) (signal_lines w line owner its)
happened (outside.Revoke env count grace) w good its =
    let until = w.book.time + grace in
    still w (revokes env count until w) (revocation_is_mild env count until w good).keeps (revoked_from w env count until its)

taken : (x : Taking) (w : World) → AreOfLiving w → AreOfLiving (after w (takes x w))
taken x w its =
    still w (takes x w)
    (keep_set x.env (Taken x.page x.backup ∷ []) (λ e. copy_left w x x.backup e ++ lost_bindings w.book x.page e) (keep_taken x.page x.backup)
    (λ e. keep_both (copy_left w x x.backup e) (lost_bindings w.book x.page e) (copy_left_keeps w x x.backup e) (breaks_keep w.book x.page e)))
    (same_lines w (takes x w).book its refl refl)

settled : (w : World) → AreOfLiving w → AreOfLiving (after w (settles w))
settled w its = still w (settles w) (λ i. keep_none) (record { lines = its.lines; pending = λ e p is. by_due e p (is_due w.book.time (w.book.pending e)) is })
  where
    by_due : (e : ℕ) (p : Pending) (b : Bool) → (if b then None else w.book.pending e) ≡ Some p → Lives w e
    by_due e p true is = cc
    by_due e p false is = its.pending e p is

-- ---- the turn
turned : (w : World) → AreOfLiving w → AreOfLiving (after w (turn w))
turned w its = still w (turn w) (by_runner w.book.runner) (from w.book.runner)
  where
    started : (o : Option Turn) (i : ℕ) → Keeps ((take_turn w (whole_turn w.book) o).items i)
    started None i = keep_none
    started (Some t) i = keep_only t.env (Start ∷ []) keep_start i

    by_runner : (o : Option Runner) (i : ℕ) → Keeps ((turn_when w o).items i)
    by_runner None i = started (whole_turn w.book).runs i
    by_runner (Some r) i = keep_none

    begun : (o : Option Turn) → LinesFrom w (take_turn w (whole_turn w.book) o).book
    begun None = same_lines w w.book its refl refl
    begun (Some t) = same_lines w (take_turn w (whole_turn w.book) (Some t)).book its refl refl

    from : (o : Option Runner) → LinesFrom w (turn_when w o).book
    from None = begun (whole_turn w.book).runs
    from (Some r) = same_lines w w.book its refl refl

-- ---- a death: what the others have they keep, and the dead has nothing
module _ (u : World) (gone : ℕ) (lines : (line i : ℕ) → u.book.lines line ≡ Some i → i ≢ gone → Lives u i) (pending : (i : ℕ) (p : Pending) → u.book.pending i ≡ Some p → i ≢ gone → Lives u i) where
  others_live : (i : ℕ) → i ≢ gone → Lives u i → Lives (after u (death u gone)) i
  others_live i other lives =
      ap (λ (b : Bool). (absorb_all (u.solos i) (if b then [] else lost_with u.book gone i u.book.page_count)).life) (ne_eqb i gone other)
      ∙ lost_with_keeps u.book gone i u.book.page_count (u.solos i) ∙ lives

  left_line : (line i : ℕ) (o : Option ℕ) → u.book.lines line ≡ o → line_without gone o ≡ Some i → Lives (after u (death u gone)) i
  left_line line i None stands is = cc
  left_line line i (Some owner) stands is = by_owner (owner == gone) refl is
    where
      by_owner : (b : Bool) → (owner == gone) ≡ b → (if b then None else Some owner) ≡ Some i → Lives (after u (death u gone)) i
      by_owner true own is = cc
      by_owner false other is =
          let same : owner ≡ i = cc in
          let apart : i ≢ gone = λ its. eqb-false owner gone other (same ∙ its) in
          others_live i apart (lines line i (stands ∙ ap Some same) apart)

  left_pending : (i : ℕ) (p : Pending) → set_at gone None u.book.pending i ≡ Some p → Lives (after u (death u gone)) i
  left_pending i p is = by_own (i == gone) refl is
    where
      by_own : (b : Bool) → (i == gone) ≡ b → (if b then None else u.book.pending i) ≡ Some p → Lives (after u (death u gone)) i
      by_own true own is = cc
      by_own false other is = let apart = eqb-false i gone other in others_live i apart (pending i p is apart)

  died : AreOfLiving (after u (death u gone))
  died = record { lines = λ line i is. left_line line i (u.book.lines line) refl is; pending = left_pending }

-- ---- the step
module _ (w : World) (e : ℕ) (its : AreOfLiving w) (lives : Lives w e) where
  deed_lines : (d : Deed) → LinesFrom w (done w e d).book
  deed_lines (Frees page) = record { lines = its.lines; pending = λ i p is. by_own i p (i == e) refl is }
    where
      by_own : (i : ℕ) (p : Pending) (own : Bool) → (i == e) ≡ own → (if own then lowered (w.book.pending e) else w.book.pending i) ≡ Some p → Lives w i
      by_own i p true own is = subst (Lives w) (sym (eqb-true i e own)) lives
      by_own i p false other is = its.pending i p is
  deed_lines (TakesLine line) = record { lines = λ l i is. by_line l i (l == line) is; pending = its.pending }
    where
      by_line : (l i : ℕ) (here : Bool) → (if here then Some e else w.book.lines l) ≡ Some i → Lives w i
      by_line l i true is = let same : e ≡ i = cc in subst (Lives w) same lives
      by_line l i false is = its.lines l i is
  deed_lines (DropsLine line) = record { lines = λ l i is. by_line l i (l == line) is; pending = its.pending }
    where
      by_line : (l i : ℕ) (here : Bool) → (if here then None else w.book.lines l) ≡ Some i → Lives w i
      by_line l i true is = cc
      by_line l i false is = its.lines l i is
  deed_lines Answers = same_lines w w.book its refl refl
  deed_lines (Own own) = same_lines w w.book its refl refl
  deed_lines Stops = same_lines w (done w e Stops).book its refl refl
  deed_lines (Gives target) = same_lines w (done w e (Gives target)).book its refl refl
  deed_lines (Allocates page words) = same_lines w (done w e (Allocates page words)).book its refl refl
  deed_lines (Recaps page words) = same_lines w (done w e (Recaps page words)).book its refl refl
  deed_lines (Binds b word) = same_lines w (done w e (Binds b word)).book its refl refl
  deed_lines (Unbinds vpn) = same_lines w (done w e (Unbinds vpn)).book its refl refl
  deed_lines (Transfers target kind) = same_lines w (done w e (Transfers target kind)).book its refl refl
  deed_lines (TakesSlot k) = same_lines w (done w e (TakesSlot k)).book its refl refl
  deed_lines (DropsSlot k) = same_lines w (done w e (DropsSlot k)).book its refl refl
  deed_lines (Claims claim address atoms page) = same_lines w (done w e (Claims claim address atoms page)).book its refl refl
  deed_lines (Unclaims claim) = same_lines w (done w e (Unclaims claim)).book its refl refl
  deed_lines (Downloads claim address words) = same_lines w w.book its refl refl
  deed_lines (Loads page) = same_lines w (done w e (Loads page)).book its refl refl

  verdict_lines : (v : Verdict) → LinesFrom w (reply_by_verdict w e v).book
  verdict_lines (Refuse code value) = same_lines w w.book its refl refl
  verdict_lines (Again who) =
      let until = w.book.time + 2 * w.book.quantum in
      cond_both (is_none (w.book.pending who)) (revokes who 1 until w) (no_change w) (λ (r : Reply). LinesFrom w r.book) (λ nothing. revoked_from w who 1 until its) (λ pending. same_lines w w.book its refl refl)
  verdict_lines (Grant value) = deed_lines (deed_at (w.solos e) value)

module _ (granted : GrantedMay) (w : World) (good : IsAccounted w) (its : AreOfLiving w) where
  abbrev told : ℕ → World
  told e = after w (tells e Step w)

  -- a step that isn't its death leaves all lives
  told_lives : (e i : ℕ) (act : Act) → act_now w e ≡ act → ((cause : Cause) → act ≡ Dies cause → ⊥) → ((told e).solos i).life ≡ (w.solos i).life
  told_lives e i act is stays = elim (cases_eq i e) [
    | inl same ↦ subst (λ (n : ℕ). ((told e).solos n).life ≡ (w.solos n).life) (sym same) (ap (λ (s : Solo). s.life) (told_own w e Step) ∙ step_leaves (w.solos e) act is stays)
    | inr other ↦ ap (λ (s : Solo). s.life) (told_other w e Step i other)
  ]

  quiet_step : (e : ℕ) (act : Act) → act_now w e ≡ act → ((cause : Cause) → act ≡ Dies cause → ⊥) → (act_reply e act (told e)).book ≡ w.book → ((i : ℕ) → Keeps ((act_reply e act (told e)).items i))
      → AreOfLiving (after (told e) (act_reply e act (told e)))
  quiet_step e act is stays same keeps = record {
    lines = λ line i has. keeps i ((told e).solos i) ∙ told_lives e i act is stays ∙ its.lines line i (ap (λ (b : Book). b.lines line) (sym same) ∙ has);
    pending = λ i p has. keeps i ((told e).solos i) ∙ told_lives e i act is stays ∙ its.pending i p (ap (λ (b : Book). b.pending i) (sym same) ∙ has);
  }

  acted : (r : Runner) → w.book.runner ≡ Some r → (act : Act) → act_now w r.env ≡ act → AreOfLiving (after (told r.env) (act_reply r.env act (told r.env)))
  acted r runs Nothing is = quiet_step r.env Nothing is (λ cause never. cc) refl (λ i. keep_none)
  acted r runs (Stores x) is = quiet_step r.env (Stores x) is (λ cause never. cc) refl (λ i. left_by_keeps w.book r.env x i)
  acted r runs (Raises exc) is = quiet_step r.env (Raises exc) is (λ cause never. cc) refl (λ i. keep_none)
  acted r runs (Calls c) is =
      let e = r.env in
      let lives = good.runner_lives r runs in
      let stands : told e ≡ w = call_stands w e c is in
      subst (λ (v : World). AreOfLiving (after v (reply_to v e c))) (sym stands)
      (still w (reply_to w e c) (call_is_mild w e good lives granted c (call_named w e c is)).keeps (verdict_lines w e its lives (verdict w e c)))
  acted r runs (Dies cause) is =
      let e = r.env in
      let others : (i : ℕ) → i ≢ e → Lives w i → Lives (told e) i = λ i other lives. ap (λ (s : Solo). s.life) (told_other w e Step i other) ∙ lives in
      died (told e) e (λ line i has other. others i other (its.lines line i has)) (λ i p has other. others i other (its.pending i p has))

  stepped : (o : Option Runner) → w.book.runner ≡ o → AreOfLiving (after w (step_when w o))
  stepped None runs = still w (no_change w) (λ i. keep_none) (same_lines w w.book its refl refl)
  stepped (Some r) runs =
      let act = act_now w r.env in
      subst AreOfLiving (sym (in_turn_is_each w (tells r.env Step ∷ act_reply r.env act ∷ []))) (acted r runs act refl)

-- ---- the timer
module _ (w : World) (its : AreOfLiving w) where
  killed : (r : Runner) → AreOfLiving (after w (timer_reply r answer.Kill w))
  killed r =
      let e = r.env in
      let v = after w (owes_more e w) in
      let u = after v (tells e Killed v) in
      let first = in_turn_is_each w (owes_more e ∷ kill e ∷ []) in
      let next = in_turn_is_each v (tells e Killed ∷ act_reply e (Dies cause.Excess) ∷ []) in
      let others : (i : ℕ) → i ≢ e → Lives w i → Lives u i = λ i other lives. ap (λ (s : Solo). s.life) (told_other v e Killed i other) ∙ lives in
      subst AreOfLiving (sym (first ∙ next)) (died u e (λ line i has other. others i other (its.lines line i has)) (λ i p has other. others i other (its.pending i p has)))

  counted : (r : Runner) (a : Timer) → AreOfLiving (after w (timer_reply r a w))
  counted r answer.Nothing = still w (timer_reply r answer.Nothing w) (λ i. keep_none) (same_lines w (timer_reply r answer.Nothing w).book its refl refl)
  counted r answer.End = still w (timer_reply r answer.End w) (keep_only r.env (End ∷ []) keep_end) (same_lines w (timer_reply r answer.End w).book its refl refl)
  counted r answer.Stop = still w (timer_reply r answer.Stop w) (λ i. keep_none) (same_lines w (timer_reply r answer.Stop w).book its refl refl)
  counted r (answer.Over excess) = still w (timer_reply r (answer.Over excess) w) (λ i. keep_none) (same_lines w (timer_reply r (answer.Over excess) w).book its refl refl)
  counted r answer.Kill = killed r

  count_by : (o : Option Runner) → AreOfLiving (after w (count_when o w))
  count_by None = still w (no_change w) (λ i. keep_none) (same_lines w w.book its refl refl)
  count_by (Some r) = counted r (timer_now w r)

timed : (w : World) → AreOfLiving w → AreOfLiving (after w (timer w))
timed w its =
    let v = after w (count_when w.book.runner w) in
    let before = count_by w its w.book.runner in
    subst AreOfLiving (sym (in_turn_is_each w (count_when w.book.runner ∷ clock ∷ []))) (still v (clock v) (λ i. keep_none) (same_lines v (clock v).book before refl refl))

-- ---- runs: at boot there are no lines, and nobody is asked
abbrev Holdings : Type 0
Holdings = (ℕ → Option ℕ) × (ℕ → Option Pending)

abbrev holdings : Book → Holdings
holdings b = (b.lines, b.pending)

kept_none : (e : ℕ) (programs : List ProgramValue) (b : Book) → holdings (with_all_kept e programs b) ≡ holdings b
kept_none e [] b = refl
kept_none e (p ∷ programs) b = kept_none (e + 1) programs (with_kept e p b)

booted : (image : ImageValue) → AreOfLiving (boot_world image)
booted image = record {
  lines = λ line e is. let never : None ≡ Some e = sym (ap (λ (h : Holdings). h.0 line) same) ∙ is in cc;
  pending = λ e p is. let never : None ≡ Some p = sym (ap (λ (h : Holdings). h.1 e) same) ∙ is in cc;
}
  where
    same : holdings (boot_world image).book ≡ holdings (book_of_image image)
    same = kept_none 0 image.programs (book_of_image image)

abbrev Both : World → Type 0
Both w = IsAccounted w × AreOfLiving w

pub are_of_living : GrantedMay → (system : System) (t k : ℕ) → AreOfLiving (moment system t k)
are_of_living granted system t k =
    (each_moment Both (λ what w its. (happen_accounts what w its.0, happened what w its.0 its.1)) (λ x w its. (taking_accounts x w its.0, taken x w its.1)) (λ w its. (settling_accounts w its.0, settled w its.1))
    (λ w its. (turn_keeps w its.0, turned w its.1)) (λ w its. (step_keeps granted w its.0, stepped granted w its.0 its.1 w.book.runner refl)) (λ w its. (timer_accounts w its.0, timed w its.1)) system
    (boots_accounted system.image, booted system.image) t k).1
