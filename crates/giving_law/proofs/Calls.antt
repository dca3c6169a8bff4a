-- What a call brings its caller.
use Rattle.std.proofs.Common.{◌≡◌, ◌≢◌, ◌+◌, ◌*◌, ℕ, List, [], ◌∷◌, ◌++◌, Bool, true, false, Option, Some, None, is_none, is_some, inl, inr, refl, sym, ◌∙◌, ap, subst}
use Rattle.std.specs.Prelude.{◌==◌, ◌&&◌, if◌then◌else◌, nat_lt, not, unwrap_or}
use Rattle.std.proofs.lemmas.Bool.{and_parts, eq-eqb, ne_eqb}
use Rattle.std.proofs.lemmas.List.{append-nil}
use Rattle.env_frames.specs.Context.{context_numbered}
use Rattle.env_frames.specs.declared.context.Context.{Context}
use Rattle.env_frames.specs.declared.transfer.TransferKind.{TransferKind}
use Rattle.env_frames.specs.Transfer.{transfer_numbered}
use Rattle.mips_exec.specs.declared.registers.Cpu.{Cpu}
use Rattle.mips_exec.specs.Cpu.{reg}
use Rattle.page_book.specs.declared.row.Capabilities.{Capabilities}
use Rattle.page_book.specs.declared.row.PageRow.TheVariants.{Owned}
use Rattle.revocation_book.specs.declared.revocation.Pending.{Pending}
use Rattle.revocation_book.specs.Pending.{asked}
use Rattle.world_model.specs.declared.call.Call.{Call}
use Rattle.world_model.specs.declared.call.Call.TheVariants as call
use Rattle.world_model.specs.declared.call.Deed.{Deed}
use Rattle.world_model.specs.declared.call.Deed.TheVariants.{Own, Gives, Allocates, Frees, Recaps, Binds, Transfers}
use Rattle.world_model.specs.declared.call.OwnDeed.{OwnDeed}
use Rattle.world_model.specs.declared.call.OwnDeed.TheVariants.{Puts, Sends}
use Rattle.world_model.specs.declared.life.Life.{Life}
use Rattle.world_model.specs.declared.life.Life.TheVariants.{Live}
use Rattle.world_model.specs.declared.slot.Runner.{Runner}
use Rattle.world_model.specs.declared.verdict.Verdict.{Verdict}
use Rattle.world_model.specs.declared.verdict.Verdict.TheVariants.{Refuse, Again, Grant}
use Rattle.world_model.specs.Book.{Book, running}
use Rattle.world_model.specs.Call.{any, context_deed, deed_of, good_range, line_deed, transfer_deed, words_of, yield_deed}
use Rattle.world_model.specs.Event.{asks, revokes}
use Rattle.world_model.specs.Item.{Item, Step, Start, Answer, Asked, Gained, Lost, absorb, absorb_all, absorbed, answered_cpu, deed_at, own_part, with_answer}
use Rattle.world_model.specs.May.{May}
use Rattle.world_model.specs.OwnCalls.{put_bytes}
use Rattle.world_model.specs.PageCalls.{lost_bindings, lost_if}
use Rattle.world_model.specs.SlotCalls.{is_other}
use Rattle.world_model.specs.Solo.{Solo, is_dead, sight}
use Rattle.world_model.specs.Step.{Calls}
use Rattle.world_model.specs.Tick.{act_now, act_reply, step, step_when}
use Rattle.world_model.specs.Verdict.{asks_one, done, reply_by_verdict, reply_to, verdict}
use Rattle.world_model.specs.World.{World, Reply, after, is_living, no_change, only, tells}
use Rattle.call_verdicts.specs.Granted.{GrantedMay}
use Rattle.run_model.specs.Acting.{Acts, Does}
use Rattle.run_model.specs.Excess.{IsAccounted}
use Rattle.run_model.specs.Run.{MomentsAreInOrder, System, at_step, before_turn}
use Rattle.run_model.proofs.Balance.{boots_accounted, happen_accounts, settling_accounts, step_keeps, taking_accounts, timer_accounts, turn_keeps}
use Rattle.run_model.proofs.Phases.{absorb-append}
use Rattle.run_model.proofs.Telling.{call_named, call_stands, deed_may}
use Rattle.giving_law.specs.Granted.{AnswersAreFound, HasOwnersWords, PutsAreWritten, SendsAreSent, WordsAreOwners}
use Rattle.giving_law.proofs.Moments.{each_moment}
use Rattle.giving_law.proofs.Origins.{registers_have_origin}
use Rattle.giving_law.proofs.Rising.{either}
use Rattle.giving_law.proofs.Running.{deed_here, runner_of, step_gives}

-- what is told to one is its
told_is : (e : ℕ) (xs : List Item) → only e xs e ≡ xs
told_is e xs = ap (λ (t : Bool). if t then xs else []) (eq-eqb e e refl)

-- who is given nothing keeps its registers
abbrev Stands : List Item → Type 0
Stands xs = (s : Solo) → (absorb_all s xs).cpu ≡ s.cpu

-- what is told to another isn't one's own
told_other : (e target : ℕ) (x : Item) → target ≢ e → Stands (only target (x ∷ []) e)
told_other e target x other s = ap (λ (t : Bool). (absorb_all s (if t then x ∷ [] else [])).cpu) (ne_eqb e target (λ same. other (sym same)))

reached_other : (w : World) (e target : ℕ) → is_other w e target ≡ true → target ≢ e
reached_other w e target its same =
    let alive = not (is_dead (w.solos target).life) in
    let parts = and_parts alive (not (target == e)) (and_parts (nat_lt target w.count) (alive && not (target == e)) its).1 in
    let clash : not true ≡ true = ap not (sym (eq-eqb target e same)) ∙ parts.1 in
    cc

lost_stands : (t : Bool) (page : ℕ) → Stands (lost_if t page)
lost_stands true page s = either (λ (u : Solo). u.cpu ≡ s.cpu) (is_dead s.life) s (absorbed s (Lost page)) refl refl
lost_stands false page s = refl

gained_stands : (page : ℕ) (writable : Bool) (bytes : List ℕ) (e : ℕ) → Stands (only e (Gained page writable bytes ∷ []) e)
gained_stands page writable bytes e s =
    ap (λ xs. (absorb_all s xs).cpu) (told_is e (Gained page writable bytes ∷ []))
    ∙ either (λ (u : Solo). u.cpu ≡ s.cpu) (is_dead s.life) s (absorbed s (Gained page writable bytes)) refl refl

deed_stands : (w : World) (e : ℕ) (d : Deed) → May w e d → Stands ((done w e d).items e)
deed_stands w e (Gives target) may s = told_other e target Start (reached_other w e target may.other) s
deed_stands w e (Transfers target kind) may s = told_other e target _ (reached_other w e target may.reach.other) s
deed_stands w e (Allocates page words) may s = gained_stands page true _ e s
deed_stands w e (Binds b word) may s = gained_stands b.page b.writable _ e s
deed_stands w e (Frees page) may s = ap (λ xs. (absorb_all s xs).cpu) (ap (λ (t : Bool). if t then Lost page ∷ [] else lost_bindings w.book page e) (eq-eqb e e refl)) ∙ lost_stands true page s
deed_stands w e (Recaps page words) may s = ap (λ xs. (absorb_all s xs).cpu) (ap (λ (t : Bool). if t then [] else lost_bindings w.book page e) (eq-eqb e e refl))
deed_stands w e d may s = refl

asks_stands : (w : World) (e who : ℕ) (o : Option Pending) → Stands ((asks who o w).items e)
asks_stands w e who None s = refl
asks_stands w e who (Some p) s = either (λ xs. (absorb_all s xs).cpu ≡ s.cpu) (e == who) (Asked p.outstanding p.deadline ∷ []) [] its refl
  where
    its : (absorb s (Asked p.outstanding p.deadline)).cpu ≡ s.cpu
    its = elim (registers_have_origin s (Asked p.outstanding p.deadline)) [ inl same ↦ same | inr never ↦ absurd never ]

revokes_stands : (w : World) (e who count until : ℕ) → Stands ((revokes who count until w).items e)
revokes_stands w e who count until s =
    let pending = asked count until (w.book.pending who) in
    either (λ (r : Reply). (absorb_all s (r.items e)).cpu ≡ s.cpu) (is_living w who) (asks who pending w) (no_change w) (asks_stands w e who pending s) refl

asked_stands : (w : World) (e who : ℕ) → Stands ((asks_one who w).items e)
asked_stands w e who s =
    let until = w.book.time + 2 * w.book.quantum in
    either (λ (r : Reply). (absorb_all s (r.items e)).cpu ≡ s.cpu) (is_none (w.book.pending who)) (revokes who 1 until w) (no_change w) (revokes_stands w e who 1 until s) refl

-- ---- the caller after its call
module _ (w : World) (e : ℕ) (c : Option Call) (acts : Acts w e (Calls c)) (lives : (w.solos e).life ≡ Live) where
  abbrev s : Solo
  s = w.solos e

  after_call : (after w (step w)).solos e ≡ absorb_all s ((reply_to w e c).items e)
  after_call =
      let v = after w (tells e Step w) in
      let stands : v ≡ w = call_stands w e c acts.comes in
      let items = (act_reply e (act_now w e) v).items e in
      ap (absorb_all s) (step_gives w e e acts.runs)
      ∙ absorb-append s (only e (Step ∷ []) e) (items ++ [])
      ∙ ap (λ (u : World). absorb_all (u.solos e) (items ++ [])) stands
      ∙ ap (absorb_all s) (append-nil items)
      ∙ ap (λ act. absorb_all s ((act_reply e act v).items e)) acts.comes
      ∙ ap (λ (u : World). absorb_all s ((reply_to u e c).items e)) stands

  answered : (v : Verdict) (rest : List Item) → absorb_all s (only e (Answer v ∷ []) e ++ rest) ≡ absorb_all (with_answer v s) rest
  answered v rest =
      ap (λ xs. absorb_all s (xs ++ rest)) (told_is e (Answer v ∷ []))
      ∙ ap (λ (l : Life). absorb_all (if is_dead l then s else with_answer v s) rest) lives

  found : GrantedMay → ((after w (step w)).solos e).cpu ≡ answered_cpu (verdict w e c) s.cpu
  found granted = ap (λ (t : Solo). t.cpu) after_call ∙ by_verdict (verdict w e c) refl
    where
      by_verdict : (v : Verdict) → verdict w e c ≡ v → (absorb_all s ((reply_by_verdict w e v).items e)).cpu ≡ answered_cpu v s.cpu
      by_verdict (Refuse code value) so =
          ap (λ xs. (absorb_all s xs).cpu) (sym (append-nil (only e (Answer (Refuse code value) ∷ []) e))) ∙ ap (λ (t : Solo). t.cpu) (answered (Refuse code value) [])
      by_verdict (Again who) so =
          ap (λ (t : Solo). t.cpu) (answered (Again who) ((asks_one who w).items e)) ∙ asked_stands w e who (with_answer (Again who) s)
      by_verdict (Grant value) so =
          let d = deed_at s value in
          ap (λ (t : Solo). t.cpu) (answered (Grant value) ((done w e d).items e))
          ∙ deed_stands w e d (deed_may granted w e c (call_named w e c acts.comes) value so) (with_answer (Grant value) s)

-- Who is granted a call that is its own has done it.
own_call : (w : World) (e : ℕ) (d : OwnDeed) → (does : Does w e (Own d)) → (w.solos e).life ≡ Live
    → (after w (step w)).solos e ≡ record (own_part (Own d) (w.solos e)) { cpu = answered_cpu (Grant does.value) (w.solos e).cpu }
own_call w e d does lives =
    let s = w.solos e in
    let c = does.call in
    let v = Grant does.value in
    let here = deed_here w e (Own d) does in
    after_call w e c does.acts lives
    ∙ ap (λ (u : Verdict). absorb_all s ((reply_by_verdict w e u).items e)) does.granted
    ∙ answered w e c does.acts lives v ((done w e (deed_at s does.value)).items e)
    ∙ ap (λ (x : Deed). absorb_all (with_answer v s) ((done w e x).items e)) here
    ∙ ap (λ (x : Deed). record (own_part x s) { cpu = answered_cpu v s.cpu }) here

-- At each moment who runs lives.
runs_live : GrantedMay → (system : System) (t e : ℕ) → running (at_step system t).book.runner ≡ Some e → ((at_step system t).solos e).life ≡ Live
runs_live granted system t e runs =
    let w = at_step system t in
    let accounted : IsAccounted w = each_moment IsAccounted happen_accounts taking_accounts settling_accounts turn_keeps (step_keeps granted) timer_accounts system (boots_accounted system.image) t (before_turn system t + 1) in
    let its = runner_of w.book.runner e runs in
    subst (λ (n : ℕ). (w.solos n).life ≡ Live) its.2 (accounted.runner_lives its.0 its.1)

pub answers_are_found : GrantedMay → MomentsAreInOrder → AnswersAreFound
answers_are_found granted order system t e c acts =
    ap (λ (v : World). (v.solos e).cpu) (order system t).stepped ∙ found (at_step system t) e c acts (runs_live granted system t e acts.runs) granted

-- the value that there is
some_of : (o : Option (List ℕ)) → is_some o ≡ true → o ≡ Some (unwrap_or o [])
some_of None is = cc
some_of (Some xs) is = refl

-- what a granted call presupposes of its caller
may_here : GrantedMay → (w : World) (e : ℕ) (d : Deed) → Does w e d → May w e d
may_here granted w e d does =
    subst (May w e) (deed_here w e d does) (deed_may granted w e does.call (call_named w e does.call does.acts.comes) does.value does.granted)

pub puts_are_written : GrantedMay → MomentsAreInOrder → PutsAreWritten
puts_are_written granted order system t e address size does =
    let w = at_step system t in
    let s = w.solos e in
    let may = may_here granted w e (Own (Puts address size)) does in
    record {
      bytes = unwrap_or (put_bytes (sight s) address size) [];
      named = some_of (put_bytes (sight s) address size) may.good;
      written = ap (λ (v : World). (v.solos e).console) (order system t).stepped ∙ ap (λ (x : Solo). x.console) (own_call w e (Puts address size) does (runs_live granted system t e does.acts.runs));
    }

pub sends_are_sent : GrantedMay → MomentsAreInOrder → SendsAreSent
sends_are_sent granted order system t e address size does =
    let w = at_step system t in
    let s = w.solos e in
    let may = may_here granted w e (Own (Sends address size)) does in
    record {
      packet = unwrap_or (good_range (sight s) address size) [];
      named = some_of (good_range (sight s) address size) may.good;
      put = ap (λ (v : World). (v.solos e).sent) (order system t).stepped ∙ ap (λ (x : Solo). x.sent) (own_call w e (Sends address size) does (runs_live granted system t e does.acts.runs));
    }

-- ---- the words of a page
abbrev words_in : Deed → Option Capabilities
words_in (Allocates page words) = Some words
words_in (Recaps page words) = Some words
words_in d = None

yield_words : (target : ℕ) (is_any : Bool) → words_in (yield_deed target is_any) ≡ None
yield_words target true = refl
yield_words target false = refl

context_words : (kind : Option Context) (address : ℕ) → words_in (context_deed kind address) ≡ None
context_words None address = refl
context_words (Some kind) address = refl

transfer_words : (target : ℕ) (kind : Option TransferKind) → words_in (transfer_deed target kind) ≡ None
transfer_words target None = refl
transfer_words target (Some kind) = refl

line_words : (line : ℕ) (takes : Bool) → words_in (line_deed line takes) ≡ None
line_words line true = refl
line_words line false = refl

no_words : (o : Option Capabilities) (words : Capabilities) (A : Type 0) → o ≡ None → o ≡ Some words → A
no_words o words A none some = let clash : None ≡ Some words = sym none ∙ some in cc

its_words : (c : Option Call) (value : ℕ) (cpu : Cpu) (words : Capabilities) → words_in (deed_of c value cpu) ≡ Some words → words ≡ words_of cpu
its_words (Some call.Alloc) value cpu words is = let same : words_of cpu ≡ words = cc in sym same
its_words (Some call.Recap) value cpu words is = let same : words_of cpu ≡ words = cc in sym same
its_words (Some call.Yield) value cpu words is = no_words _ words _ (yield_words (reg cpu 4) (reg cpu 4 == any)) is
its_words (Some call.Context) value cpu words is = no_words _ words _ (context_words (context_numbered (reg cpu 4)) (reg cpu 5)) is
its_words (Some call.Transfer) value cpu words is = no_words _ words _ (transfer_words (reg cpu 4) (transfer_numbered (reg cpu 5))) is
its_words (Some call.Line) value cpu words is = no_words _ words _ (line_words (reg cpu 4) (reg cpu 5 == 1)) is
its_words None value cpu words is = cc
its_words (Some call.Put) value cpu words is = cc
its_words (Some call.Free) value cpu words is = cc
its_words (Some call.Bind) value cpu words is = cc
its_words (Some call.Unbind) value cpu words is = cc
its_words (Some call.Accept) value cpu words is = cc
its_words (Some call.SlotTake) value cpu words is = cc
its_words (Some call.SlotDrop) value cpu words is = cc
its_words (Some call.Query) value cpu words is = cc
its_words (Some call.Claim) value cpu words is = cc
its_words (Some call.Unclaim) value cpu words is = cc
its_words (Some call.Handler) value cpu words is = cc
its_words (Some call.Backup) value cpu words is = cc
its_words (Some call.Send) value cpu words is = cc
its_words (Some call.OwnNumber) value cpu words is = cc
its_words (Some call.Clock) value cpu words is = cc

-- the book that a granted call leaves
pub deed_book : (w : World) (e : ℕ) (d : Deed) → Does w e d → (step w).book ≡ (done w e d).book
deed_book w e d does =
    let its = runner_of w.book.runner e does.acts.runs in
    let v = after w (tells e Step w) in
    ap (λ (o : Option Runner). (step_when w o).book) its.1
    ∙ ap (λ (n : ℕ). (act_reply n (act_now w n) (after w (tells n Step w))).book) its.2
    ∙ ap (λ act. (act_reply e act v).book) does.acts.comes
    ∙ ap (λ (u : World). (reply_to u e does.call).book) (call_stands w e does.call does.acts.comes)
    ∙ ap (λ (u : Verdict). (reply_by_verdict w e u).book) does.granted
    ∙ ap (λ (x : Deed). (done w e x).book) (deed_here w e d does)

module _ (order : MomentsAreInOrder) (system : System) (t e page : ℕ) (words : Capabilities) where
  abbrev w : World
  w = at_step system t

  has_words : (d : Deed) → Does w e d → words_in d ≡ Some words → (done w e d).book.pages page ≡ Owned e words → HasOwnersWords system t e page
  has_words d does named owned =
      let cpu = (w.solos e).cpu in
      let its : words ≡ words_of cpu = its_words does.call does.value cpu words (ap words_in does.done ∙ named) in
      record {
        words = words;
        owned = ap (λ (v : World). v.book.pages page) (order system t).stepped ∙ ap (λ (b : Book). b.pages page) (deed_book w e d does) ∙ owned;
        read = ap (λ (x : Capabilities). x.read) its;
        write = ap (λ (x : Capabilities). x.write) its;
      }

pub words_are_owners : MomentsAreInOrder → WordsAreOwners
words_are_owners order system t e page words (inl does) =
    let w = at_step system t in
    has_words order system t e page words (Allocates page words) does refl (ap (λ (b : Bool). if b then Owned e words else w.book.pages page) (eq-eqb page page refl))
words_are_owners order system t e page words (inr does) =
    let w = at_step system t in
    has_words order system t e page words (Recaps page words) does refl (ap (λ (b : Bool). if b then Owned e words else w.book.pages page) (eq-eqb page page refl))
