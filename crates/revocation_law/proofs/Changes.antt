-- What turn, step and timer change of what is pending for an environment, and what they give to it.
use Rattle.std.proofs.Common.{◌≡◌, ◌+◌, ℕ, List, [], ◌∷◌, ◌++◌, Bool, true, false, Option, None, Some, refl, sym, ◌∙◌, ap, subst, append_assoc}
use Rattle.std.specs.Prelude.{◌==◌, ◌*◌, if◌then◌else◌, is_none}
use Rattle.std.proofs.lemmas.Bool.{cond_both, eqb-true}
use Rattle.std.proofs.lemmas.List.{append-nil}
use Rattle.frame_store.specs.Pages.{zero_page}
use Rattle.mips_exec.specs.Step.{cpu_after}
use Rattle.env_frames.specs.Transfer.{carried}
use Rattle.revocation_book.specs.declared.revocation.Pending.{Pending}
use Rattle.revocation_book.specs.Pending.{asked, lowered}
use Rattle.world_model.specs.declared.call.Call.{Call}
use Rattle.world_model.specs.declared.call.Deed.{Deed}
use Rattle.world_model.specs.declared.call.Deed.TheVariants.{Answers, Own, Stops, Gives, Allocates, Frees, Recaps, Binds, Unbinds, Transfers, TakesSlot, DropsSlot, TakesLine, DropsLine, Claims, Unclaims, Downloads, Loads}
use Rattle.world_model.specs.declared.life.Cause.{Cause}
use Rattle.world_model.specs.declared.slot.Runner.{Runner}
use Rattle.world_model.specs.declared.slot.Turn.{Turn}
use Rattle.world_model.specs.declared.timer.Timer.{Timer}
use Rattle.world_model.specs.declared.timer.Timer.TheVariants as answer
use Rattle.world_model.specs.declared.verdict.Verdict.{Verdict}
use Rattle.world_model.specs.declared.verdict.Verdict.TheVariants.{Refuse, Again, Grant}
use Rattle.world_model.specs.Book.{running, whole_turn}
use Rattle.world_model.specs.Death.{lost_with}
use Rattle.world_model.specs.Event.{asks, revokes}
use Rattle.world_model.specs.Item.{Item, Answer, Asked, End, Gained, Killed, Lost, Start, Step, Transfer, absorb, absorb_all, deed_at}
use Rattle.world_model.specs.PageCalls.{left_by, lost_bindings, page_bytes}
use Rattle.world_model.specs.Solo.{Solo, is_dead}
use Rattle.world_model.specs.Step.{Act, Nothing, Stores, Calls, Raises, Dies, act_of, acted, step_alone, stepped}
use Rattle.world_model.specs.Tick.{act_now, act_reply, count_when, step_when, take_turn, timer, timer_now, timer_reply, turn_when}
use Rattle.world_model.specs.Verdict.{asks_one, done, reply_by_verdict, reply_to, verdict}
use Rattle.world_model.specs.World.{World, Reply, after, in_turn, is_living, no_change, only, tells}
use Rattle.run_model.specs.Acting.{Acts, Does}
use Rattle.run_model.proofs.Telling.{call_does, call_stands}
use Rattle.revocation_law.proofs.Plain.{ArePlain, breaks_plain, left_by_plain, lost_with_plain, plain_both, plain_if, plain_only}
use Rattle.revocation_law.proofs.Requests.{AsksFor}

-- nothing of it changes
pub record Leaves (w : World) (e : ℕ) (becomes : Option Pending) (items : List Item) : Type 0 where
  pub same : becomes ≡ w.book.pending e
  pub plain : ArePlain items

-- the environment dies
pub record Ends (w : World) (e : ℕ) (becomes : Option Pending) (items : List Item) : Type 0 where
  pub none : becomes ≡ None
  pub plain : ArePlain items
  pub dead : is_dead (absorb_all (w.solos e) items).life ≡ true

-- it is asked for one page under pressure
pub record Presses (w : World) (e : ℕ) (becomes : Option Pending) (items : List Item) : Type 0 where
  pub nothing : w.book.pending e ≡ None
  pub one : becomes ≡ Some (record { outstanding = 1; deadline = w.book.time + 2 * w.book.quantum })
  pub told : AsksFor 1 (w.book.time + 2 * w.book.quantum) items

-- it frees a page
pub record GivesBack (w : World) (e : ℕ) (becomes : Option Pending) (items : List Item) : Type 0 where
  pub page : ℕ
  pub does : Does w e (Frees page)
  pub less : becomes ≡ lowered (w.book.pending e)
  pub plain : ArePlain items

-- what a call does
pub data Deal (w : World) (e : ℕ) (becomes : Option Pending) (items : List Item) : Type 0 where
  Stays : Leaves w e becomes items → Deal w e becomes items
  Pressed : Presses w e becomes items → Deal w e becomes items
  Given : GivesBack w e becomes items → Deal w e becomes items

-- with plain items before it, and with none after it
pub deal_behind : (w : World) (e : ℕ) (becomes : Option Pending) (xs ys : List Item) → ArePlain xs → Deal w e becomes ys → Deal w e becomes (xs ++ ys)
deal_behind w e becomes xs ys plain (Stays is) = Stays (record { same = is.same; plain = plain_both xs ys plain is.plain })
deal_behind w e becomes xs ys plain (Given is) = Given (record { page = is.page; does = is.does; less = is.less; plain = plain_both xs ys plain is.plain })
deal_behind w e becomes xs ys plain (Pressed is) = Pressed (record { nothing = is.nothing; one = is.one; told = asks_behind is.told })
  where
    asks_behind : AsksFor 1 (w.book.time + 2 * w.book.quantum) ys → AsksFor 1 (w.book.time + 2 * w.book.quantum) (xs ++ ys)
    asks_behind told = record {
      before = xs ++ told.before;
      behind = told.behind;
      its = ap (λ (items : List Item). xs ++ items) told.its ∙ sym (append_assoc xs told.before (Asked 1 (w.book.time + 2 * w.book.quantum) ∷ told.behind));
      first = plain_both xs told.before plain told.first;
      last = told.last;
    }

pub deal_alone : (w : World) (e : ℕ) (becomes : Option Pending) (xs : List Item) → Deal w e becomes xs → Deal w e becomes (xs ++ [])
deal_alone w e becomes xs deal = subst (Deal w e becomes) (sym (append-nil xs)) deal

still : (w : World) (e : ℕ) (items : List Item) → ArePlain items → Deal w e (w.book.pending e) items
still w e items plain = Stays (record { same = refl; plain = plain })

abbrev DealBy : World → ℕ → Reply → Type 0
DealBy w e r = Deal w e (r.book.pending e) (r.items e)

-- Asking under pressure.
none_pending : (o : Option Pending) → is_none o ≡ true → o ≡ None
none_pending None is = refl
none_pending (Some p) is = cc

module _ (w : World) (who e : ℕ) where
  abbrev until : ℕ
  until = w.book.time + 2 * w.book.quantum

  abbrev one_page : Pending
  one_page = record { outstanding = 1; deadline = until }

  one_asked : asked 1 until None ≡ Some one_page
  one_asked = refl

  asked_whom : w.book.pending who ≡ None → (mine : Bool) → (e == who) ≡ mine
      → Deal w e (if mine then Some one_page else w.book.pending e) (if mine then Asked 1 until ∷ [] else [])
  asked_whom none true own =
      let same : e ≡ who = eqb-true e who own in
      Pressed (record { nothing = ap w.book.pending same ∙ none; one = refl; told = record { before = []; behind = []; its = refl; first = refl; last = refl } })
  asked_whom none false other = still w e [] refl

  asks_deal : w.book.pending who ≡ None → DealBy w e (asks who (asked 1 until (w.book.pending who)) w)
  asks_deal none =
      subst (λ (o : Option Pending). DealBy w e (asks who o w)) (sym (ap (asked 1 until) none ∙ one_asked)) (asked_whom none (e == who) refl)

  press_deal : DealBy w e (asks_one who w)
  press_deal =
      cond_both (is_none (w.book.pending who)) (revokes who 1 until w) (no_change w) (DealBy w e)
      (λ nothing. cond_both (is_living w who) (asks who (asked 1 until (w.book.pending who)) w) (no_change w) (DealBy w e) (λ lives. asks_deal (none_pending (w.book.pending who) nothing)) (λ gone. still w e [] refl))
      (λ pending. still w e [] refl)

-- A caller's deed.
module _ (w : World) (c e : ℕ) where
  frees_deal : (page : ℕ) → Does w c (Frees page) → DealBy w e (done w c (Frees page))
  frees_deal page does = by_test (e == c) refl
    where
      by_test : (mine : Bool) → (e == c) ≡ mine → Deal w e (if mine then lowered (w.book.pending c) else w.book.pending e) (if mine then Lost page ∷ [] else lost_bindings w.book page e)
      by_test true own =
          let same : c ≡ e = sym (eqb-true e c own) in
          Given (record { page = page; does = subst (λ (n : ℕ). Does w n (Frees page)) same does; less = ap (λ (n : ℕ). lowered (w.book.pending n)) same; plain = refl })
      by_test false other = still w e (lost_bindings w.book page e) (breaks_plain w.book page e)

  deed_deal : (d : Deed) → Does w c d → DealBy w e (done w c d)
  deed_deal Answers does = still w e [] refl
  deed_deal (Own own) does = still w e [] refl
  deed_deal Stops does = still w e [] refl
  deed_deal (Gives target) does = still w e (only target (Start ∷ []) e) (plain_only target (Start ∷ []) e refl)
  deed_deal (Allocates page words) does = let gained = Gained page true zero_page ∷ [] in still w e (only c gained e) (plain_only c gained e refl)
  deed_deal (Frees page) does = frees_deal page does
  deed_deal (Recaps page words) does = still w e (if e == c then [] else lost_bindings w.book page e) (plain_if (e == c) [] (lost_bindings w.book page e) refl (breaks_plain w.book page e))
  deed_deal (Binds b word) does = let gained = Gained b.page b.writable (page_bytes w b.page) ∷ [] in still w e (only c gained e) (plain_only c gained e refl)
  deed_deal (Unbinds vpn) does = still w e [] refl
  deed_deal (Transfers target kind) does = let entered = Transfer c kind (carried (w.solos c).cpu) ∷ [] in still w e (only target entered e) (plain_only target entered e refl)
  deed_deal (TakesSlot k) does = still w e [] refl
  deed_deal (DropsSlot k) does = still w e [] refl
  deed_deal (TakesLine line) does = still w e [] refl
  deed_deal (DropsLine line) does = still w e [] refl
  deed_deal (Claims claim address atoms page) does = still w e [] refl
  deed_deal (Unclaims claim) does = still w e [] refl
  deed_deal (Downloads claim address words) does = still w e [] refl
  deed_deal (Loads page) does = still w e [] refl

  answered : (v : Verdict) → ArePlain (only c (Answer v ∷ []) e)
  answered v = plain_only c (Answer v ∷ []) e refl

  reply_deal : (call : Option Call) → Acts w c (Calls call) → (v : Verdict) → verdict w c call ≡ v → DealBy w e (reply_by_verdict w c v)
  reply_deal call acts (Refuse code value) is = still w e (only c (Answer (Refuse code value) ∷ []) e) (answered (Refuse code value))
  reply_deal call acts (Again who) is =
      let r = asks_one who w in deal_behind w e (r.book.pending e) (only c (Answer (Again who) ∷ []) e) (r.items e) (answered (Again who)) (press_deal w who e)
  reply_deal call acts (Grant value) is =
      let d = deed_at (w.solos c) value in
      let r = done w c d in
      deal_behind w e (r.book.pending e) (only c (Answer (Grant value) ∷ []) e) (r.items e) (answered (Grant value)) (deed_deal d (call_does w c call acts value is))

-- The step.
pub data Change (w : World) (e : ℕ) (becomes : Option Pending) (items : List Item) : Type 0 where
  Dealt : Deal w e becomes items → Change w e becomes items
  Ended : Ends w e becomes items → Change w e becomes items

step_dies : (s : Solo) (cause : Cause) → act_of s (step_alone s) ≡ Dies cause → is_dead (absorb s Step).life ≡ true
step_dies s cause is =
    cond_both (is_dead s.life) s (stepped s (step_alone s)) (λ (t : Solo). is_dead t.life ≡ true) (λ dead. dead)
    (λ lives. subst (λ (act : Act). is_dead (acted act (record s { cpu = cpu_after s.cpu (step_alone s) })).life ≡ true) (sym is) refl)

module _ (w : World) (c e : ℕ) (runs : running w.book.runner ≡ Some c) where
  abbrev stepping : Act → Reply
  stepping act = in_turn (tells c Step ∷ act_reply c act ∷ []) w

  abbrev ChangeBy : Reply → Type 0
  ChangeBy r = Change w e (r.book.pending e) (r.items e)

  after_step : (becomes : Option Pending) (items : List Item) → Deal w e becomes items → Change w e becomes (only c (Step ∷ []) e ++ (items ++ []))
  after_step becomes items deal =
      Dealt (deal_behind w e becomes (only c (Step ∷ []) e) (items ++ []) (plain_only c (Step ∷ []) e refl) (deal_alone w e becomes items deal))

  act_change : (act : Act) → act_now w c ≡ act → ChangeBy (stepping act)
  act_change Nothing is = after_step (w.book.pending e) [] (still w e [] refl)
  act_change (Stores x) is = after_step (w.book.pending e) (left_by w.book c x e) (still w e (left_by w.book c x e) (left_by_plain w.book c x e))
  act_change (Raises exc) is = after_step (w.book.pending e) [] (still w e [] refl)
  act_change (Calls call) is =
      let acts : Acts w c (Calls call) = record { runs = runs; comes = is } in
      let v = after w (tells c Step w) in
      let r = reply_to v c call in
      after_step (r.book.pending e) (r.items e)
      (subst (λ (u : World). Deal w e ((reply_to u c call).book.pending e) ((reply_to u c call).items e)) (sym (call_stands w c call is)) (reply_deal w c e call acts (verdict w c call) refl))
  act_change (Dies cause) is = by_test (e == c) refl
    where
      by_test : (mine : Bool) → (e == c) ≡ mine
          → Change w e (if mine then None else w.book.pending e) ((if mine then Step ∷ [] else []) ++ ((if mine then [] else lost_with w.book c e w.book.page_count) ++ []))
      by_test true own =
          let same : c ≡ e = sym (eqb-true e c own) in
          Ended (record { none = refl; plain = refl; dead = subst (λ (n : ℕ). is_dead (absorb (w.solos n) Step).life ≡ true) same (step_dies (w.solos c) cause is) })
      by_test false other =
          let lost = lost_with w.book c e w.book.page_count in
          Dealt (deal_alone w e (w.book.pending e) lost (still w e lost (lost_with_plain w.book c e w.book.page_count)))

pub step_change : (w : World) (e : ℕ) (o : Option Runner) → w.book.runner ≡ o → Change w e ((step_when w o).book.pending e) ((step_when w o).items e)
step_change w e None is = Dealt (still w e [] refl)
step_change w e (Some r) is = act_change w r.env e (ap running is) (act_now w r.env) refl

-- The turn.
turn_taken : (w : World) (e : ℕ) (o : Option Turn) → let r = take_turn w (whole_turn w.book) o in Leaves w e (r.book.pending e) (r.items e)
turn_taken w e None = record { same = refl; plain = refl }
turn_taken w e (Some t) = record { same = refl; plain = plain_only t.env (Start ∷ []) e refl }

pub turn_leaves : (w : World) (e : ℕ) (o : Option Runner) → Leaves w e ((turn_when w o).book.pending e) ((turn_when w o).items e)
turn_leaves w e None = turn_taken w e (whole_turn w.book).runs
turn_leaves w e (Some r) = record { same = refl; plain = refl }

-- The timer: the runner may die of its excess.
pub data Lapse (w : World) (e : ℕ) (becomes : Option Pending) (items : List Item) : Type 0 where
  Lapsed : Leaves w e becomes items → Lapse w e becomes items
  Died : Ends w e becomes items → Lapse w e becomes items

abbrev LapseBy : World → ℕ → Reply → Type 0
LapseBy w e r = Lapse w e (r.book.pending e) (r.items e)

killed_dies : (s : Solo) → is_dead (absorb s Killed).life ≡ true
killed_dies s = cond_both (is_dead s.life) s _ (λ (t : Solo). is_dead t.life ≡ true) (λ dead. dead) (λ lives. refl)

timer_lapse : (w : World) (e : ℕ) (r : Runner) (what : Timer) → LapseBy w e (timer_reply r what w)
timer_lapse w e r answer.Nothing = Lapsed (record { same = refl; plain = refl })
timer_lapse w e r answer.End = Lapsed (record { same = refl; plain = plain_only r.env (End ∷ []) e refl })
timer_lapse w e r answer.Stop = Lapsed (record { same = refl; plain = refl })
timer_lapse w e r (answer.Over excess) = Lapsed (record { same = refl; plain = refl })
timer_lapse w e r answer.Kill = by_test (e == r.env) refl
  where
    by_test : (mine : Bool) → (e == r.env) ≡ mine
        → Lapse w e (if mine then None else w.book.pending e) (((if mine then Killed ∷ [] else []) ++ ((if mine then [] else lost_with w.book r.env e w.book.page_count) ++ [])) ++ [])
    by_test true own = Died (record { none = refl; plain = refl; dead = killed_dies (w.solos e) })
    by_test false other =
        let lost = lost_with w.book r.env e w.book.page_count in
        Lapsed (record { same = refl; plain = plain_both (lost ++ []) [] (plain_both lost [] (lost_with_plain w.book r.env e w.book.page_count) refl) refl })

count_lapse : (w : World) (e : ℕ) (o : Option Runner) → LapseBy w e (count_when o w)
count_lapse w e None = Lapsed (record { same = refl; plain = refl })
count_lapse w e (Some r) = timer_lapse w e r (timer_now w r)

pub timer_lapses : (w : World) (e : ℕ) → LapseBy w e (timer w)
timer_lapses w e =
    let r = count_when w.book.runner w in
    subst (λ (items : List Item). Lapse w e (r.book.pending e) items) (sym (append-nil (r.items e))) (count_lapse w e w.book.runner)
