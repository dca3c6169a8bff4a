-- What the reply to the runner's step leaves of lives and slots.
use Rattle.std.proofs.Common.{rules, ◌≡◌, ◌+◌, ℕ, List, [], ◌∷◌, ◌++◌, Bool, true, false, ◌&&◌, refl, sym, ◌∙◌, ap, subst, Option, Some, None}
use Rattle.std.specs.Prelude.{◌==◌, ◌*◌, not, nat_lt, if◌then◌else◌, is_none}
use Rattle.std.specs.Option.{option_map}
use Rattle.std.proofs.lemmas.Bool.{and_parts, cond_both, eqb-true, eqb-false, eq-eqb, not-true}
use Rattle.frame_store.specs.Pages.{zero_page}
use Rattle.kernel_journal.specs.declared.row.Row.{Row}
use Rattle.kernel_journal.specs.declared.row.Row.TheVariants as row
use Rattle.mips_exec.specs.Step.{cpu_after}
use Rattle.env_frames.specs.declared.transfer.TransferKind.{TransferKind}
use Rattle.env_frames.specs.declared.transfer.TransferKind.TheVariants as kind
use Rattle.env_frames.specs.Transfer.{carried, hands_slot}
use Rattle.world_model.specs.declared.call.Call.{Call}
use Rattle.world_model.specs.declared.life.Life.{Life}
use Rattle.world_model.specs.declared.life.Life.TheVariants.{Live, Dead}
use Rattle.world_model.specs.declared.life.Cause.{Cause}
use Rattle.world_model.specs.declared.hold.Hold.{Hold}
use Rattle.world_model.specs.declared.slot.Runner.{Runner}
use Rattle.world_model.specs.declared.call.Deed.{Deed}
use Rattle.world_model.specs.declared.call.Deed.TheVariants.{Answers, Own, Stops, Gives, Allocates, Frees, Recaps, Binds, Unbinds, Transfers, TakesSlot, DropsSlot, TakesLine, DropsLine, Claims, Unclaims, Downloads, Loads}
use Rattle.world_model.specs.declared.verdict.Verdict.{Verdict}
use Rattle.world_model.specs.declared.verdict.Verdict.TheVariants.{Refuse, Again, Grant}
use Rattle.world_model.specs.Table.{set_at}
use Rattle.world_model.specs.Book.{Book, own_hold, hold_without}
use Rattle.world_model.specs.Call.{called}
use Rattle.world_model.specs.Death.{death, lost_with}
use Rattle.world_model.specs.Event.{asks, revokes}
use Rattle.revocation_book.specs.declared.revocation.Pending.{Pending}
use Rattle.revocation_book.specs.Pending.{asked}
use Rattle.world_model.specs.Item.{Item, Asked, Step, Start, Transfer, Answer, Gained, Lost, absorb, absorb_all, deed_at}
use Rattle.world_model.specs.May.{May}
use Rattle.world_model.specs.PageCalls.{lost_bindings, page_bytes}
use Rattle.world_model.specs.SlotCalls.{dropped, handed, held_by, is_other, turn_slot, with_slot}
use Rattle.world_model.specs.Solo.{Solo, is_dead}
use Rattle.world_model.specs.Step.{Act, Nothing, Stores, Calls, Raises, Dies, act_of, acted, step_alone, stepped}
use Rattle.world_model.specs.Tick.{act_now, act_reply}
use Rattle.world_model.specs.Transfers.{slots_handed, transfer_rows}
use Rattle.world_model.specs.Verdict.{asks_one, done, reply_by_verdict, reply_to, verdict}
use Rattle.world_model.specs.World.{World, Reply, after, followed, in_turn, is_living, no_change, only, run_phases, tells}
use Rattle.call_verdicts.specs.Granted.{GrantedMay}
use Rattle.run_model.specs.Excess.{pays, AreSlotsLive, IsAccounted, IsRunnerLive, Lives}
use Rattle.run_model.proofs.Phases.{in_turn_is_each}
use Rattle.run_model.proofs.Telling.{deed_may, told_named, told_own}
use Rattle.run_model.proofs.Lives.{Keeps, if_living, keep_answer, keep_asked, keep_both, keep_none, keep_set, keep_only, keep_start, keep_transfer, keep_gained, keep_lost, breaks_keep, left_by_keeps, lost_with_keeps}
use Rattle.run_model.proofs.Rows.{AreQuiet, Adds, adds_quiet, lawful_both, set_other, quiet_both, quiet_releases, quiet_slot}

-- After a reply who lives lived before, with this excess, and who has slots or runs lives.
pub record Calm (w : World) (r : Reply) (excess : ℕ → ℕ) : Type 0 where
  pub living : (i : ℕ) → Lives (after w r) i → Lives w i × (r.book.excess i ≡ excess i)
  pub slots : AreSlotsLive (after w r) r.book.slots
  pub runner : IsRunnerLive (after w r) r.book.runner

-- A reply with rows that count for nobody, which leaves lives and excess.
pub record Mild (w : World) (r : Reply) : Type 0 where
  pub excess : r.book.excess ≡ w.book.excess
  pub quiet : AreQuiet r.rows
  pub keeps : (i : ℕ) → Keeps (r.items i)
  pub slots : AreSlotsLive w r.book.slots
  pub runner : IsRunnerLive w r.book.runner

-- a mild reply is calm with whatever items leave lives
pub calm_with : (w : World) (r : Reply) (items : ℕ → List Item) → Mild w r → ((i : ℕ) → (absorb_all (w.solos i) (items i)).life ≡ (w.solos i).life) → Calm w (record r { items = items }) w.book.excess
calm_with w r items mild same = record {
  living = λ i lives. (sym (same i) ∙ lives, ap (λ (f : ℕ → ℕ). f i) mild.excess);
  slots = λ k hold is. let were = mild.slots k hold is in (same hold.owner ∙ were.0, same hold.holder ∙ were.1);
  runner = λ x is. same x.env ∙ mild.runner x is;
}

-- what a calm reply with lawful rows leaves is accounted
pub accounts : (w : World) (r : Reply) (excess : ℕ → ℕ) → IsAccounted w → Adds w w.rows r.rows excess → Calm w r excess → IsAccounted (after w r)
accounts w r excess good adds calm = record {
  balanced = λ e lives. let was = calm.living e lives in adds.balanced e was.0 ∙ ap (λ (n : ℕ). pays e (w.rows ++ r.rows) + n) (sym was.1);
  lawful = lawful_both [] w.rows r.rows good.lawful adds.lawful;
  slots_live = calm.slots;
  runner_lives = calm.runner;
}

pub mild_accounts : (w : World) (r : Reply) → IsAccounted w → Mild w r → IsAccounted (after w r)
mild_accounts w r good mild =
    accounts w r w.book.excess good (adds_quiet w w.rows r.rows w.book.excess mild.quiet good.balanced) (calm_with w r r.items mild (λ i. mild.keeps i (w.solos i)))

-- who has slots, or runs, after a death lived and isn't the dead one
released_lives : (w v : World) (e : ℕ) → ((i : ℕ) → (i == e) ≡ false → Lives w i → Lives v i) → (old : Option Hold) → ((hold : Hold) → old ≡ Some hold → Lives w hold.owner × Lives w hold.holder)
    → (hold : Hold) → hold_without e old ≡ Some hold → Lives v hold.owner × Lives v hold.holder
released_lives w v e still None lived hold is = cc
released_lives w v e still (Some old) lived hold is = by_owner (old.owner == e) refl is
  where
    by_holder : (old.owner == e) ≡ false → (t : Bool) → (old.holder == e) ≡ t → (if t then Some (own_hold old.owner) else Some old) ≡ Some hold → Lives v hold.owner × Lives v hold.holder
    by_holder other true held is =
        let owner = still old.owner other (lived old refl).0 in
        let same : own_hold old.owner ≡ hold = cc in
        subst (λ (h : Hold). Lives v h.owner × Lives v h.holder) same (owner, owner)
    by_holder other false held is =
        let were = lived old refl in
        let same : old ≡ hold = cc in
        subst (λ (h : Hold). Lives v h.owner × Lives v h.holder) same (still old.owner other were.0, still old.holder held were.1)

    by_owner : (t : Bool) → (old.owner == e) ≡ t → (if t then None else (if old.holder == e then Some (own_hold old.owner) else Some old)) ≡ Some hold → Lives v hold.owner × Lives v hold.holder
    by_owner true own is = cc
    by_owner false other is = by_holder other (old.holder == e) refl is

-- A reply that leaves one dead, and lives, excess and slots of the others.
pub record Mourns (w : World) (e : ℕ) (r : Reply) (left : ℕ → ℕ) : Type 0 where
  pub gone : Lives (after w r) e → ⊥
  pub others : (i : ℕ) → (i == e) ≡ false → (absorb_all (w.solos i) (r.items i)).life ≡ (w.solos i).life
  pub excess : (i : ℕ) → (i == e) ≡ false → r.book.excess i ≡ left i
  pub slots : (k : ℕ) → r.book.slots k ≡ hold_without e (w.book.slots k)
  pub runner : r.book.runner ≡ None

pub mourning_is_calm : (w : World) (e : ℕ) (r : Reply) (left : ℕ → ℕ) → AreSlotsLive w w.book.slots → Mourns w e r left → Calm w r left
mourning_is_calm w e r left live mourns = record {
  living = λ i lives. by_test i lives (i == e) refl;
  slots = λ k hold is. released_lives w (after w r) e (λ i other lives. mourns.others i other ∙ lives) (w.book.slots k) (live k) hold (sym (mourns.slots k) ∙ is);
  runner = λ x is. let never : None ≡ Some x = sym mourns.runner ∙ is in cc;
}
  where
    by_test : (i : ℕ) → Lives (after w r) i → (t : Bool) → (i == e) ≡ t → Lives w i × (r.book.excess i ≡ left i)
    by_test i lives true is = absurd (mourns.gone (subst (λ (n : ℕ). Lives (after w r) n) (eqb-true i e is) lives))
    by_test i lives false is = (sym (mourns.others i is) ∙ lives, mourns.excess i is)

pub death_is_quiet : (w : World) (e : ℕ) → AreQuiet (death w e).rows
death_is_quiet w e = (search rules, quiet_releases w.book.time e w.book.slots w.book.slot_count)

-- whoever absorbs a death doesn't live
pub dies : (b : Bool) (s t : Solo) → is_dead s.life ≡ b → (t.life ≡ Live → ⊥) → (if b then s else t).life ≡ Live → ⊥
dies true s t is ends lives = let alive : is_dead s.life ≡ false = ap is_dead lives in cc
dies false s t is ends lives = ends lives

-- a step leaves a life, unless it is death
steps_on : (act : Act) (s : Solo) → ((cause : Cause) → act ≡ Dies cause → ⊥) → (acted act s).life ≡ s.life
steps_on Nothing s lives = refl
steps_on (Stores x) s lives = refl
steps_on (Calls c) s lives = refl
steps_on (Raises exc) s lives = refl
steps_on (Dies cause) s lives = absurd (lives cause refl)

pub step_leaves : (s : Solo) (act : Act) → act_of s (step_alone s) ≡ act → ((cause : Cause) → act ≡ Dies cause → ⊥) → (absorb s Step).life ≡ s.life
step_leaves s act is lives = if_living (is_dead s.life) s (stepped s (step_alone s)) (rw is (steps_on act (record s { cpu = cpu_after s.cpu (step_alone s) }) lives))

-- what the accounts say of a book: the excess, who has slots, and who runs
abbrev pub Account : Type 0
Account = (ℕ → ℕ) × (ℕ → Option Hold) × Option Runner

abbrev pub account : Book → Account
account b = (b.excess, b.slots, b.runner)

-- a reply that leaves these is mild, if its rows and items are
pub still_is_mild : (w : World) (r : Reply) → IsAccounted w → account r.book ≡ account w.book → AreQuiet r.rows → ((i : ℕ) → Keeps (r.items i)) → Mild w r
still_is_mild w r good same quiet keeps = record {
  excess = ap (λ (a : Account). a.0) same;
  quiet = quiet;
  keeps = keeps;
  slots = subst (AreSlotsLive w) (ap (λ (a : Account). a.1) (sym same)) good.slots_live;
  runner = subst (IsRunnerLive w) (ap (λ (a : Account). a.2) (sym same)) good.runner_lives;
}

pub still_accounts : (w : World) (r : Reply) → IsAccounted w → account r.book ≡ account w.book → AreQuiet r.rows → ((i : ℕ) → Keeps (r.items i)) → IsAccounted (after w r)
still_accounts w r good same quiet keeps = mild_accounts w r good (still_is_mild w r good same quiet keeps)

-- nothing happens
pub no_change_is_mild : (w : World) → IsAccounted w → Mild w (no_change w)
no_change_is_mild w good = still_is_mild w (no_change w) good refl tt (λ i. keep_none)

-- an environment is told something that leaves its life
tells_accounts : (w : World) (e : ℕ) (item : Item) → IsAccounted w → (absorb (w.solos e) item).life ≡ (w.solos e).life → IsAccounted (after w (tells e item w))
tells_accounts w e item good same =
    accounts w (tells e item w) w.book.excess good (adds_quiet w w.rows [] w.book.excess tt good.balanced)
    (calm_with w (no_change w) (only e (item ∷ [])) (no_change_is_mild w good) (λ i. by_test i (i == e) refl))
  where
    by_test : (i : ℕ) (mine : Bool) → (i == e) ≡ mine → (absorb_all (w.solos i) (if mine then item ∷ [] else [])).life ≡ (w.solos i).life
    by_test i true own = subst (λ (n : ℕ). (absorb (w.solos n) item).life ≡ (w.solos n).life) (sym (eqb-true i e own)) same
    by_test i false other = refl

-- phases in turn keep the accounts if they do so one after another
pub in_turn_accounts : (phases : List (World → Reply)) (w : World) → IsAccounted (run_phases w phases) → IsAccounted (after w (in_turn phases w))
in_turn_accounts phases w good = subst IsAccounted (sym (in_turn_is_each w phases)) good

-- an environment is told something that is its death
abbrev pub told_death : ℕ → Item → Cause → World → Reply
told_death e item cause w = in_turn (tells e item ∷ act_reply e (Dies cause) ∷ []) w

pub death_accounts : (w : World) (e : ℕ) (item : Item) (cause : Cause) → IsAccounted w → ((absorb (w.solos e) item).life ≡ Live → ⊥) → IsAccounted (after w (told_death e item cause w))
death_accounts w e item cause good ends =
    accounts w (told_death e item cause w) w.book.excess good
    (adds_quiet w w.rows ((death w e).rows ++ []) w.book.excess (quiet_both (death w e).rows [] (death_is_quiet w e) tt) good.balanced)
    (mourning_is_calm w e (told_death e item cause w) w.book.excess good.slots_live mourns)
  where
    gone : (t : Bool) → t ≡ true → (absorb_all (w.solos e) ((if t then item ∷ [] else []) ++ ((if t then [] else lost_with w.book e e w.book.page_count) ++ []))).life ≡ Live → ⊥
    gone true own lives = ends lives
    gone false own lives = cc

    stays : (i : ℕ) (t : Bool) → t ≡ false
        → (absorb_all (w.solos i) ((if t then item ∷ [] else []) ++ ((if t then [] else lost_with w.book e i w.book.page_count) ++ []))).life ≡ (w.solos i).life
    stays i true other = cc
    stays i false other = keep_both (lost_with w.book e i w.book.page_count) [] (lost_with_keeps w.book e i w.book.page_count) keep_none (w.solos i)

    mourns : Mourns w e (told_death e item cause w) w.book.excess
    mourns = record {
      gone = gone (e == e) (eq-eqb e e refl);
      others = λ i other. stays i (i == e) other;
      excess = λ i other. set_other e 0 w.book.excess i (eqb-false i e other);
      slots = λ k. refl;
      runner = refl;
    }

-- the step at which one dies
dead_lives_not : (act : Act) (s : Solo) (cause : Cause) → act ≡ Dies cause → (acted act s).life ≡ Live → ⊥
dead_lives_not act s cause is lives = let never : Dead cause ≡ Live = subst (λ (a : Act). (acted a s).life ≡ Live) is lives in cc

step_ends : (s : Solo) (cause : Cause) → act_of s (step_alone s) ≡ Dies cause → (absorb s Step).life ≡ Live → ⊥
step_ends s cause is = dies (is_dead s.life) s (stepped s (step_alone s)) refl (dead_lives_not (act_of s (step_alone s)) (record s { cpu = cpu_after s.cpu (step_alone s) }) cause is)

-- the slots once one of them has another holder
with_slot_live : (w : World) (k : ℕ) (new : Option Hold) → AreSlotsLive w w.book.slots → ((hold : Hold) → new ≡ Some hold → Lives w hold.owner × Lives w hold.holder)
    → AreSlotsLive w (set_at k new w.book.slots)
with_slot_live w k new live now j hold is = by_test (j == k) is
  where
    by_test : (t : Bool) → (if t then new else w.book.slots j) ≡ Some hold → Lives w hold.owner × Lives w hold.holder
    by_test true is = now hold is
    by_test false is = live j hold is

own_lives : (w : World) (e : ℕ) → Lives w e → (hold : Hold) → Some (own_hold e) ≡ Some hold → Lives w hold.owner × Lives w hold.holder
own_lives w e lives hold is =
    let same : own_hold e ≡ hold = cc in
    subst (λ (h : Hold). Lives w h.owner × Lives w h.holder) same (lives, lives)

dropped_lives : (w : World) (e : ℕ) (old : Option Hold) → ((hold : Hold) → old ≡ Some hold → Lives w hold.owner × Lives w hold.holder)
    → (hold : Hold) → dropped e old ≡ Some hold → Lives w hold.owner × Lives w hold.holder
dropped_lives w e None lived hold is = cc
dropped_lives w e (Some old) lived hold is = by_owner (old.owner == e) is
  where
    by_owner : (t : Bool) → (if t then None else Some (own_hold old.owner)) ≡ Some hold → Lives w hold.owner × Lives w hold.holder
    by_owner true is = cc
    by_owner false is = own_lives w old.owner (lived old refl).0 hold is

-- a target that a slice may be given to lives
is_live : (life : Life) → is_dead life ≡ false → life ≡ Live
is_live Live is = refl
is_live (Dead cause) is = cc

target_lives : (w : World) (e target : ℕ) → is_other w e target ≡ true → Lives w target
target_lives w e target is =
    let alive = not (is_dead (w.solos target).life) in
    let rest : (alive && not (target == e)) ≡ true = (and_parts (nat_lt target w.count) (alive && not (target == e)) is).1 in
    is_live (w.solos target).life (not-true (is_dead (w.solos target).life) (and_parts alive (not (target == e)) rest).0)

handed_lives : (w : World) (target : ℕ) → Lives w target → (runner : Option Runner) → IsRunnerLive w (handed target runner)
handed_lives w target lives None x is = cc
handed_lives w target lives (Some r) x is = let same : target ≡ x.env = cc in subst (λ (n : ℕ). Lives w n) same lives

-- who has the slots once one is handed on lives
handed_on_lives : (w : World) (target : ℕ) → Lives w target → (old : Option Hold) → ((hold : Hold) → old ≡ Some hold → Lives w hold.owner × Lives w hold.holder)
    → (hold : Hold) → option_map (held_by target) old ≡ Some hold → Lives w hold.owner × Lives w hold.holder
handed_on_lives w target lives None lived hold is = cc
handed_on_lives w target lives (Some old) lived hold is =
    let same : held_by target old ≡ hold = cc in
    subst (λ (h : Hold). Lives w h.owner × Lives w h.holder) same ((lived old refl).0, lives)

slots_handed_live : (w : World) (later : Bool) (target : ℕ) → Lives w target → AreSlotsLive w w.book.slots → AreSlotsLive w (slots_handed later target w.book)
slots_handed_live w true target lives live =
    with_slot_live w w.book.cursor (option_map (held_by target) (turn_slot w.book)) live (handed_on_lives w target lives (turn_slot w.book) (live w.book.cursor))
slots_handed_live w false target lives live = live

-- the rows of a transfer count for nobody
transfer_is_quiet : (w : World) (e target : ℕ) (kind : TransferKind) → AreQuiet (transfer_rows w.book e target kind)
transfer_is_quiet w e target kind.Asynchronous = (search rules, tt)
transfer_is_quiet w e target kind.Synchronous =
    (search rules, (quiet_slot w.book.time w.book.cursor (option_map (held_by target) (turn_slot w.book)), tt))

-- A revocation leaves the life of whom it asks.
ask_is_mild : (e : ℕ) (pending : Option Pending) (w : World) → IsAccounted w → Mild w (asks e pending w)
ask_is_mild e None w good = no_change_is_mild w good
ask_is_mild e (Some p) w good =
    still_is_mild w (asks e (Some p) w) good refl (search rules, tt) (keep_only e (Asked p.outstanding p.deadline ∷ []) (keep_asked p.outstanding p.deadline))

pub revocation_is_mild : (e count deadline : ℕ) (w : World) → IsAccounted w → Mild w (revokes e count deadline w)
revocation_is_mild e count deadline w good =
    let pending = asked count deadline (w.book.pending e) in
    cond_both (is_living w e) (asks e pending w) (no_change w) (Mild w) (λ lives. ask_is_mild e pending w good) (λ gone. no_change_is_mild w good)

-- The deeds of a caller that lives.
module _ (w : World) (e : ℕ) (good : IsAccounted w) (lives : Lives w e) where
  -- items alone, or with another owner of a page, of a binding, of a claim or of an interrupt line
  still : (r : Reply) → account r.book ≡ account w.book → AreQuiet r.rows → ((i : ℕ) → Keeps (r.items i)) → Mild w r
  still r = still_is_mild w r good

  -- another slot
  reslotted : (k : ℕ) (hold : Option Hold) → ((new : Hold) → hold ≡ Some new → Lives w new.owner × Lives w new.holder) → Mild w (with_slot w k hold)
  reslotted k hold now = record {
    excess = refl;
    quiet = (quiet_slot w.book.time k hold, tt);
    keeps = λ i. keep_none;
    slots = with_slot_live w k hold good.slots_live now;
    runner = good.runner_lives;
  }

  -- the rest of the slice, and with it the slot or not, to one that lives
  hands_on : (target : ℕ) (item : Item) (later : Bool) (rows : List Row) → Lives w target → Keeps (item ∷ []) → AreQuiet rows
      → Mild w (record { book = record w.book { slots = slots_handed later target w.book; runner = handed target w.book.runner }; items = only target (item ∷ []); rows = rows })
  hands_on target item later rows its keeps quiet = record {
    excess = refl;
    quiet = quiet;
    keeps = keep_only target (item ∷ []) keeps;
    slots = slots_handed_live w later target its good.slots_live;
    runner = handed_lives w target its w.book.runner;
  }

  deed_is_mild : (d : Deed) → May w e d → Mild w (done w e d)
  deed_is_mild Answers may = no_change_is_mild w good
  deed_is_mild Stops may = record { excess = refl; quiet = (search rules, tt); keeps = λ i. keep_none; slots = good.slots_live; runner = λ x is. cc }
  deed_is_mild (Gives target) may = hands_on target Start false (row.Give w.book.time w.book.cursor e target ∷ []) (target_lives w e target may.other) keep_start (search rules, tt)
  deed_is_mild (Own own) may = no_change_is_mild w good
  deed_is_mild (Allocates page words) may = still (done w e (Allocates page words)) refl tt (keep_only e (Gained page true zero_page ∷ []) (keep_gained page true zero_page))
  deed_is_mild (Frees page) may = still (done w e (Frees page)) refl tt (keep_set e (Lost page ∷ []) (lost_bindings w.book page) (keep_lost page) (breaks_keep w.book page))
  deed_is_mild (Recaps page words) may = still (done w e (Recaps page words)) refl tt (keep_set e [] (lost_bindings w.book page) keep_none (breaks_keep w.book page))
  deed_is_mild (Binds b word) may =
      let bytes = page_bytes w b.page in
      still (done w e (Binds b word)) refl tt (keep_only e (Gained b.page b.writable bytes ∷ []) (keep_gained b.page b.writable bytes))
  deed_is_mild (Unbinds vpn) may = still (done w e (Unbinds vpn)) refl tt (λ i. keep_none)
  deed_is_mild (Transfers target kind) may =
      let registers = carried (w.solos e).cpu in
      hands_on target (Transfer e kind registers) (hands_slot kind) (transfer_rows w.book e target kind) (target_lives w e target may.reach.other) (keep_transfer e kind registers) (transfer_is_quiet w e target kind)
  deed_is_mild (TakesSlot k) may = reslotted k (Some (own_hold e)) (own_lives w e lives)
  deed_is_mild (DropsSlot k) may = reslotted k (dropped e (w.book.slots k)) (dropped_lives w e (w.book.slots k) (good.slots_live k))
  deed_is_mild (TakesLine line) may = still (done w e (TakesLine line)) refl tt (λ i. keep_none)
  deed_is_mild (DropsLine line) may = still (done w e (DropsLine line)) refl tt (λ i. keep_none)
  deed_is_mild (Claims claim address atoms page) may = still (done w e (Claims claim address atoms page)) refl tt (λ i. keep_none)
  deed_is_mild (Unclaims claim) may = still (done w e (Unclaims claim)) refl tt (λ i. keep_none)
  deed_is_mild (Downloads claim address words) may = no_change_is_mild w good
  deed_is_mild (Loads page) may = still (done w e (Loads page)) refl tt (λ i. keep_none)

  -- behind an answer
  answer_is_mild : (verdict : Verdict) (r : Reply) → Mild w r → Mild w (followed (tells e (Answer verdict) w) r)
  answer_is_mild verdict r mild = record {
    excess = mild.excess;
    quiet = mild.quiet;
    keeps = λ i. keep_both (only e (Answer verdict ∷ []) i) (r.items i) (keep_only e (Answer verdict ∷ []) (keep_answer verdict) i) (mild.keeps i);
    slots = mild.slots;
    runner = mild.runner;
  }

  reply_is_mild : (v : Verdict) → ((value : ℕ) → v ≡ Grant value → May w e (deed_at (w.solos e) value)) → Mild w (reply_by_verdict w e v)
  reply_is_mild (Refuse code value) may = still (reply_by_verdict w e (Refuse code value)) refl tt (keep_only e (Answer (Refuse code value) ∷ []) (keep_answer (Refuse code value)))
  reply_is_mild (Again who) may =
      let until = w.book.time + 2 * w.book.quantum in
      answer_is_mild (Again who) (asks_one who w)
      (cond_both (is_none (w.book.pending who)) (revokes who 1 until w) (no_change w) (Mild w) (λ nothing. revocation_is_mild who 1 until w good) (λ pending. no_change_is_mild w good))
  reply_is_mild (Grant value) may = let d = deed_at (w.solos e) value in answer_is_mild (Grant value) (done w e d) (deed_is_mild d (may value refl))

  pub call_is_mild : GrantedMay → (c : Option Call) → called (w.solos e).cpu ≡ c → Mild w (reply_to w e c)
  call_is_mild granted c named = reply_is_mild (verdict w e c) (deed_may granted w e c named)

-- The runner's step, and then what its act brings.
abbrev stepping : ℕ → Act → List (World → Reply)
stepping e act = tells e Step ∷ act_reply e act ∷ []

-- where it isn't its death, and the act brings what is mild
goes_on : (w : World) (e : ℕ) (act : Act) → IsAccounted w → Lives w e → act_now w e ≡ act → ((cause : Cause) → act ≡ Dies cause → ⊥)
    → (let v = after w (tells e Step w) in IsAccounted v → Lives v e → Mild v (act_reply e act v)) → IsAccounted (after w (in_turn (stepping e act) w))
goes_on w e act good lives is stays mild =
    let v = after w (tells e Step w) in
    let same = step_leaves (w.solos e) act is stays in
    let still = tells_accounts w e Step good same in
    in_turn_accounts (stepping e act) w (mild_accounts v (act_reply e act v) still (mild still (ap (λ (s : Solo). s.life) (told_own w e Step) ∙ same ∙ lives)))

pub act_accounts : GrantedMay → (w : World) (e : ℕ) → IsAccounted w → Lives w e → (act : Act) → act_now w e ≡ act → IsAccounted (after w (in_turn (stepping e act) w))
act_accounts granted w e good lives Nothing is = goes_on w e Nothing good lives is (λ cause dies. cc) (λ good lives. no_change_is_mild (after w (tells e Step w)) good)
act_accounts granted w e good lives (Stores x) is =
    let v = after w (tells e Step w) in
    goes_on w e (Stores x) good lives is (λ cause dies. cc) (λ good lives. still_is_mild v (act_reply e (Stores x) v) good refl tt (left_by_keeps v.book e x))
act_accounts granted w e good lives (Calls c) is =
    let v = after w (tells e Step w) in
    goes_on w e (Calls c) good lives is (λ cause dies. cc) (λ good lives. call_is_mild v e good lives granted c (told_named w e c is))
act_accounts granted w e good lives (Raises exc) is = goes_on w e (Raises exc) good lives is (λ cause dies. cc) (λ good lives. no_change_is_mild (after w (tells e Step w)) good)
act_accounts granted w e good lives (Dies cause) is = death_accounts w e Step cause good (step_ends (w.solos e) cause is)
