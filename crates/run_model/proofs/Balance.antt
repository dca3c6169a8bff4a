-- The balance of excess, and lawful ledgers.
use Rattle.std.proofs.Common.{arith, rules, refl, sym, ◌∙◌, ap, subst, ◌≡◌, ◌<◌, ◌+◌, ◌-◌, ℕ, zero, suc, List, [], ◌∷◌, ◌++◌, map, length, Bool, true, false, Option, None, Some}
use Rattle.std.specs.Prelude.{◌==◌, if◌then◌else◌, slice_get}
use Rattle.std.proofs.lemmas.Bool.{cond_both, eqb-true, eqb-false}
use Rattle.aegis_limits.specs.declared.version.Version.{Version}
use Rattle.boot_image.specs.ImageValue.{ProgramValue}
use Rattle.kernel_journal.specs.declared.row.Row.{Row}
use Rattle.kernel_journal.specs.declared.row.Row.TheVariants as row
use Rattle.world_model.specs.declared.life.Life.TheVariants.{Live}
use Rattle.world_model.specs.declared.life.Cause.TheVariants as cause
use Rattle.world_model.specs.declared.hold.Hold.{Hold}
use Rattle.world_model.specs.declared.slot.Runner.{Runner}
use Rattle.world_model.specs.declared.slot.Turn.{Turn}
use Rattle.world_model.specs.Book.{Book, WholeTurn, first_turn, is_idle_book, excess_after_forfeit, owed, pays_first, turn_within, turn_from, whole_turn}
use Rattle.run_model.specs.Boot.{book_of_image, boot_slot, boot_world, own_row, own_rows, record_items, with_all_kept, with_kept}
use Rattle.run_model.specs.Excess.{pays, AreSlotsLive, BalanceHolds, BootsAccounted, IsAccounted, LedgersAreLawful, Lives, TicksKeepAccounts}
use Rattle.world_model.specs.Item.{End, Killed, Line, Packet, Start, Taken, absorb_all}
use Rattle.run_model.specs.Run.{happens_in, next_phases, next_world, world_after_ticks, takings_next}
use Rattle.world_model.specs.Solo.{absent, dead, is_dead}
use Rattle.world_model.specs.Table.{set_at}
use Rattle.external_event.specs.declared.event.Occurrence.{Occurrence}
use Rattle.external_event.specs.declared.event.Occurrence.TheVariants as outside
use Rattle.filter_tree.specs.ClaimBook.{ClaimValue}
use Rattle.world_model.specs.ClaimCalls.{claim_of}
use Rattle.revocation_book.specs.declared.revocation.Taking.{Taking}
use Rattle.world_model.specs.Deadlines.{copy_left, settles, takes}
use Rattle.world_model.specs.PageCalls.{lost_bindings}
use Rattle.world_model.specs.Event.{Schedule, arrives, delivers, drops_packet, happen, revokes, ring_bytes, ring_left, signals}
use Rattle.world_model.specs.Rings.{ring_of}
use Rattle.world_model.specs.Tick.{act_now, clock, count_when, with_runner, grace_of, kill, owes_more, pay_row, phases_after, slice_end, step, step_when, take_turn, tick_phases, timer, turn, turn_when, timer_reply, timer_now, grace_again, stop_at_end}
use Rattle.world_model.specs.declared.timer.Timer.{Timer}
use Rattle.world_model.specs.declared.timer.Timer.TheVariants as answer
use Rattle.call_verdicts.specs.Granted.{GrantedMay}
use Rattle.world_model.specs.World.{World, Reply, after, no_change, only, run_phases, tells}
use Rattle.world_model.proofs.Slots.{holder_in}
use Rattle.run_model.proofs.Lives.{breaks_keep, copy_left_keeps, keep_both, keep_end, keep_line, keep_none, keep_only, keep_packet, keep_set, keep_start, keep_taken, ring_left_keeps}
use Rattle.run_model.proofs.NextTurn.{Found, search_finds}
use Rattle.run_model.proofs.Replies.{accounts, act_accounts, death_accounts, dies, in_turn_accounts, mild_accounts, no_change_is_mild, revocation_is_mild, still_accounts}
use Rattle.run_model.proofs.Rows.{Adds, AreQuiet, Balances, adds_over, adds_pay, adds_quiet, adds_run, quiet_both, quiet_slot}

-- A phase that keeps the accounts, and phases that do.
abbrev pub KeepsAccounts : (World → Reply) → Type 0
KeepsAccounts phase = (w : World) → IsAccounted w → IsAccounted (after w (phase w))

abbrev KeepAccounts : List (World → Reply) → Type 0
KeepAccounts [] = Unit {0}
KeepAccounts (phase ∷ phases) = KeepsAccounts phase × KeepAccounts phases

run_accounts : (phases : List (World → Reply)) → KeepAccounts phases → (w : World) → IsAccounted w → IsAccounted (run_phases w phases)
run_accounts [] keep w good = good
run_accounts (phase ∷ phases) (keeps, rest) w good = run_accounts phases rest (after w (phase w)) (keeps w good)

-- nothing happens
no_change_accounts : KeepsAccounts no_change
no_change_accounts w good = mild_accounts w (no_change w) good (no_change_is_mild w good)

-- A packet that is dropped has a row that counts for nobody.
dropped_accounts : (packet : List ℕ) → KeepsAccounts (drops_packet packet)
dropped_accounts packet w good = still_accounts w (drops_packet packet w) good refl (search rules, tt) (λ i. keep_none)

-- One that is claimed leaves the life of whose claim it is, and of those who see the ring page.
delivered_accounts : (c : ClaimValue) (packet : List ℕ) → KeepsAccounts (delivers c packet)
delivered_accounts c packet w good =
    let s = w.solos c.env in
    let bytes = ring_bytes s (ring_of s.rings c.id) packet in
    still_accounts w (delivers c packet w) good refl tt (keep_set c.env (Packet c.id packet ∷ []) (ring_left w.book c.env c.page bytes) (keep_packet c.id packet) (ring_left_keeps w.book c.env c.page bytes))

arrival_accounts : (packet : List ℕ) (claim : Option ClaimValue) → KeepsAccounts (arrives packet claim)
arrival_accounts packet None w good = dropped_accounts packet w good
arrival_accounts packet (Some c) w good = delivered_accounts c packet w good

-- A signal leaves the life of whose line it is.
signal_accounts : (line : ℕ) (owner : Option ℕ) → KeepsAccounts (signals line owner)
signal_accounts line None w good = no_change_accounts w good
signal_accounts line (Some owner) w good = still_accounts w (tells owner (Line line) w) good refl tt (keep_only owner (Line line ∷ []) (keep_line line))

-- What happens from outside, kind by kind.
pub happen_accounts : (what : Occurrence) → KeepsAccounts (happen what)
happen_accounts (outside.Packet packet) w good = arrival_accounts packet (claim_of w.book packet) w good
happen_accounts (outside.Line line) w good = signal_accounts line (w.book.lines line) w good
happen_accounts (outside.Revoke env count grace) w good =
    let until = w.book.time + grace in mild_accounts w (revokes env count until w) good (revocation_is_mild env count until w good)

-- A page that is taken leaves the life of its owner, and of those who have bound it or the backup.
pub taking_accounts : (x : Taking) → KeepsAccounts (takes x)
taking_accounts x w good =
    still_accounts w (takes x w) good refl (search rules, tt)
    (keep_set x.env (Taken x.page x.backup ∷ []) (λ e. copy_left w x x.backup e ++ lost_bindings w.book x.page e) (keep_taken x.page x.backup)
    (λ e. keep_both (copy_left w x x.backup e) (lost_bindings w.book x.page e) (copy_left_keeps w x x.backup e) (breaks_keep w.book x.page e)))

-- The end of deadlines changes nothing of lives and slots.
pub settling_accounts : KeepsAccounts settles
settling_accounts w good = still_accounts w (settles w) good refl tt (λ i. keep_none)

-- The turn. Each forfeit is of one that lives and owes, and who runs lives and owes nothing.
abbrev Forfeits : World → (ℕ → ℕ) → List Turn → Option Turn → (ℕ → ℕ) → Type 0
Forfeits w excess [] None left = Unit {0}
Forfeits w excess [] (Some t) left = Lives w t.env × (excess t.env ≡ 0) × (left ≡ excess)
Forfeits w excess (t ∷ pays) runs left = Lives w t.env × (0 < excess t.env) × Forfeits w (excess_after_forfeit t.env excess) pays runs left

abbrev TellsForfeits : World → (ℕ → ℕ) → WholeTurn → Type 0
TellsForfeits w excess told = Forfeits w excess told.pays told.runs told.excess

holder_lives : (w : World) (e : ℕ) (hold : Option Hold) → ((h : Hold) → hold ≡ Some h → Lives w h.owner × Lives w h.holder) → holder_in hold ≡ Some e → Lives w e
holder_lives w e None live is = cc
holder_lives w e (Some hold) live is = let same : hold.holder ≡ e = cc in subst (λ (n : ℕ). Lives w n) same (live hold refl).1

told_on : (w : World) (rest : ℕ → (ℕ → ℕ) → WholeTurn) → ((cursor : ℕ) (excess : ℕ → ℕ) → TellsForfeits w excess (rest cursor excess))
    → (cursor : ℕ) (excess : ℕ → ℕ) (next : Option Turn) → ((t : Turn) → next ≡ Some t → Lives w t.env) → TellsForfeits w excess (turn_within rest cursor excess next)
told_on w rest tells cursor excess None lives = tt
told_on w rest tells cursor excess (Some t) lives = by_test (excess t.env == 0) refl
  where
    by_test : (free : Bool) → (excess t.env == 0) ≡ free
        → TellsForfeits w excess (if free then record { pays = []; runs = Some t; excess = excess; cursor = t.slot } else pays_first t (rest t.slot (excess_after_forfeit t.env excess)))
    by_test true free = (lives t refl, eqb-true (excess t.env) 0 free, refl)
    by_test false owes = (lives t refl, omega (arith, eqb-false (excess t.env) 0 owes), tells t.slot (excess_after_forfeit t.env excess))

next_lives : (w : World) (count cursor : ℕ) → AreSlotsLive w w.book.slots → (next : Option Turn) → Found w.book.slots count cursor count next → (t : Turn) → next ≡ Some t → Lives w t.env
next_lives w count cursor live None found t is = cc
next_lives w count cursor live (Some next) found t is =
    let same : next ≡ t = cc in
    subst (λ (u : Turn). Lives w u.env) same (holder_lives w next.env (w.book.slots next.slot) (live next.slot) found.held)

tells_forfeits : (w : World) → AreSlotsLive w w.book.slots → (count n cursor : ℕ) (excess : ℕ → ℕ) → TellsForfeits w excess (turn_from w.book.slots count n cursor excess)
tells_forfeits w live count zero cursor excess = tt
tells_forfeits w live count (suc n) cursor excess =
    let next = first_turn w.book.slots count cursor count in
    told_on w (turn_from w.book.slots count n) (tells_forfeits w live count n) cursor excess next (next_lives w count cursor live next (search_finds w.book.slots count cursor count))

-- the rows of a turn
turn_adds : (w : World) (before : List Row) (pays : List Turn) (t : Turn) (excess left : ℕ → ℕ) → Balances w before excess → Forfeits w excess pays (Some t) left
    → Adds w before (map (pay_row w.book.time) pays ++ row.Run w.book.time t.slot t.env ∷ []) left
turn_adds w before [] t excess left balanced (lives, free, same) =
    subst (λ (f : ℕ → ℕ). Adds w before (row.Run w.book.time t.slot t.env ∷ []) f) (sym same) (adds_run w before w.book.time t.slot t.env excess lives free balanced)
turn_adds w before (p ∷ pays) t excess left balanced (lives, owes, rest) =
    adds_pay w before (map (pay_row w.book.time) pays ++ row.Run w.book.time t.slot t.env ∷ []) w.book.time p.slot p.env excess left lives owes balanced
    (λ paid. turn_adds w (before ++ row.Pay w.book.time p.slot p.env ∷ []) pays t (excess_after_forfeit p.env excess) left paid rest)

runs_live : (w : World) (excess : ℕ → ℕ) (pays : List Turn) (t : Turn) (left : ℕ → ℕ) → Forfeits w excess pays (Some t) left → Lives w t.env
runs_live w excess [] t left (lives, free, same) = lives
runs_live w excess (p ∷ pays) t left (lives, owes, rest) = runs_live w (excess_after_forfeit p.env excess) pays t left rest

take_turn_accounts : (w : World) (told : WholeTurn) (runs : Option Turn) → IsAccounted w → Forfeits w w.book.excess told.pays runs told.excess → IsAccounted (after w (take_turn w told runs))
take_turn_accounts w told None good forfeits = no_change_accounts w good
take_turn_accounts w told (Some t) good forfeits =
    accounts w (take_turn w told (Some t)) told.excess good (turn_adds w w.rows told.pays t w.book.excess told.excess good.balanced forfeits) (record {
      living = λ i lives. (sym (kept i) ∙ lives, refl);
      slots = λ k hold is. let were = good.slots_live k hold is in (kept hold.owner ∙ were.0, kept hold.holder ∙ were.1);
      runner = λ x is. let same : t.env ≡ x.env = cc in kept x.env ∙ subst (λ (n : ℕ). Lives w n) same (runs_live w w.book.excess told.pays t told.excess forfeits);
    })
  where
    kept : (i : ℕ) → (absorb_all (w.solos i) (only t.env (Start ∷ []) i)).life ≡ (w.solos i).life
    kept i = keep_only t.env (Start ∷ []) keep_start i (w.solos i)

turn_accounts : (w : World) (runner : Option Runner) → IsAccounted w → IsAccounted (after w (turn_when w runner))
turn_accounts w None good =
    let b = w.book in
    let told = whole_turn b in
    take_turn_accounts w told told.runs good (tells_forfeits w good.slots_live b.slot_count (suc (owed b.excess b.slots b.slot_count)) b.cursor b.excess)
turn_accounts w (Some r) good = no_change_accounts w good

-- The step.
step_accounts : GrantedMay → (w : World) (runner : Option Runner) → w.book.runner ≡ runner → IsAccounted w → IsAccounted (after w (step_when w runner))
step_accounts granted w None is good = no_change_accounts w good
step_accounts granted w (Some r) is good = act_accounts granted w r.env good (good.runner_lives r is) (act_now w r.env) refl

-- The timer. Time rises by one.
clock_accounts : KeepsAccounts clock
clock_accounts w good = still_accounts w (clock w) good refl tt (λ i. keep_none)

-- who lives runs on
goes_on_accounts : (w : World) (r : Runner) → IsAccounted w → Lives w r.env → IsAccounted (after w (with_runner r w))
goes_on_accounts w r good lives = mild_accounts w (with_runner r w) good (record {
  excess = refl;
  quiet = tt;
  keeps = λ i. keep_none;
  slots = good.slots_live;
  runner = λ x is. let same : r.env ≡ x.env = cc in subst (λ (n : ℕ). Lives w n) same lives;
})

-- at the end of its slice a runner is stopped or told
stop_accounts : (w : World) (e : ℕ) → IsAccounted w → IsAccounted (after w (stop_at_end e w))
stop_accounts w e good = mild_accounts w (stop_at_end e w) good (record {
  excess = refl;
  quiet = (search rules, tt);
  keeps = λ i. keep_none;
  slots = good.slots_live;
  runner = λ x is. cc;
})

slice_end_accounts : (w : World) (e : ℕ) → IsAccounted w → Lives w e → IsAccounted (after w (slice_end e w))
slice_end_accounts w e good lives = mild_accounts w (slice_end e w) good (record {
  excess = refl;
  quiet = (search rules, tt);
  keeps = keep_only e (End ∷ []) keep_end;
  slots = good.slots_live;
  runner = λ x is. let same : e ≡ x.env = cc in subst (λ (n : ℕ). Lives w n) same lives;
})

-- a quantum that it ran past its slice is its excess
owes_accounts : (w : World) (e : ℕ) → IsAccounted w → Lives w e → IsAccounted (after w (owes_more e w))
owes_accounts w e good lives =
    accounts w (owes_more e w) (set_at e (w.book.excess e + 1) w.book.excess) good (adds_over w w.rows [] w.book.time w.book.cursor e w.book.excess lives tt good.balanced)
    (record { living = λ i alive. (alive, refl); slots = good.slots_live; runner = good.runner_lives })

-- above the limit it dies of it
kill_accounts : (w : World) (e : ℕ) → IsAccounted w → IsAccounted (after w (kill e w))
kill_accounts w e good =
    let s = w.solos e in
    death_accounts w e Killed cause.Excess good (dies (is_dead s.life) s (dead cause.Excess s) refl (λ never. cc))

answer_accounts : (w : World) (r : Runner) (what : Timer) → IsAccounted w → Lives w r.env → IsAccounted (after w (timer_reply r what w))
answer_accounts w r answer.Nothing good lives = goes_on_accounts w (record r { left = r.left - 1 }) good lives
answer_accounts w r answer.End good lives = slice_end_accounts w r.env good lives
answer_accounts w r answer.Stop good lives = stop_accounts w r.env good
answer_accounts w r (answer.Over excess) good lives =
    in_turn_accounts (owes_more r.env ∷ grace_again r.env ∷ []) w
    (goes_on_accounts (after w (owes_more r.env w)) (grace_of w r.env) (owes_accounts w r.env good lives) lives)
answer_accounts w r answer.Kill good lives =
    in_turn_accounts (owes_more r.env ∷ kill r.env ∷ []) w
    (kill_accounts (after w (owes_more r.env w)) r.env (owes_accounts w r.env good lives))

count_accounts : (w : World) (runner : Option Runner) → w.book.runner ≡ runner → IsAccounted w → IsAccounted (after w (count_when runner w))
count_accounts w None is good = no_change_accounts w good
count_accounts w (Some r) is good = answer_accounts w r (timer_now w r) good (good.runner_lives r is)

pub timer_accounts : KeepsAccounts timer
timer_accounts w good =
    let count = count_when w.book.runner in
    in_turn_accounts (count ∷ clock ∷ []) w (clock_accounts (after w (count w)) (count_accounts w w.book.runner refl good))

-- a tick is what happens in it, and then its phases
pub turn_keeps : KeepsAccounts turn
turn_keeps w good = turn_accounts w w.book.runner good

pub step_keeps : GrantedMay → KeepsAccounts step
step_keeps granted w good = step_accounts granted w w.book.runner refl good

tick_accounts : GrantedMay → (xs : List Taking) → KeepAccounts (tick_phases xs)
tick_accounts granted [] = (settling_accounts, (turn_keeps, (step_keeps granted, (timer_accounts, tt))))
tick_accounts granted (x ∷ xs) = (taking_accounts x, tick_accounts granted xs)

all_account : GrantedMay → (happens : List Occurrence) (xs : List Taking) → KeepAccounts (phases_after happens xs)
all_account granted [] xs = tick_accounts granted xs
all_account granted (what ∷ happens) xs = (happen_accounts what, all_account granted happens xs)

next_accounts : GrantedMay → (schedule : Schedule) (w : World) → IsAccounted w → IsAccounted (next_world schedule w)
next_accounts granted schedule w good =
    let phases = next_phases schedule w in
    cond_both (is_idle_book w.book) w (run_phases w phases) IsAccounted (λ idle. good) (λ busy. run_accounts phases (all_account granted (happens_in schedule w) (takings_next schedule w)) w good)

-- more ticks keep the accounts, and so the balance
pub ticks_keep_accounts : GrantedMay → TicksKeepAccounts
ticks_keep_accounts granted schedule w good zero = good
ticks_keep_accounts granted schedule w good (suc t) = next_accounts granted schedule (world_after_ticks schedule w t) (ticks_keep_accounts granted schedule w good t)

-- At boot all live, nobody owes, and only slots have rows.
none_owes : (e : ℕ) (programs : List ProgramValue) (b : Book) → (with_all_kept e programs b).excess ≡ b.excess
none_owes e [] b = refl
none_owes e (p ∷ programs) b = none_owes (e + 1) programs (with_kept e p b)

recorded_lives : (v : Version) (e : ℕ) (program : Option ProgramValue) → (absorb_all (absent e) (record_items v e program)).life ≡ Live
recorded_lives v e None = refl
recorded_lives v e (Some p) = refl

quiet_own_row : (k : ℕ) (hold : Option Hold) → AreQuiet (own_row k hold)
quiet_own_row k None = tt
quiet_own_row k (Some hold) = (quiet_slot 0 k (Some hold), tt)

quiet_own_rows : (owners : List (Option ℕ)) (count : ℕ) → AreQuiet (own_rows owners count)
quiet_own_rows owners zero = tt
quiet_own_rows owners (suc k) = quiet_both (own_rows owners k) (own_row k (boot_slot owners k)) (quiet_own_rows owners k) (quiet_own_row k (boot_slot owners k))

pub boots_accounted : BootsAccounted
boots_accounted image = record {
  balanced = λ e lives. adds.balanced e lives ∙ ap (λ (f : ℕ → ℕ). pays e (boot_world image).rows + f e) (sym free);
  lawful = adds.lawful;
  slots_live = λ k hold is. (all_live hold.owner, all_live hold.holder);
  runner_lives = λ x is. all_live x.env;
}
  where
    free : (boot_world image).book.excess ≡ (λ e. 0)
    free = none_owes 0 image.programs (book_of_image image)

    all_live : (e : ℕ) → Lives (boot_world image) e
    all_live e = recorded_lives image.version e (slice_get image.programs e)

    adds : Adds (boot_world image) [] (boot_world image).rows (λ e. 0)
    adds = adds_quiet (boot_world image) [] (boot_world image).rows (λ e. 0) (quiet_own_rows image.slots (length image.slots)) (λ e lives. refl)

pub balance_holds : GrantedMay → BalanceHolds
balance_holds granted system t = (ticks_keep_accounts granted system.schedule (boot_world system.image) (boots_accounted system.image) t).balanced

pub ledgers_are_lawful : GrantedMay → LedgersAreLawful
ledgers_are_lawful granted system t = (ticks_keep_accounts granted system.schedule (boot_world system.image) (boots_accounted system.image) t).lawful
