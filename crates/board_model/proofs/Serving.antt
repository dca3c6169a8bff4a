-- The runner's calls and its death, on the world that is shown.
use Rattle.std.proofs.Common.{◌≡◌, ◌≢◌, ◌≤◌, ◌+◌, ℕ, List, [], ◌∷◌, ◌++◌, arith, Bool, true, false, Option, Some, refl, sym, ◌∙◌, ap, subst, rules}
use Rattle.std.specs.Prelude.{◌==◌}
use Rattle.std.proofs.lemmas.List.Sums.{fold-append}
use Rattle.std.proofs.lemmas.List.{append-nil}
use Rattle.mips_exec.specs.Cpu.{reg}
use Rattle.world_model.specs.declared.call.Call.{Call}
use Rattle.world_model.specs.declared.code.Code.{Code}
use Rattle.world_model.specs.declared.call.Deed.{Deed}
use Rattle.world_model.specs.declared.call.Deed.TheVariants.{Answers, Own, Stops, Gives, Allocates, Frees, Recaps, Binds, Unbinds, Transfers, TakesSlot, DropsSlot, TakesLine, DropsLine, Claims, Unclaims, Downloads, Loads}
use Rattle.world_model.specs.declared.life.Life.TheVariants.{Live}
use Rattle.world_model.specs.declared.life.Cause.{Cause}
use Rattle.world_model.specs.declared.life.Cause.TheVariants as cause
use Rattle.world_model.specs.declared.verdict.Verdict.{Verdict}
use Rattle.world_model.specs.declared.verdict.Verdict.TheVariants.{Refuse, Again, Grant}
use Rattle.world_model.specs.Call.{called, exit_number}
use Rattle.world_model.specs.Death.{death}
use Rattle.world_model.specs.Call.{deed_of}
use Rattle.world_model.specs.Item.{Answer, Item, absorb, absorb_all, with_answer}
use Rattle.world_model.specs.May.{May}
use Rattle.world_model.specs.Solo.{Solo, dead}
use Rattle.world_model.specs.Step.{Calls, Dies, act_at_call, acted, call_act}
use Rattle.world_model.specs.Table.{set_at}
use Rattle.world_model.specs.Tick as tick
use Rattle.world_model.specs.Verdict.{asks_one, done, reply_by_verdict, verdict, verdict_now}
use Rattle.world_model.specs.World.{World, after, only, tells}
use Rattle.call_verdicts.specs.Granted.{AgainAsks, GrantedMay}
use Rattle.filter_tree.specs.ClaimBook.{ClaimBook}
use Rattle.filter_tree.specs.Laws.{FirstIsNumbered}
use Rattle.board_model.specs.declared.roster.Environment.{Environment}
use Rattle.board_model.specs.Shown.{Environments, Shown}
use Rattle.board_model.specs.Showing.{world_of, solo_of}
use Rattle.board_model.specs.Laws.{AgainShowsModel, CallShowsModel, DeathShowsModel, RefusalShowsModel}
use Rattle.board_model.specs.Sound.{HasClaimNumbers, HasRunner, IsSoundBoard}
use Rattle.board_model.specs.Doing as doing
use Rattle.board_model.proofs.Parts.{worlds, by_env, set_here, set_else, only_here, only_else}
use Rattle.board_model.proofs.Seen.{Runs, runner_seen, runner_runs}
use Rattle.board_model.proofs.BindServing.{binds, unbinds}
use Rattle.board_model.proofs.OwnServing.{own_serves}
use Rattle.board_model.proofs.PageServing.{allocates, frees, recaps}
use Rattle.board_model.proofs.Phases.{called_still}
use Rattle.board_model.proofs.Pressing.{asked_left, presses}
use Rattle.board_model.proofs.Replying.{alone, answers, deeded, granted_serves, refuses}
pub use Rattle.board_model.proofs.Replying.{Serves, told}
pub use Rattle.board_model.proofs.Dying.{died_serves}
use Rattle.board_model.proofs.ClaimServing.{claims, downloads, unclaims}
use Rattle.board_model.proofs.GiftServing.{gives, stops_itself}
use Rattle.board_model.proofs.LineServing.{drops_line, loads_page, takes_line}
use Rattle.board_model.proofs.SlotServing.{drops, takes}
use Rattle.board_model.proofs.TransferServing.{entered_room, transfers}

module _ (b : Shown) (e : ℕ) (x : Environment) (r : Runs b e x) (sound : IsSoundBoard b) (unique : FirstIsNumbered) (numbered : HasClaimNumbers b) where
  -- each deed
  does : (d : Deed) (v : ℕ) → May (world_of b) e d → Serves b e (deeded d v (solo_of b e)) (done (world_of b) e d) (doing.after_grant b e v d)
  does Answers v may = answers b e x r v
  does (Own own) v may = own_serves b e x r sound own v
  does Stops v may = stops_itself b e x r sound v
  does (Gives target) v may = gives b e x r sound target v may
  does (Allocates page words) v may = allocates b e x r sound page words v may
  does (Frees page) v may = frees b e x r sound page v may
  does (Recaps page words) v may = recaps b e x r sound page words v may
  does (Binds binding word) v may = binds b e x r sound binding word v may
  does (Unbinds vpn) v may = unbinds b e x r sound vpn v
  does (Transfers target kind) v may = transfers b e x r sound target kind v may
  does (TakesSlot slot) v may = takes b e x r slot v may
  does (DropsSlot slot) v may = drops b e x r slot v may
  does (TakesLine line) v may = takes_line b e x r sound line v may
  does (DropsLine line) v may = drops_line b e x r sound line v may
  does (Claims claim address atoms page) v may = claims b e x r sound claim address atoms page v may
  does (Unclaims claim) v may = unclaims b e x r sound claim v
  does (Downloads claim address words) v may = downloads b e x r sound unique numbered claim address words v may
  does (Loads page) v may = loads_page b e x r sound page v

  -- each verdict on a call
  judged : GrantedMay → AgainAsks → (which : Verdict) → verdict (world_of b) e (called b.cpu) ≡ which → Serves b e (solo_of b e) (reply_by_verdict (world_of b) e which) (doing.after_verdict b e (called b.cpu) which)
  judged law again (Refuse why v) is = refuses b e x r why v
  judged law again (Again who) is = presses b e x r sound who (again (world_of b) e (called b.cpu) who is).another
  judged law again (Grant v) is =
      let same = ap (λ (s : Solo). s.cpu) (runner_seen b e x r) in
      granted_serves b e x r v (doing.after_grant b e v (deed_of (called b.cpu) v b.cpu))
      (subst (λ cpu. Serves b e (deeded (deed_of (called cpu) v cpu) v (solo_of b e)) (done (world_of b) e (deed_of (called cpu) v cpu)) (doing.after_grant b e v (deed_of (called b.cpu) v b.cpu))) (sym same)
      (does (deed_of (called b.cpu) v b.cpu) v (subst (λ cpu. May (world_of b) e (deed_of (called b.cpu) v cpu)) same (law (world_of b) e (called b.cpu) v is))))

  pub call_serves : GrantedMay → AgainAsks → (exits : Bool) → Serves b e (acted (act_at_call b.cpu exits) (solo_of b e)) (tick.act_reply e (act_at_call b.cpu exits) (world_of b)) (doing.after_exit_or_call b e exits)
  call_serves law again true = died_serves b e x r sound (cause.Exit (reg b.cpu 4))
  call_serves law again false = judged law again (verdict (world_of b) e (called b.cpu)) refl

-- What is shown after a call, apart from a tick.
pub called_world : GrantedMay → AgainAsks → FirstIsNumbered → CallShowsModel
called_world law again unique b e has numbers =
    let x = runner_runs b e has.sound has.runs in
    alone b e (call_act b.cpu) (doing.after_runner_call b e) (call_serves b e x.0 x.1 has.sound unique numbers law again (reg b.cpu 2 == exit_number))
    ∙ ap (λ (s : Solo). tick.act_world (world_of b) e (call_act s.cpu)) (sym (runner_seen b e x.0 x.1))

-- and after a death
pub death_serves : (b : Shown) (e : ℕ) (cause : Cause) → HasRunner b e → Serves b e (dead cause (solo_of b e)) (death (world_of b) e) (doing.after_death b e cause)
death_serves b e cause has = let x = runner_runs b e has.sound has.runs in died_serves b e x.0 x.1 has.sound cause

pub died_world : DeathShowsModel
died_world b e cause has = alone b e (Dies cause) (doing.after_death b e cause) (death_serves b e cause has)

-- Of a world whose verdict is a refusal: an exit has none, and the reply is the answer alone.
module _ (w : World) (e : ℕ) (lives : (w.solos e).life ≡ Live) (why : Code) (v : ℕ) where
  answer_world : after w (tells e (Answer (Refuse why v)) w) ≡ tick.refused_world w e why v
  answer_world = search (rules, by_env, only_here, set_here, only_else, set_else, append-nil)

  refusal_world : (c : Option Call) → verdict w e c ≡ Refuse why v → tick.act_world w e (Calls c) ≡ tick.refused_world w e why v
  refusal_world c is =
      ap (λ u. after u (reply_by_verdict u e (verdict u e c))) (called_still w e c)
      ∙ ap (λ d. after w (reply_by_verdict w e d)) is
      ∙ answer_world

  pub refused_is : verdict_now w e ≡ Some (Refuse why v) → tick.called_world w e ≡ tick.refused_world w e why v
  refused_is is = search (rules, refusal_world)

pub refused_world : GrantedMay → AgainAsks → FirstIsNumbered → RefusalShowsModel
refused_world law again unique b e why v has numbers is =
    let x = runner_runs b e has.sound has.runs in
    called_world law again unique b e has numbers
    ∙ refused_is (world_of b) e (ap (λ (s : Solo). s.life) (runner_seen b e x.0 x.1)) why v is

-- Of a world whose verdict is that the call is to be made again: the answer, and then what asking another changes.
module _ (w : World) (e : ℕ) (lives : (w.solos e).life ≡ Live) (who : ℕ) where
  abbrev items : ℕ → List Item
  items = (asks_one who w).items

  abbrev answer : List Item
  answer = Answer (Again who) ∷ []

  abbrev before : ℕ → Solo
  before = set_at e (with_answer (Again who) (w.solos e)) w.solos

  its_answer : absorb (w.solos e) (Answer (Again who)) ≡ with_answer (Again who) (w.solos e)
  its_answer = rw lives refl

  asked_here : absorb_all (w.solos e) (only e answer e ++ items e) ≡ absorb_all (before e) (items e)
  asked_here =
      fold-append absorb (w.solos e) (only e answer e) (items e)
      ∙ ap (λ s. absorb_all s (items e)) (ap (absorb_all (w.solos e)) (only_here e answer) ∙ its_answer ∙ sym (set_here e (with_answer (Again who) (w.solos e)) w.solos))

  asked_else : (i : ℕ) → i ≢ e → absorb_all (w.solos i) (only e answer i ++ items i) ≡ absorb_all (before i) (items i)
  asked_else i ne =
      fold-append absorb (w.solos i) (only e answer i) (items i)
      ∙ ap (λ s. absorb_all s (items i)) (ap (absorb_all (w.solos i)) (only_else e i answer ne) ∙ sym (set_else e i (with_answer (Again who) (w.solos e)) w.solos ne))

  asking_world : after w (reply_by_verdict w e (Again who)) ≡ tick.again_world w e who
  asking_world =
      worlds (after w (reply_by_verdict w e (Again who))) (tick.again_world w e who) refl refl
      (by_env (λ i. absorb_all (w.solos i) (only e answer i ++ items i)) (λ i. absorb_all (before i) (items i)) e asked_here asked_else)
      refl

  again_world : (c : Option Call) → verdict w e c ≡ Again who → tick.act_world w e (Calls c) ≡ tick.again_world w e who
  again_world c is =
      ap (λ u. after u (reply_by_verdict u e (verdict u e c))) (called_still w e c)
      ∙ ap (λ d. after w (reply_by_verdict w e d)) is
      ∙ asking_world

  pub again_is : verdict_now w e ≡ Some (Again who) → tick.called_world w e ≡ tick.again_world w e who
  again_is is = search (rules, again_world)

pub again_shown : GrantedMay → AgainAsks → FirstIsNumbered → AgainShowsModel
again_shown law again unique b e who has numbers is =
    let x = runner_runs b e has.sound has.runs in
    called_world law again unique b e has numbers
    ∙ again_is (world_of b) e (ap (λ (s : Solo). s.life) (runner_seen b e x.0 x.1)) who is

-- how many rows are written and claims made, and that all environments stay
pub record Leaves (b new : Shown) : Type 0 where
  pub room : b.ledger.spare ≤ new.ledger.spare + 128
  pub spare : new.roster.spare ≡ b.roster.spare
  pub time : new.time ≡ b.time
  pub numbers : new.claims.next ≤ b.claims.next + 1

granted_leaves : (b : Shown) (e value : ℕ) (d : Deed) → Leaves b (doing.after_grant b e value d)
granted_leaves b e value d = search (rules, entered_room)

verdict_leaves : (b : Shown) (e : ℕ) (c : Option Call) (which : Verdict) → Leaves b (doing.after_verdict b e c which)
verdict_leaves b e c (Again who) =
    let left = asked_left b who in
    record {
      room = let room = left.room in omega (arith, room);
      spare = ap (λ (roster : Environments). roster.spare) left.roster;
      time = left.time;
      numbers = let claims : (doing.with_one_asked b who).claims.next ≡ b.claims.next = ap (λ (claims : ClaimBook). claims.next) left.claims in omega (arith, claims);
    }
verdict_leaves b e c (Refuse why value) = record { room = omega arith; spare = refl; time = refl; numbers = omega arith }
verdict_leaves b e c (Grant value) = granted_leaves b e value (deed_of c value b.cpu)

pub called_leaves : (b : Shown) (e : ℕ) (exits : Bool) → HasRunner b e → Leaves b (doing.after_exit_or_call b e exits)
called_leaves b e true has = let s = death_serves b e (cause.Exit (reg b.cpu 4)) has in record { room = s.room; spare = s.spare; time = s.time; numbers = omega arith }
called_leaves b e false has = verdict_leaves b e (called b.cpu) (verdict (world_of b) e (called b.cpu))
