-- The step of a quiet environment that runs.
use Rattle.std.proofs.Common.{◌≡◌, ℕ, List, [], ◌∷◌, ◌++◌, Bool, true, false, Option, None, Some, inl, inr, refl, sym, ◌∙◌, ap, subst, append_assoc}
use Rattle.std.specs.Prelude.{◌==◌, ◌⊎◌, if◌then◌else◌, is_some, length, not, unwrap_or}
use Rattle.std.specs.Option.{option_map_or}
use Rattle.std.proofs.lemmas.Bool.{eq-eqb}
use Rattle.std.proofs.lemmas.List.{append-nil}
use Rattle.bind_book.specs.declared.binding.Binding.{Binding}
use Rattle.bind_book.specs.Stripe.{binding_at}
use Rattle.env_frames.specs.Context.{context_numbered}
use Rattle.env_frames.specs.declared.context.Context.{Context}
use Rattle.filter_tree.specs.ClaimBook.{ClaimValue}
use Rattle.filter_tree.specs.Claims.{is_claim}
use Rattle.mips_exec.specs.Cpu.{reg}
use Rattle.world_model.specs.declared.call.Call.{Call}
use Rattle.world_model.specs.declared.call.Call.TheVariants as call
use Rattle.world_model.specs.declared.call.Deed.{Deed}
use Rattle.world_model.specs.declared.call.Deed.TheVariants.{Answers, Own, Stops, Unbinds, Unclaims, Downloads}
use Rattle.world_model.specs.declared.code.Code.{Code}
use Rattle.world_model.specs.declared.code.Code.TheVariants as code
use Rattle.world_model.specs.declared.question.Question.{Question}
use Rattle.world_model.specs.declared.question.Question.TheVariants as question
use Rattle.world_model.specs.declared.slot.Runner.{Runner}
use Rattle.world_model.specs.declared.verdict.Verdict.{Verdict}
use Rattle.world_model.specs.declared.verdict.Verdict.TheVariants.{Refuse, Again, Grant}
use Rattle.world_model.specs.Answer.{granted_unless, verdict_of}
use Rattle.world_model.specs.Book.{Book}
use Rattle.world_model.specs.Call.{any, called, context_deed, deed_of}
use Rattle.world_model.specs.ClaimCalls.{unclaim}
use Rattle.world_model.specs.Downloads.{download, download_verdict, handler_at}
use Rattle.world_model.specs.Item.{Item, Answer, Step, absorb, absorb_all, deed_at}
use Rattle.world_model.specs.OwnCalls.{context, put, put_refusal, refusal_of_context, send, send_refusal}
use Rattle.world_model.specs.PageCalls.{is_guaranteed_vpn, unbind, vpn_refusal, without_number}
use Rattle.world_model.specs.Queries.{answer_to, question_numbered}
use Rattle.world_model.specs.Rings.{ring_of}
use Rattle.world_model.specs.SlotCalls.{yield_alone}
use Rattle.world_model.specs.Solo.{Ring, Solo, sight}
use Rattle.world_model.specs.Step.{Act, Nothing, Stores, Calls, Raises, Dies}
use Rattle.world_model.specs.Table.{set_at}
use Rattle.world_model.specs.Tick.{act_now, act_reply}
use Rattle.world_model.specs.Verdict.{done, reply_by_verdict, reply_to, verdict, verdict_shared}
use Rattle.world_model.specs.World.{World, Reply, after, followed, in_turn, no_change, no_items, only, tells}
use Rattle.world_model.specs.Death.{death, lost_with}
use Rattle.run_model.proofs.Telling.{call_stands, told_named, told_own}
use Rattle.quiet_law.specs.Alone.{Alone, after_act, is_quiet_call, is_quiet_question, question_alone, stopped, with_item}
use Rattle.quiet_law.proofs.Clear.{IsClear, fewer_claims, left_none, unbind_bound}
use Rattle.quiet_law.proofs.Nothing.{HasNothing, IsQuietDeed, answer_nothing, call_quiet, step_nothing}
use Rattle.quiet_law.proofs.Others.{Waits, death_clear}
use Rattle.quiet_law.proofs.Rest.{alone_after, alone_in, left_of, phase_of, same_alone}

-- who is given items alone is given these
pub only_own : (e : ℕ) (items : List Item) → only e items e ≡ items
only_own e items = ap (λ (t : Bool). if t then items else []) (eq-eqb e e refl)

-- What a quiet deed leaves: nobody is given anything, and who runs, runs on.
unbound_own : (e : ℕ) (stripe : ℕ → Option Binding) (binds : ℕ → ℕ → Option Binding) (row : ℕ) → stripe row ≡ None → set_at e stripe binds e row ≡ None
unbound_own e stripe binds row none = ap (λ (t : Bool). (if t then stripe else binds e) row) (eq-eqb e e refl) ∙ none

context_unstopped : (kind : Option Context) (address : ℕ) → context_deed kind address ≡ Stops → ⊥
context_unstopped None address is = cc
context_unstopped (Some kind) address is = cc

quiet_waits : (e : ℕ) (w : World) (d : Deed) → IsClear e w.book → IsQuietDeed d → (d ≡ Stops → ⊥) → Waits e w (done w e d)
quiet_waits e w Answers clear quiet goes_on = record { aside = record { nothing = refl; clear = clear; excess = refl; quantum = refl }; runner = refl }
quiet_waits e w (Own own) clear quiet goes_on = record { aside = record { nothing = refl; clear = clear; excess = refl; quantum = refl }; runner = refl }
quiet_waits e w Stops clear quiet goes_on = absurd (goes_on refl)
quiet_waits e w (Unbinds vpn) clear quiet goes_on = record {
  aside = record {
    nothing = refl;
    clear = record {
      owned = clear.owned;
      bound = λ row. (let v = (w.solos e).version in unbound_own e (without_number v vpn (w.book.binds e)) w.book.binds row (unbind_bound v vpn (w.book.binds e) clear.bound row));
      claims = clear.claims;
      lines = clear.lines;
    };
    excess = refl;
    quantum = refl;
  };
  runner = refl;
}
quiet_waits e w (Unclaims claim) clear quiet goes_on = record {
  aside = record {
    nothing = refl;
    clear = record { owned = clear.owned; bound = clear.bound; claims = fewer_claims e (λ (c : ClaimValue). not (is_claim e claim c)) w.book.claims clear.claims; lines = clear.lines };
    excess = refl;
    quantum = refl;
  };
  runner = refl;
}
quiet_waits e w (Downloads claim address words) clear quiet goes_on = record { aside = record { nothing = refl; clear = clear; excess = refl; quantum = refl }; runner = refl }
quiet_waits e w d clear quiet goes_on = absurd quiet

-- What an act of the environment brings, in the world once it has made the step.
pub record Brings (e : ℕ) (w : World) (r : Runner) (act : Act) (reply : Reply) : Type 0 where
  pub alone : (xs : List Item) → after_act w.book.quantum act (alone_in e w xs) ≡ alone_in e (after w reply) (xs ++ reply.items e)
  pub clear : IsClear e reply.book
  pub quantum : reply.book.quantum ≡ w.book.quantum
  pub runner : ((reply.book.runner ≡ Some r) × (reply.book.excess e ≡ w.book.excess e)) ⊎ (reply.book.runner ≡ None)
  pub nothing : HasNothing (absorb_all (w.solos e) (reply.items e))

module _ (e : ℕ) (w : World) (clear : IsClear e w.book) (has : HasNothing (w.solos e)) (r : Runner) (runs : w.book.runner ≡ Some r) where
  abbrev s : Solo
  s = w.solos e

  nothing_brings : (act : Act) (reply : Reply) → ((a : Alone) → after_act w.book.quantum act a ≡ a) → reply.items e ≡ [] → reply.book ≡ w.book → Brings e w r act reply
  nothing_brings act reply acts nothing same = record {
    alone = λ xs. acts (alone_in e w xs) ∙ alone_after e w reply xs [] (alone_in e w xs) nothing (sym (append-nil xs)) refl
        (ap (λ (b : Book). left_of e b.runner) (sym same)) (ap (λ (b : Book). phase_of e b.runner) (sym same)) (ap (λ (b : Book). b.excess e) (sym same));
    clear = subst (IsClear e) (sym same) clear;
    quantum = ap (λ (b : Book). b.quantum) same;
    runner = inl (ap (λ (b : Book). b.runner) same ∙ runs, ap (λ (b : Book). b.excess e) same);
    nothing = subst (λ items. HasNothing (absorb_all s items)) (sym nothing) has;
  }

  -- It dies.
  death_brings : (cause : _) → Brings e w r (Dies cause) (death w e)
  death_brings cause =
      let nothing : (death w e).items e ≡ [] = ap (λ (t : Bool). if t then [] else lost_with w.book e e w.book.page_count) (eq-eqb e e refl) in
      let free : (death w e).book.excess e ≡ 0 = ap (λ (t : Bool). if t then 0 else w.book.excess e) (eq-eqb e e refl) in
      record {
        alone = λ xs. alone_after e w (death w e) xs [] (after_act w.book.quantum (Dies cause) (alone_in e w xs)) nothing (sym (append-nil xs)) refl refl refl (sym free);
        clear = death_clear e w clear e;
        quantum = refl;
        runner = inr refl;
        nothing = subst (λ items. HasNothing (absorb_all s items)) (sym nothing) has;
      }

  -- A yield ends its slice.
  module _ (c : Option Call) (named : called s.cpu ≡ c) where
    deed_is : (value : ℕ) → deed_at s value ≡ deed_of c value s.cpu
    deed_is value = ap (λ (o : Option Call). deed_of o value s.cpu) named

    -- the reply to a verdict, where the deed leaves what a quiet one does
    reply_waits : (v : Verdict) → ((who : ℕ) → v ≡ Again who → ⊥) → ((value : ℕ) → v ≡ Grant value → Waits e w (done w e (deed_at s value)))
        → Waits e w (record (reply_by_verdict w e v) { items = no_items }) × ((reply_by_verdict w e v).items e ≡ Answer v ∷ [])
    reply_waits (Refuse code value) decided waits = (record { aside = record { nothing = refl; clear = clear; excess = refl; quantum = refl }; runner = refl }, only_own e (Answer (Refuse code value) ∷ []))
    reply_waits (Again who) decided waits = absurd (decided who refl)
    reply_waits (Grant value) decided waits =
        let its = waits value refl in (
          record { aside = record { nothing = refl; clear = its.aside.clear; excess = its.aside.excess; quantum = its.aside.quantum }; runner = its.runner },
          ap (λ items. only e (Answer (Grant value) ∷ []) e ++ items) its.aside.nothing ∙ append-nil (only e (Answer (Grant value) ∷ []) e) ∙ only_own e (Answer (Grant value) ∷ []),
        )

    -- the call is answered in the world as alone
    answer_brings : (v : Verdict) → verdict w e c ≡ v → ((xs : List Item) → after_act w.book.quantum (Calls c) (alone_in e w xs) ≡ with_item (Answer v) (alone_in e w xs))
        → is_quiet_call s.cpu c ≡ true → ((who : ℕ) → v ≡ Again who → ⊥) → ((value : ℕ) → deed_of c value s.cpu ≡ Stops → ⊥) → Brings e w r (Calls c) (reply_to w e c)
    answer_brings v is answers quiet decided moves =
        let its_deed : (value : ℕ) → IsQuietDeed (deed_at s value) = λ value. subst IsQuietDeed (sym (deed_is value)) (call_quiet s.cpu c value quiet) in
        let both = reply_waits v decided (λ value granted. quiet_waits e w (deed_at s value) clear (its_deed value) (λ stops. moves value (sym (deed_is value) ∙ stops))) in
        let waits = both.0 in
        let items = both.1 in
        subst (λ (o : Verdict). Brings e w r (Calls c) (reply_by_verdict w e o)) (sym is) (record {
          alone = λ xs. answers xs
              ∙ alone_after e w (reply_by_verdict w e v) xs (Answer v ∷ []) (with_item (Answer v) (alone_in e w xs)) items refl refl
              (ap (left_of e) (sym waits.runner)) (ap (phase_of e) (sym waits.runner)) (sym waits.aside.excess);
          clear = waits.aside.clear;
          quantum = waits.aside.quantum;
          runner = inl (waits.runner ∙ runs, waits.aside.excess);
          nothing = subst (λ xs. HasNothing (absorb_all s xs)) (sym items) (answer_nothing v s (λ value granted. its_deed value) has);
        })

  yield_brings : called s.cpu ≡ Some call.Yield → (reg s.cpu 4 == any) ≡ true → Brings e w r (Calls (Some call.Yield)) (reply_to w e (Some call.Yield))
  yield_brings named quiet =
      let is : verdict w e (Some call.Yield) ≡ Grant 0 = ap (λ (t : Bool). unwrap_or (yield_alone t) (verdict_shared w e (Some call.Yield))) quiet in
      let stops : deed_at s 0 ≡ Stops = deed_is (Some call.Yield) named 0 ∙ rw quiet refl in
      let reply = followed (tells e (Answer (Grant 0)) w) (done w e Stops) in
      let items : reply.items e ≡ Answer (Grant 0) ∷ [] = append-nil (only e (Answer (Grant 0) ∷ []) e) ∙ only_own e (Answer (Grant 0) ∷ []) in
      let brings : Brings e w r (Calls (Some call.Yield)) reply = record {
        alone = λ xs. alone_after e w reply xs (Answer (Grant 0) ∷ []) (after_act w.book.quantum (Calls (Some call.Yield)) (alone_in e w xs)) items refl refl refl refl refl;
        clear = record { owned = clear.owned; bound = clear.bound; claims = clear.claims; lines = clear.lines };
        quantum = refl;
        runner = inr refl;
        nothing = subst (λ xs. HasNothing (absorb_all s xs)) (sym items) (answer_nothing (Grant 0) s (λ value granted. subst IsQuietDeed (sym (deed_is (Some call.Yield) named value)) (call_quiet s.cpu (Some call.Yield) value quiet)) has);
      } in
      subst (λ (o : Verdict). Brings e w r (Calls (Some call.Yield)) (reply_by_verdict w e o)) (sym is)
      (subst (λ (d : Deed). Brings e w r (Calls (Some call.Yield)) (followed (tells e (Answer (Grant 0)) w) (done w e d))) (sym stops) brings)

  -- Each other quiet call is answered by its caller alone.
  granted_decided : (o : Option Code) (value who : ℕ) → granted_unless o value ≡ Again who → ⊥
  granted_decided None value who is = cc
  granted_decided (Some why) value who is = cc

  -- questions
  module _ (named : called s.cpu ≡ Some call.Query) (quiet : is_quiet_call s.cpu (Some call.Query) ≡ true) where
    asked_brings : (o : Option Question) (v : Verdict) → question_numbered (reg s.cpu 4) ≡ o → verdict_of (answer_to w e o (reg s.cpu 5)) ≡ v
        → question_alone w.book.quantum (w.book.excess e) o ≡ Some v → ((who : ℕ) → v ≡ Again who → ⊥) → Brings e w r (Calls (Some call.Query)) (reply_to w e (Some call.Query))
    asked_brings o v is answered alone decided =
        answer_brings (Some call.Query) named v (ap (λ (x : Option Question). verdict_of (answer_to w e x (reg s.cpu 5))) is ∙ answered)
        (λ xs. (let a = alone_in e w xs in
        ap (λ (x : Option Question). option_map_or (λ y. with_item (Answer y) a) (question_alone w.book.quantum (w.book.excess e) x) (stopped a)) is
        ∙ ap (λ (x : Option Verdict). option_map_or (λ y. with_item (Answer y) a) x (stopped a)) alone))
        quiet decided (λ value stops. cc)

    query_brings : (o : Option Question) → question_numbered (reg s.cpu 4) ≡ o → is_quiet_question o ≡ true → Brings e w r (Calls (Some call.Query)) (reply_to w e (Some call.Query))
    query_brings None is its = asked_brings None (Refuse code.BadCall 0) is refl refl (λ who is. cc)
    query_brings (Some question.Quantum) is its = asked_brings (Some question.Quantum) (Grant w.book.quantum) is refl refl (λ who is. cc)
    query_brings (Some question.Excess) is its = asked_brings (Some question.Excess) (Grant (w.book.excess e)) is refl refl (λ who is. cc)
    query_brings o is its = let never : false ≡ true = its in cc

  -- and what is refused to a caller without claims
  no_claim : unclaim s ≡ Refuse code.NoFilter 0
  no_claim = ap (λ (rings : List Ring). if is_some (ring_of rings (reg s.cpu 4)) then Grant 0 else Refuse code.NoFilter 0) has.rings

  no_handler : download s ≡ Refuse code.NoFilter 0
  no_handler = ap (λ (rings : List Ring). if is_some (ring_of rings (reg s.cpu 4)) then download_verdict (handler_at (sight s) (reg s.cpu 5) (reg s.cpu 6)) else Refuse code.NoFilter 0) has.rings

  call_brings : (c : Option Call) → called s.cpu ≡ c → is_quiet_call s.cpu c ≡ true → Brings e w r (Calls c) (reply_to w e c)
  call_brings None named quiet = answer_brings None named (Refuse code.BadCall 0) refl (λ xs. refl) quiet (λ who is. cc) (λ value is. cc)
  call_brings (Some call.Yield) named quiet = yield_brings named quiet
  call_brings (Some call.Put) named quiet =
      answer_brings (Some call.Put) named (put s) refl (λ xs. refl) quiet (granted_decided (put_refusal s.cpu (sight s) (length s.console)) (reg s.cpu 5)) (λ value is. cc)
  call_brings (Some call.Send) named quiet =
      answer_brings (Some call.Send) named (send s) refl (λ xs. refl) quiet (granted_decided (send_refusal s.cpu (sight s) (length s.sent)) 0) (λ value is. cc)
  call_brings (Some call.Unbind) named quiet =
      answer_brings (Some call.Unbind) named (unbind s) refl (λ xs. refl) quiet (granted_decided (vpn_refusal (is_guaranteed_vpn s (reg s.cpu 4)) (reg s.cpu 4)) (if is_some (binding_at s.version s.binds (reg s.cpu 4)) then 1 else 0)) (λ value is. cc)
  call_brings (Some call.Context) named quiet =
      answer_brings (Some call.Context) named (context s) refl (λ xs. refl) quiet (granted_decided (refusal_of_context s.cpu) 0) (λ value is. context_unstopped (context_numbered (reg s.cpu 4)) (reg s.cpu 5) is)
  call_brings (Some call.OwnNumber) named quiet =
      answer_brings (Some call.OwnNumber) named (Grant s.number) refl (λ xs. refl) quiet (λ who is. cc) (λ value is. cc)
  call_brings (Some call.Accept) named quiet = answer_brings (Some call.Accept) named (Grant 0) refl (λ xs. refl) quiet (λ who is. cc) (λ value is. cc)
  call_brings (Some call.Query) named quiet = query_brings named quiet (question_numbered (reg s.cpu 4)) refl quiet
  call_brings (Some call.Unclaim) named quiet =
      answer_brings (Some call.Unclaim) named (Refuse code.NoFilter 0) no_claim (λ xs. ap (λ (v : Verdict). with_item (Answer v) (alone_in e w xs)) no_claim) quiet (λ who is. cc) (λ value is. cc)
  call_brings (Some call.Handler) named quiet =
      answer_brings (Some call.Handler) named (Refuse code.NoFilter 0) no_handler (λ xs. ap (λ (v : Verdict). with_item (Answer v) (alone_in e w xs)) no_handler) quiet (λ who is. cc) (λ value is. cc)
  call_brings c named quiet = let never : false ≡ true = quiet in cc

  -- so whatever it does
  act_brings : (act : Act) → ((c : Option Call) → act ≡ Calls c → (called s.cpu ≡ c) × (is_quiet_call s.cpu c ≡ true)) → Brings e w r act (act_reply e act w)
  act_brings Nothing calls = nothing_brings Nothing (no_change w) (λ a. refl) refl refl
  act_brings (Stores x) calls = nothing_brings (Stores x) (act_reply e (Stores x) w) (λ a. refl) (left_none e w.book clear e x) refl
  act_brings (Calls c) calls = let its = calls c refl in call_brings c its.0 its.1
  act_brings (Raises exc) calls = nothing_brings (Raises exc) (no_change w) (λ a. refl) refl refl
  act_brings (Dies cause) calls = death_brings cause

-- Its step, and what comes of it.
pub record Steps (e : ℕ) (w : World) (r : Runner) (reply : Reply) : Type 0 where
  pub alone : (xs : List Item) → after_act w.book.quantum (act_now w e) (with_item Step (alone_in e w xs)) ≡ alone_in e (after w reply) (xs ++ reply.items e)
  pub clear : IsClear e reply.book
  pub quantum : reply.book.quantum ≡ w.book.quantum
  pub runner : ((reply.book.runner ≡ Some r) × (reply.book.excess e ≡ w.book.excess e)) ⊎ (reply.book.runner ≡ None)
  pub nothing : HasNothing (absorb_all (w.solos e) (reply.items e))

pub own_steps : (e : ℕ) (w : World) → IsClear e w.book → HasNothing (w.solos e) → (r : Runner) → w.book.runner ≡ Some r
    → ((c : Option Call) → act_now w e ≡ Calls c → is_quiet_call (w.solos e).cpu c ≡ true) → Steps e w r (in_turn (tells e Step ∷ act_reply e (act_now w e) ∷ []) w)
own_steps e w clear has r runs quiet =
    let s = w.solos e in
    let act = act_now w e in
    let v = after w (tells e Step w) in
    let stepped : v.solos e ≡ absorb s Step = told_own w e Step in
    let calls : (c : Option Call) → act ≡ Calls c → (called (v.solos e).cpu ≡ c) × (is_quiet_call (v.solos e).cpu c ≡ true) =
    λ c is. (told_named w e c is, subst (λ (u : World). is_quiet_call (u.solos e).cpu c ≡ true) (sym (call_stands w e c is)) (quiet c is)) in
    let brings : Brings e v r act (act_reply e act v) = act_brings e v clear (subst HasNothing (sym stepped) (step_nothing s has)) r runs act calls in
    let more = (act_reply e act v).items e in
    let reply = in_turn (tells e Step ∷ act_reply e act ∷ []) w in
    let items : reply.items e ≡ Step ∷ more = ap (λ first. first ++ (more ++ [])) (only_own e (Step ∷ [])) ∙ ap (λ xs. Step ∷ xs) (append-nil more) in
    let absorbs : absorb_all (v.solos e) more ≡ absorb_all s (reply.items e) = ap (λ t. absorb_all t more) stepped ∙ ap (absorb_all s) (sym items) in
    record {
      alone = λ xs.
          ap (after_act w.book.quantum act) (same_alone (with_item Step (alone_in e w xs)) (alone_in e v (xs ++ Step ∷ [])) refl (sym stepped) refl refl refl)
          ∙ brings.alone (xs ++ Step ∷ [])
          ∙ same_alone (alone_in e (after v (act_reply e act v)) ((xs ++ Step ∷ []) ++ more)) (alone_in e (after w reply) (xs ++ reply.items e))
          (append_assoc xs (Step ∷ []) more ∙ ap (λ ys. xs ++ ys) (sym items)) absorbs refl refl refl;
      clear = brings.clear;
      quantum = brings.quantum;
      runner = brings.runner;
      nothing = subst HasNothing absorbs brings.nothing;
    }
