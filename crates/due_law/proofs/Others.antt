-- Another's step brings further items alone to an environment that accepts nobody, which doesn't run after it.
use Rattle.std.proofs.Common.{◌≡◌, ◌≢◌, ◌+◌, ℕ, List, [], ◌∷◌, ◌++◌, Bool, true, false, Option, None, Some, is_none, refl, sym, ◌∙◌, ap, subst, rules, arith}
use Rattle.std.specs.Prelude.{◌==◌, ◌*◌}
use Rattle.std.proofs.lemmas.Bool.{cond_both, ne_eqb}
use Rattle.call_verdicts.specs.Granted.{GrantedMay}
use Rattle.env_frames.specs.Transfer.{carried, hands_slot}
use Rattle.world_model.specs.declared.call.Call.{Call}
use Rattle.world_model.specs.declared.call.Deed.{Deed}
use Rattle.world_model.specs.declared.call.Deed.TheVariants.{Answers, Own, Stops, Gives, Allocates, Frees, Recaps, Binds, Unbinds, Transfers, TakesSlot, DropsSlot, TakesLine, DropsLine, Claims, Unclaims, Downloads, Loads}
use Rattle.world_model.specs.declared.slot.Runner.{Runner}
use Rattle.world_model.specs.declared.verdict.Verdict.{Verdict}
use Rattle.world_model.specs.declared.verdict.Verdict.TheVariants.{Refuse, Again, Grant}
use Rattle.world_model.specs.Book.{is_runner}
use Rattle.world_model.specs.Call.{called}
use Rattle.world_model.specs.Death.{death, death_items, lost_with}
use Rattle.world_model.specs.Event.{revokes}
use Rattle.world_model.specs.Item.{Item, Answer, Gained, Lost, Start, Transfer, deed_at}
use Rattle.world_model.specs.May.{MayReach, May}
use Rattle.world_model.specs.PageCalls.{lost_bindings}
use Rattle.world_model.specs.SlotCalls.{accepts, handed}
use Rattle.world_model.specs.Step.{Act, Nothing, Stores, Calls, Raises, Dies}
use Rattle.world_model.specs.Tick.{act_reply}
use Rattle.world_model.specs.Verdict.{asks_one, done, reply_by_verdict, reply_to, verdict}
use Rattle.world_model.specs.World.{World, Reply, followed, no_change, tells}
use Rattle.run_model.proofs.Telling.{deed_may}
use Rattle.due_law.proofs.Dues.{AreFurther}
use Rattle.due_law.proofs.Early.{IsAside, all_lost_further, left_further, lost_further, nothing_aside, only_away, only_further, revokes_aside}

pub record IsOut (e : ℕ) (w : World) (r : Reply) : Type 0 where
  pub further : AreFurther (r.items e)
  pub out : is_runner e r.book.runner ≡ false
  pub quantum : r.book.quantum ≡ w.book.quantum

pub handed_other : (e target : ℕ) (runner : Option Runner) → e ≢ target → is_runner e (handed target runner) ≡ false
handed_other e target None other = refl
handed_other e target (Some r) other = ne_eqb target e (λ same. other (sym same))

accepts_none : (mask by : ℕ) → mask ≡ 0 → accepts mask by ≡ false
accepts_none mask by none = rw none (search (rules, arith))

-- who is asked for a page
pub asking_aside : (e : ℕ) (w : World) (who : ℕ) → IsAside e w (asks_one who w)
asking_aside e w who =
    let until = w.book.time + 2 * w.book.quantum in
    cond_both (is_none (w.book.pending who)) (revokes who 1 until w) (no_change w) (IsAside e w) (λ nothing. revokes_aside e w who 1 until) (λ pending. nothing_aside e w)

-- a death
pub death_further : (e by : ℕ) (w : World) → AreFurther (death_items w.book by e)
death_further e by w = cond_both (e == by) [] (lost_with w.book by e w.book.page_count) AreFurther (λ own. tt) (λ other. all_lost_further w.book by e w.book.page_count)

module _ (e : ℕ) (w : World) (deaf : (w.solos e).mask ≡ 0) (by : ℕ) (other : e ≢ by) (out : is_runner e w.book.runner ≡ false) where
  not_reached : (target : ℕ) (later : Bool) → MayReach w by target later → e ≢ target
  not_reached target later may same =
      let clash : true ≡ false = sym may.accepted ∙ accepts_none (w.solos target).mask by (subst (λ (n : ℕ). (w.solos n).mask ≡ 0) same deaf) in cc

  still : (r : Reply) → AreFurther (r.items e) → is_runner e r.book.runner ≡ false → r.book.quantum ≡ w.book.quantum → IsOut e w r
  still r further out quantum = record { further = further; out = out; quantum = quantum }

  deed_out : (d : Deed) → May w by d → IsOut e w (done w by d)
  deed_out Answers may = still (done w by Answers) tt out refl
  deed_out (Own own) may = still (done w by (Own own)) tt out refl
  deed_out Stops may = still (done w by Stops) tt refl refl
  deed_out (Gives target) may =
      let away = not_reached target false may in
      still (done w by (Gives target)) (subst AreFurther (sym (only_away e target (Start ∷ []) away)) tt) (handed_other e target w.book.runner away) refl
  deed_out (Allocates page words) may = still (done w by (Allocates page words)) (only_further e by (Gained page true _ ∷ []) (refl, tt)) out refl
  deed_out (Frees page) may =
      still (done w by (Frees page)) (cond_both (e == by) (Lost page ∷ []) (lost_bindings w.book page e) AreFurther (λ own. (refl, tt)) (λ away. lost_further w.book page e)) out refl
  deed_out (Recaps page words) may =
      still (done w by (Recaps page words)) (cond_both (e == by) [] (lost_bindings w.book page e) AreFurther (λ own. tt) (λ away. lost_further w.book page e)) out refl
  deed_out (Binds b word) may = still (done w by (Binds b word)) (only_further e by (Gained b.page b.writable _ ∷ []) (refl, tt)) out refl
  deed_out (Unbinds vpn) may = still (done w by (Unbinds vpn)) tt out refl
  deed_out (Transfers target kind) may =
      let away = not_reached target (hands_slot kind) may.reach in
      still (done w by (Transfers target kind)) (subst AreFurther (sym (only_away e target (Transfer by kind (carried (w.solos by).cpu) ∷ []) away)) tt) (handed_other e target w.book.runner away) refl
  deed_out (TakesSlot k) may = still (done w by (TakesSlot k)) tt out refl
  deed_out (DropsSlot k) may = still (done w by (DropsSlot k)) tt out refl
  deed_out (TakesLine line) may = still (done w by (TakesLine line)) tt out refl
  deed_out (DropsLine line) may = still (done w by (DropsLine line)) tt out refl
  deed_out (Claims claim address atoms page) may = still (done w by (Claims claim address atoms page)) tt out refl
  deed_out (Unclaims claim) may = still (done w by (Unclaims claim)) tt out refl
  deed_out (Downloads claim address words) may = still (done w by (Downloads claim address words)) tt out refl
  deed_out (Loads page) may = still (done w by (Loads page)) tt out refl

  behind_answer : (v : Verdict) (r : Reply) → IsOut e w r → IsOut e w (followed (tells by (Answer v) w) r)
  behind_answer v r its = record {
    further = subst (λ (xs : List Item). AreFurther (xs ++ r.items e)) (sym (only_away e by (Answer v ∷ []) other)) its.further;
    out = its.out;
    quantum = its.quantum;
  }

  module _ (granted : GrantedMay) where
    call_out : (c : Option Call) → called (w.solos by).cpu ≡ c → IsOut e w (reply_to w by c)
    call_out c named = by_verdict (verdict w by c) refl
      where
        by_verdict : (v : Verdict) → verdict w by c ≡ v → IsOut e w (reply_by_verdict w by v)
        by_verdict (Refuse code value) is =
            still (tells by (Answer (Refuse code value)) w) (subst AreFurther (sym (only_away e by (Answer (Refuse code value) ∷ []) other)) tt) out refl
        by_verdict (Again who) is =
            let a = asking_aside e w who in
            behind_answer (Again who) (asks_one who w) (still (asks_one who w) a.further (ap (is_runner e) a.runner ∙ out) a.quantum)
        by_verdict (Grant value) is =
            let d = deed_at (w.solos by) value in
            behind_answer (Grant value) (done w by d) (deed_out d (deed_may granted w by c named value is))

    pub act_out : (act : Act) → ((c : Option Call) → act ≡ Calls c → called (w.solos by).cpu ≡ c) → IsOut e w (act_reply by act w)
    act_out Nothing named = still (no_change w) tt out refl
    act_out (Stores x) named = still (act_reply by (Stores x) w) (left_further w.book by x e) out refl
    act_out (Calls c) named = call_out c (named c refl)
    act_out (Raises exc) named = still (no_change w) tt out refl
    act_out (Dies cause) named = still (death w by) (death_further e by w) refl refl
