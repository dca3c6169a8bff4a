-- What an act of the environment's own brings to it.
use Rattle.std.proofs.Common.{◌≡◌, ◌≢◌, ℕ, List, [], ◌∷◌, ◌++◌, Bool, true, false, Option, None, Some, refl, sym, ◌∙◌, ap, subst}
use Rattle.std.specs.Prelude.{◌==◌, if◌then◌else◌, not}
use Rattle.std.proofs.lemmas.Bool.{cond_both, eq-eqb, eqb-false, not-true, and_parts}
use Rattle.call_verdicts.specs.Granted.{GrantedMay}
use Rattle.env_frames.specs.declared.context.Handlers.{Handlers}
use Rattle.env_frames.specs.Transfer.{carried, hands_slot}
use Rattle.world_model.specs.declared.call.Deed.{Deed}
use Rattle.world_model.specs.declared.call.Deed.TheVariants.{Answers, Own, Stops, Gives, Allocates, Frees, Recaps, Binds, Unbinds, Transfers, TakesSlot, DropsSlot, TakesLine, DropsLine, Claims, Unclaims, Downloads, Loads}
use Rattle.world_model.specs.declared.slot.Runner.{Runner}
use Rattle.world_model.specs.declared.verdict.Verdict.{Verdict}
use Rattle.world_model.specs.declared.verdict.Verdict.TheVariants.{Refuse, Again, Grant}
use Rattle.world_model.specs.Book.{is_runner}
use Rattle.world_model.specs.Item.{Item, Answer, Asked, Gained, Lost, Start, Transfer, absorb, absorb_all, absorbed, deed_at}
use Rattle.world_model.specs.May.{MayReach, May}
use Rattle.world_model.specs.PageCalls.{lost_bindings}
use Rattle.world_model.specs.Solo.{Solo, is_dead}
use Rattle.world_model.specs.Verdict.{asks_one, done, reply_by_verdict}
use Rattle.world_model.specs.Event.{asks, revokes}
use Rattle.world_model.specs.World.{World, Reply, followed, is_living, no_change, only, tells}
use Rattle.revocation_book.specs.Pending.{asked}
use Rattle.revocation_book.specs.declared.revocation.Pending.{Pending}
use Rattle.std.specs.Prelude.{nat_lt, ◌&&◌, ◌+◌, ◌*◌, is_none}
use Rattle.due_law.specs.Standing.{Asks, Waits, after_answer, standing_counted, ends_by, ends_slice}
use Rattle.due_law.proofs.Dues.{AreFurther, Goes, counting_of, counting_out, further_due, further_stands, goes_as}
use Rattle.due_law.proofs.Early.{only_away, only_own}
use Rattle.due_law.proofs.Others.{handed_other}

-- Items that a call brings behind its answer: further ones, which leave the handlers as they are.
abbrev pub IsBrought : Item → Type 0
IsBrought (Gained page writable bytes) = Unit {0}
IsBrought (Lost page) = Unit {0}
IsBrought (Asked outstanding deadline) = Unit {0}
IsBrought item = ⊥

abbrev pub AreBrought : List Item → Type 0
AreBrought [] = Unit {0}
AreBrought (x ∷ xs) = IsBrought x × AreBrought xs

one_further : (x : Item) → IsBrought x → AreFurther (x ∷ [])
one_further (Gained page writable bytes) its = (refl, tt)
one_further (Lost page) its = (refl, tt)
one_further (Asked outstanding deadline) its = (refl, tt)
one_further x its = absurd its

brought_further : (xs : List Item) → AreBrought xs → AreFurther xs
brought_further [] all = tt
brought_further (x ∷ xs) all = ((one_further x all.0).0, brought_further xs all.1)

absorbed_keeps : (x : Item) (s : Solo) → IsBrought x → (absorbed s x).handlers ≡ s.handlers
absorbed_keeps (Gained page writable bytes) s its = refl
absorbed_keeps (Lost page) s its = refl
absorbed_keeps (Asked outstanding deadline) s its = refl
absorbed_keeps x s its = absurd its

brought_keeps : (xs : List Item) (s : Solo) → AreBrought xs → (absorb_all s xs).handlers ≡ s.handlers
brought_keeps [] s all = refl
brought_keeps (x ∷ xs) s all =
    brought_keeps xs (absorb s x) all.1
    ∙ cond_both (is_dead s.life) s (absorbed s x) (λ (t : Solo). t.handlers ≡ s.handlers) (λ gone. refl) (λ lives. absorbed_keeps x s all.0)

only_brought : (e other : ℕ) (items : List Item) → AreBrought items → AreBrought (only other items e)
only_brought e other items all = cond_both (e == other) items [] AreBrought (λ its. all) (λ away. tt)

-- what runs then
abbrev pub RunsThen : Bool → ℕ → World → Reply → Type 0
RunsThen true e w r = is_runner e r.book.runner ≡ false
RunsThen false e w r = (r.book.runner ≡ w.book.runner) × (r.book.excess e ≡ w.book.excess e)

-- What a deed, or the asking of another, brings to the caller.
pub record Brings (e : ℕ) (w : World) (ends : Bool) (r : Reply) : Type 0 where
  pub brought : AreBrought (r.items e)
  pub then_runs : RunsThen ends e w r
  pub quantum : r.book.quantum ≡ w.book.quantum

module _ (e : ℕ) (w : World) where
  asks_brings : (who : ℕ) (o : Option Pending) → Brings e w false (asks who o w)
  asks_brings who None = record { brought = tt; then_runs = (refl, refl); quantum = refl }
  asks_brings who (Some p) = record { brought = only_brought e who (Asked p.outstanding p.deadline ∷ []) (tt, tt); then_runs = (refl, refl); quantum = refl }

  nothing_brings : Brings e w false (no_change w)
  nothing_brings = record { brought = tt; then_runs = (refl, refl); quantum = refl }

  revokes_brings : (who count until : ℕ) → Brings e w false (revokes who count until w)
  revokes_brings who count until =
      let pending = asked count until (w.book.pending who) in
      cond_both (is_living w who) (asks who pending w) (no_change w) (Brings e w false) (λ lives. asks_brings who pending) (λ gone. nothing_brings)

  asking_brings : (who : ℕ) → Brings e w false (asks_one who w)
  asking_brings who =
      let until = w.book.time + 2 * w.book.quantum in
      cond_both (is_none (w.book.pending who)) (revokes who 1 until w) (no_change w) (Brings e w false) (λ nothing. revokes_brings who 1 until) (λ pending. nothing_brings)

  -- the target of a gift is another
  pub given_other : (target : ℕ) (later : Bool) → MayReach w e target later → e ≢ target
  given_other target later may same =
      let parts = and_parts (nat_lt target w.count) (not (is_dead (w.solos target).life) && not (target == e)) may.other in
      let apart = not-true (target == e) (and_parts (not (is_dead (w.solos target).life)) (not (target == e)) parts.1).1 in
      eqb-false target e apart (sym same)

  deed_brings : (d : Deed) → May w e d → Brings e w (ends_slice d) (done w e d)
  deed_brings Answers may = record { brought = tt; then_runs = (refl, refl); quantum = refl }
  deed_brings (Own own) may = record { brought = tt; then_runs = (refl, refl); quantum = refl }
  deed_brings Stops may = record { brought = tt; then_runs = refl; quantum = refl }
  deed_brings (Gives target) may =
      let away = given_other target false may in
      record { brought = subst AreBrought (sym (only_away e target (Start ∷ []) away)) tt; then_runs = handed_other e target w.book.runner away; quantum = refl }
  deed_brings (Allocates page words) may = record { brought = only_brought e e (Gained page true _ ∷ []) (tt, tt); then_runs = (refl, refl); quantum = refl }
  deed_brings (Frees page) may =
      record { brought = subst AreBrought (sym (ap (λ (b : Bool). if b then Lost page ∷ [] else lost_bindings w.book page e) (eq-eqb e e refl))) (tt, tt); then_runs = (refl, refl); quantum = refl }
  deed_brings (Recaps page words) may =
      record { brought = subst AreBrought (sym (ap (λ (b : Bool). if b then [] else lost_bindings w.book page e) (eq-eqb e e refl))) tt; then_runs = (refl, refl); quantum = refl }
  deed_brings (Binds b word) may = record { brought = only_brought e e (Gained b.page b.writable _ ∷ []) (tt, tt); then_runs = (refl, refl); quantum = refl }
  deed_brings (Unbinds vpn) may = record { brought = tt; then_runs = (refl, refl); quantum = refl }
  deed_brings (Transfers target kind) may =
      let away = given_other target (hands_slot kind) may.reach in
      record { brought = subst AreBrought (sym (only_away e target (Transfer e kind (carried (w.solos e).cpu) ∷ []) away)) tt; then_runs = handed_other e target w.book.runner away; quantum = refl }
  deed_brings (TakesSlot k) may = record { brought = tt; then_runs = (refl, refl); quantum = refl }
  deed_brings (DropsSlot k) may = record { brought = tt; then_runs = (refl, refl); quantum = refl }
  deed_brings (TakesLine line) may = record { brought = tt; then_runs = (refl, refl); quantum = refl }
  deed_brings (DropsLine line) may = record { brought = tt; then_runs = (refl, refl); quantum = refl }
  deed_brings (Claims claim address atoms page) may = record { brought = tt; then_runs = (refl, refl); quantum = refl }
  deed_brings (Unclaims claim) may = record { brought = tt; then_runs = (refl, refl); quantum = refl }
  deed_brings (Downloads claim address words) may = record { brought = tt; then_runs = (refl, refl); quantum = refl }
  deed_brings (Loads page) may = record { brought = tt; then_runs = (refl, refl); quantum = refl }

  -- An answer, and what it brings.
  module _ (q : ℕ) (r : Runner) (runs : w.book.runner ≡ Some r) (its : r.env ≡ e) where
    abbrev s : Solo
    s = w.solos e

    abbrev x : ℕ
    x = w.book.excess e

    counted_same : (t u : Solo) → u.handlers ≡ t.handlers → standing_counted q r.left r.phase x t ≡ standing_counted q r.left r.phase x u
    counted_same t u same = ap (λ (h : Handlers). standing_counted q r.left r.phase x (record t { handlers = h })) (sym same)

    then_stands : (v : Verdict) (reply : Reply) (t u : Solo) (ends : Bool) → RunsThen ends e w reply → u.handlers ≡ t.handlers
        → (if ends then Waits else standing_counted q r.left r.phase x t) ≡ counting_of e q reply.book.runner (reply.book.excess e) u
    then_stands v reply t u true out same = sym (counting_out e q reply.book.runner (reply.book.excess e) u out)
    then_stands v reply t u false on same =
        counted_same t u same
        ∙ sym (ap (λ (o : Option Runner). counting_of e q o (reply.book.excess e) u) (on.0 ∙ runs)
        ∙ ap (λ (n : ℕ). counting_of e q (Some r) n u) on.1
        ∙ ap (λ (b : Bool). if b then standing_counted q r.left r.phase x u else Waits) (eq-eqb r.env e its))

    answer_goes : (v : Verdict) (more reply : Reply) → Brings e w (ends_by s v) more → reply.items e ≡ Answer v ∷ more.items e → reply.book ≡ more.book
        → Goes e q w (reply.items e) (Asks r.left r.phase x) (counting_of e q reply.book.runner (reply.book.excess e) (absorb_all s (reply.items e)))
    answer_goes v more reply brings items same =
        let t = absorb s (Answer v) in
        let ys = more.items e in
        let u = absorb_all t ys in
        let ends = ends_by s v in
        let st = after_answer q (Asks r.left r.phase x) ends t in
        let further = brought_further ys brings.brought in
        let last = counting_of e q more.book.runner (more.book.excess e) u in
        goes_as e q w (reply.items e) (Answer v ∷ ys) (Asks r.left r.phase x) (Asks r.left r.phase x)
        (counting_of e q reply.book.runner (reply.book.excess e) (absorb_all s (reply.items e))) last
        items refl
        (ap (λ b. counting_of e q b.runner (b.excess e) (absorb_all s (reply.items e))) same ∙ ap (λ (xs : List Item). counting_of e q more.book.runner (more.book.excess e) (absorb_all s xs)) items)
        (record {
          due = (refl, further_due q st t ys further);
          leads = further_stands q st t ys further ∙ then_stands v more t u ends brings.then_runs (brought_keeps ys t brings.brought);
        })

    pub record Answers_so (v : Verdict) (reply : Reply) : Type 0 where
      pub goes : Goes e q w (reply.items e) (Asks r.left r.phase x) (counting_of e q reply.book.runner (reply.book.excess e) (absorb_all s (reply.items e)))
      pub quantum : reply.book.quantum ≡ w.book.quantum

    followed_so : (v : Verdict) (more : Reply) → Brings e w (ends_by s v) more → Answers_so v (followed (tells e (Answer v) w) more)
    followed_so v more brings =
        let reply = followed (tells e (Answer v) w) more in
        record { goes = answer_goes v more reply brings (ap (λ (xs : List Item). xs ++ more.items e) (only_own e (Answer v ∷ []))) refl; quantum = brings.quantum }

    pub verdict_so : GrantedMay → (v : Verdict) → ((value : ℕ) → v ≡ Grant value → May w e (deed_at s value)) → Answers_so v (reply_by_verdict w e v)
    verdict_so granted (Refuse code value) may =
        let v = Refuse code value in
        record { goes = answer_goes v (no_change w) (tells e (Answer v) w) nothing_brings (only_own e (Answer v ∷ [])) refl; quantum = refl }
    verdict_so granted (Again who) may = followed_so (Again who) (asks_one who w) (asking_brings who)
    verdict_so granted (Grant value) may = followed_so (Grant value) (done w e (deed_at s value)) (deed_brings (deed_at s value) (may value refl))
