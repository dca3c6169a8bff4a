-- What a bare environment does, and what it brings to it: own items alone.
use Rattle.std.proofs.Common.{◌≡◌, ◌≢◌, ◌+◌, ℕ, List, [], ◌∷◌, ◌++◌, Bool, true, false, Option, None, Some, is_none, refl, sym, ◌∙◌, ap, subst}
use Rattle.std.specs.Prelude.{◌==◌, ◌*◌, if◌then◌else◌, not}
use Rattle.std.proofs.lemmas.Bool.{cond_both, eq-eqb, eqb-true}
use Rattle.std.proofs.lemmas.List.{append-nil}
use Rattle.bind_book.specs.declared.binding.Binding.{Binding}
use Rattle.call_verdicts.specs.Granted.{AgainAsks, GrantedMay}
use Rattle.env_frames.specs.declared.context.Context.{Context}
use Rattle.env_frames.specs.declared.transfer.TransferKind.{TransferKind}
use Rattle.env_frames.specs.Context.{context_numbered}
use Rattle.env_frames.specs.Transfer.{carried, hands_slot, transfer_numbered}
use Rattle.filter_tree.specs.ClaimBook.{ClaimValue}
use Rattle.filter_tree.specs.Claims.{is_claim}
use Rattle.mips_exec.specs.declared.registers.Cpu.{Cpu}
use Rattle.mips_exec.specs.Cpu.{reg}
use Rattle.world_model.specs.declared.call.Call.{Call}
use Rattle.world_model.specs.declared.call.Call.TheVariants as call
use Rattle.world_model.specs.declared.call.Deed.{Deed}
use Rattle.world_model.specs.declared.call.Deed.TheVariants.{Answers, Own, Stops, Gives, Allocates, Frees, Recaps, Binds, Unbinds, Transfers, TakesSlot, DropsSlot, TakesLine, DropsLine, Claims, Unclaims, Downloads, Loads}
use Rattle.world_model.specs.declared.call.OwnDeed.TheVariants.{Puts, Sends, Handles, Accepts}
use Rattle.world_model.specs.declared.verdict.Verdict.{Verdict}
use Rattle.world_model.specs.declared.verdict.Verdict.TheVariants.{Refuse, Again, Grant}
use Rattle.world_model.specs.Book.{Book}
use Rattle.world_model.specs.Call.{any, called, context_deed, deed_of, transfer_deed, yield_deed}
use Rattle.world_model.specs.Death.{death, lost_with}
use Rattle.world_model.specs.Event.{revokes}
use Rattle.world_model.specs.Item.{Item, Answer, Start, Transfer, absorb, absorb_all, deed_at, own_part, with_answer}
use Rattle.world_model.specs.May.{May}
use Rattle.world_model.specs.PageCalls.{without_number}
use Rattle.world_model.specs.Solo.{Solo}
use Rattle.world_model.specs.Step.{Act, Nothing, Stores, Calls, Raises, Dies}
use Rattle.world_model.specs.Table.{set_at}
use Rattle.world_model.specs.Tick.{act_reply}
use Rattle.world_model.specs.Verdict.{asks_one, done, reply_by_verdict, verdict}
use Rattle.world_model.specs.World.{World, Reply, followed, no_change, only, tells}
use Rattle.run_model.proofs.Telling.{deed_may}
use Rattle.quiet_law.proofs.Clear.{IsClear, fewer_claims, left_none, unbind_bound}
use Rattle.quiet_law.proofs.Nothing.{HasNothing, absorbed_nothing, deed_nothing}
use Rattle.quiet_law.proofs.Others.{Waits, death_clear, revokes_waits}
use Rattle.due_law.specs.Bare.{is_bare_call}
use Rattle.due_law.specs.Private.{ArePrivate, brought_by, brought_with}
use Rattle.due_law.specs.Standing.{is_further}
use Rattle.due_law.proofs.Early.{only_away, only_own}
use Rattle.due_law.proofs.Own.{given_other}

-- items of which none is further, and no answer brings anything
abbrev pub ArePlain : Solo → List Item → Type 0
ArePlain s [] = Unit {0}
ArePlain s (x ∷ xs) = (is_further x ≡ false) × (brought_with s x ≡ []) × ArePlain (absorb s x) xs

pub plain_private : (s : Solo) (xs : List Item) → ArePlain s xs → ArePrivate [] s xs
plain_private s [] all = tt
plain_private s (x ∷ xs) all = (all.0, subst (λ (b : List Item). ArePrivate b (absorb s x) xs) (sym all.1) (plain_private (absorb s x) xs all.2))

pub plain_both : (s : Solo) (xs ys : List Item) → ArePlain s xs → ArePlain (absorb_all s xs) ys → ArePlain s (xs ++ ys)
plain_both s [] ys first next = next
plain_both s (x ∷ xs) ys first next = (first.0, first.1, plain_both (absorb s x) xs ys first.2 next)

-- Nothing in the world reaches it, and a reply leaves it so, with plain items.
pub record Keeps (e : ℕ) (w : World) (r : Reply) : Type 0 where
  pub clear : IsClear e r.book
  pub nothing : HasNothing (absorb_all (w.solos e) (r.items e))
  pub plain : ArePlain (w.solos e) (r.items e)

pub keeps_none : (e : ℕ) (w : World) (r : Reply) → r.items e ≡ [] → IsClear e r.book → HasNothing (w.solos e) → Keeps e w r
keeps_none e w r none clear has = record {
  clear = clear;
  nothing = subst (λ (xs : List Item). HasNothing (absorb_all (w.solos e) xs)) (sym none) has;
  plain = subst (ArePlain (w.solos e)) (sym none) tt;
}

pub keeps_one : (e : ℕ) (w : World) (r : Reply) (x : Item) → r.items e ≡ x ∷ [] → is_further x ≡ false → brought_with (w.solos e) x ≡ [] → IsClear e r.book → HasNothing (absorb (w.solos e) x) → Keeps e w r
keeps_one e w r x one own none clear has = record {
  clear = clear;
  nothing = subst (λ (xs : List Item). HasNothing (absorb_all (w.solos e) xs)) (sym one) has;
  plain = subst (ArePlain (w.solos e)) (sym one) (own, none, tt);
}

-- What bare calls do.
abbrev pub IsBareDeed : Deed → Type 0
IsBareDeed (Own (Accepts mask)) = mask ≡ 0
IsBareDeed (Allocates page words) = ⊥
IsBareDeed (Frees page) = ⊥
IsBareDeed (Recaps page words) = ⊥
IsBareDeed (Binds binding word) = ⊥
IsBareDeed (TakesLine line) = ⊥
IsBareDeed (DropsLine line) = ⊥
IsBareDeed (Claims claim address atoms page) = ⊥
IsBareDeed (Loads page) = ⊥
IsBareDeed deed = Unit {0}

yield_bare : (target : ℕ) (next : Bool) → IsBareDeed (yield_deed target next)
yield_bare target true = tt
yield_bare target false = tt

context_bare : (kind : Option Context) (address : ℕ) → IsBareDeed (context_deed kind address)
context_bare None address = tt
context_bare (Some kind) address = tt

transfer_bare : (target : ℕ) (kind : Option TransferKind) → IsBareDeed (transfer_deed target kind)
transfer_bare target None = tt
transfer_bare target (Some kind) = tt

call_bare : (cpu : Cpu) (c : Option Call) (value : ℕ) → is_bare_call cpu c ≡ true → IsBareDeed (deed_of c value cpu)
call_bare cpu None value bare = tt
call_bare cpu (Some call.Yield) value bare = yield_bare (reg cpu 4) (reg cpu 4 == any)
call_bare cpu (Some call.Put) value bare = tt
call_bare cpu (Some call.Alloc) value bare = let never : false ≡ true = bare in cc
call_bare cpu (Some call.Free) value bare = let never : false ≡ true = bare in cc
call_bare cpu (Some call.Recap) value bare = let never : false ≡ true = bare in cc
call_bare cpu (Some call.Bind) value bare = let never : false ≡ true = bare in cc
call_bare cpu (Some call.Unbind) value bare = tt
call_bare cpu (Some call.Context) value bare = context_bare (context_numbered (reg cpu 4)) (reg cpu 5)
call_bare cpu (Some call.Accept) value bare = eqb-true (reg cpu 4) 0 bare
call_bare cpu (Some call.Transfer) value bare = transfer_bare (reg cpu 4) (transfer_numbered (reg cpu 5))
call_bare cpu (Some call.SlotTake) value bare = tt
call_bare cpu (Some call.SlotDrop) value bare = tt
call_bare cpu (Some call.Query) value bare = tt
call_bare cpu (Some call.Claim) value bare = let never : false ≡ true = bare in cc
call_bare cpu (Some call.Unclaim) value bare = tt
call_bare cpu (Some call.Handler) value bare = tt
call_bare cpu (Some call.Line) value bare = let never : false ≡ true = bare in cc
call_bare cpu (Some call.Backup) value bare = let never : false ≡ true = bare in cc
call_bare cpu (Some call.Send) value bare = tt
call_bare cpu (Some call.OwnNumber) value bare = tt
call_bare cpu (Some call.Clock) value bare = tt

bare_brings : (d : Deed) (s : Solo) → IsBareDeed d → brought_by d s ≡ []
bare_brings (Allocates page words) s bare = absurd bare
bare_brings (Frees page) s bare = absurd bare
bare_brings (Binds binding word) s bare = absurd bare
bare_brings d s bare = refl

bare_nothing : (d : Deed) (s : Solo) → IsBareDeed d → HasNothing s → HasNothing (own_part d s)
bare_nothing Answers s bare was = was
bare_nothing (Own (Puts address size)) s bare was = deed_nothing (Own (Puts address size)) s tt was
bare_nothing (Own (Sends address size)) s bare was = deed_nothing (Own (Sends address size)) s tt was
bare_nothing (Own (Handles kind address)) s bare was = deed_nothing (Own (Handles kind address)) s tt was
bare_nothing (Own (Accepts mask)) s bare was = deed_nothing (Own (Accepts mask)) s bare was
bare_nothing Stops s bare was = was
bare_nothing (Gives target) s bare was = was
bare_nothing (Allocates page words) s bare was = absurd bare
bare_nothing (Frees page) s bare was = absurd bare
bare_nothing (Recaps page words) s bare was = absurd bare
bare_nothing (Binds binding word) s bare was = absurd bare
bare_nothing (Unbinds vpn) s bare was = deed_nothing (Unbinds vpn) s tt was
bare_nothing (Transfers target kind) s bare was = was
bare_nothing (TakesSlot slot) s bare was = was
bare_nothing (DropsSlot slot) s bare was = was
bare_nothing (TakesLine line) s bare was = absurd bare
bare_nothing (DropsLine line) s bare was = absurd bare
bare_nothing (Claims claim address atoms page) s bare was = absurd bare
bare_nothing (Unclaims claim) s bare was = deed_nothing (Unclaims claim) s tt was
bare_nothing (Downloads claim address words) s bare was = deed_nothing (Downloads claim address words) s tt was
bare_nothing (Loads page) s bare was = absurd bare

-- What a bare deed brings.
pub record Leaves (e : ℕ) (r : Reply) : Type 0 where
  pub none : r.items e ≡ []
  pub clear : IsClear e r.book

unbound_own : (e : ℕ) (stripe : ℕ → Option Binding) (binds : ℕ → ℕ → Option Binding) (row : ℕ) → stripe row ≡ None → set_at e stripe binds e row ≡ None
unbound_own e stripe binds row none = ap (λ (t : Bool). (if t then stripe else binds e) row) (eq-eqb e e refl) ∙ none

module _ (e : ℕ) (w : World) (clear : IsClear e w.book) where
  same_clear : (b : Book) → b.pages ≡ w.book.pages → b.binds ≡ w.book.binds → b.claims ≡ w.book.claims → b.lines ≡ w.book.lines → IsClear e b
  same_clear b pages binds claims lines = record { owned = rw pages clear.owned; bound = rw binds clear.bound; claims = rw claims clear.claims; lines = rw lines clear.lines }

  deed_leaves : (d : Deed) → May w e d → IsBareDeed d → Leaves e (done w e d)
  deed_leaves Answers may bare = record { none = refl; clear = clear }
  deed_leaves (Own own) may bare = record { none = refl; clear = clear }
  deed_leaves Stops may bare = record { none = refl; clear = same_clear (done w e Stops).book refl refl refl refl }
  deed_leaves (Gives target) may bare = record { none = only_away e target (Start ∷ []) (given_other e w target false may); clear = same_clear (done w e (Gives target)).book refl refl refl refl }
  deed_leaves (Allocates page words) may bare = absurd bare
  deed_leaves (Frees page) may bare = absurd bare
  deed_leaves (Recaps page words) may bare = absurd bare
  deed_leaves (Binds binding word) may bare = absurd bare
  deed_leaves (Unbinds vpn) may bare = record {
    none = refl;
    clear = record {
      owned = clear.owned;
      bound = λ row. (let v = (w.solos e).version in unbound_own e (without_number v vpn (w.book.binds e)) w.book.binds row (unbind_bound v vpn (w.book.binds e) clear.bound row));
      claims = clear.claims;
      lines = clear.lines;
    };
  }
  deed_leaves (Transfers target kind) may bare = record {
    none = only_away e target (Transfer e kind (carried (w.solos e).cpu) ∷ []) (given_other e w target (hands_slot kind) may.reach);
    clear = same_clear (done w e (Transfers target kind)).book refl refl refl refl;
  }
  deed_leaves (TakesSlot k) may bare = record { none = refl; clear = same_clear (done w e (TakesSlot k)).book refl refl refl refl }
  deed_leaves (DropsSlot k) may bare = record { none = refl; clear = same_clear (done w e (DropsSlot k)).book refl refl refl refl }
  deed_leaves (TakesLine line) may bare = absurd bare
  deed_leaves (DropsLine line) may bare = absurd bare
  deed_leaves (Claims claim address atoms page) may bare = absurd bare
  deed_leaves (Unclaims claim) may bare = record {
    none = refl;
    clear = record { owned = clear.owned; bound = clear.bound; claims = fewer_claims e (λ (c : ClaimValue). not (is_claim e claim c)) w.book.claims clear.claims; lines = clear.lines };
  }
  deed_leaves (Downloads claim address words) may bare = record { none = refl; clear = clear }
  deed_leaves (Loads page) may bare = absurd bare

  asking_leaves : (who : ℕ) → e ≢ who → Leaves e (asks_one who w)
  asking_leaves who away =
      let until = w.book.time + 2 * w.book.quantum in
      let waits : Waits e w (revokes who 1 until w) = revokes_waits e w clear who 1 until away in
      cond_both (is_none (w.book.pending who)) (revokes who 1 until w) (no_change w) (Leaves e)
      (λ nothing. record { none = waits.aside.nothing; clear = waits.aside.clear }) (λ pending. record { none = refl; clear = clear })

  module _ (has : HasNothing (w.solos e)) (granted : GrantedMay) (again : AgainAsks) where
    abbrev s : Solo
    s = w.solos e

    answered : (v : Verdict) → ((value : ℕ) → v ≡ Grant value → IsBareDeed (deed_at s value)) → HasNothing (with_answer v s)
    answered (Refuse code value) bare = record { deaf = has.deaf; sees = has.sees; rings = has.rings }
    answered (Again who) bare = record { deaf = has.deaf; sees = has.sees; rings = has.rings }
    answered (Grant value) bare = let its = bare_nothing (deed_at s value) s (bare value refl) has in record { deaf = its.deaf; sees = its.sees; rings = its.rings }

    answer_brings : (v : Verdict) → ((value : ℕ) → v ≡ Grant value → IsBareDeed (deed_at s value)) → brought_with s (Answer v) ≡ []
    answer_brings (Refuse code value) bare = refl
    answer_brings (Again who) bare = refl
    answer_brings (Grant value) bare = bare_brings (deed_at s value) s (bare value refl)

    answer_keeps : (v : Verdict) (r : Reply) → ((value : ℕ) → v ≡ Grant value → IsBareDeed (deed_at s value)) → r.items e ≡ Answer v ∷ [] → IsClear e r.book → Keeps e w r
    answer_keeps v r bare items clear_r =
        keeps_one e w r (Answer v) items refl (answer_brings v bare) clear_r (absorbed_nothing s (Answer v) has (answered v bare))

    behind : (v : Verdict) (r : Reply) → ((value : ℕ) → v ≡ Grant value → IsBareDeed (deed_at s value)) → Leaves e r → Keeps e w (followed (tells e (Answer v) w) r)
    behind v r bare leaves =
        answer_keeps v (followed (tells e (Answer v) w) r) bare
        (ap (λ (xs : List Item). only e (Answer v ∷ []) e ++ xs) leaves.none ∙ append-nil (only e (Answer v ∷ []) e) ∙ only_own e (Answer v ∷ [])) leaves.clear

    call_keeps : (c : Option Call) → called s.cpu ≡ c → is_bare_call s.cpu c ≡ true → (v : Verdict) → verdict w e c ≡ v → Keeps e w (reply_by_verdict w e v)
    call_keeps c named bare v is = by_verdict v is
      where
        deed_bare : (value : ℕ) → IsBareDeed (deed_at s value)
        deed_bare value = subst (λ (o : Option Call). IsBareDeed (deed_of o value s.cpu)) (sym named) (call_bare s.cpu c value bare)

        by_verdict : (v : Verdict) → verdict w e c ≡ v → Keeps e w (reply_by_verdict w e v)
        by_verdict (Refuse code value) is = answer_keeps (Refuse code value) (tells e (Answer (Refuse code value)) w) (λ n same. deed_bare n) (only_own e (Answer (Refuse code value) ∷ [])) clear
        by_verdict (Again who) is = behind (Again who) (asks_one who w) (λ n same. deed_bare n) (asking_leaves who (λ same. (again w e c who is).another (sym same)))
        by_verdict (Grant value) is =
            behind (Grant value) (done w e (deed_at s value)) (λ n same. deed_bare n) (deed_leaves (deed_at s value) (deed_may granted w e c named value is) (deed_bare value))

    pub act_keeps : (act : Act) → ((c : Option Call) → act ≡ Calls c → (called s.cpu ≡ c) × (is_bare_call s.cpu c ≡ true)) → Keeps e w (act_reply e act w)
    act_keeps Nothing calls = keeps_none e w (no_change w) refl clear has
    act_keeps (Stores x) calls = keeps_none e w (act_reply e (Stores x) w) (left_none e w.book clear e x) clear has
    act_keeps (Calls c) calls = let its = calls c refl in call_keeps c its.0 its.1 (verdict w e c) refl
    act_keeps (Raises exc) calls = keeps_none e w (no_change w) refl clear has
    act_keeps (Dies cause) calls = keeps_none e w (death w e) (ap (λ (t : Bool). if t then [] else lost_with w.book e e w.book.page_count) (eq-eqb e e refl)) (death_clear e w clear e) has
