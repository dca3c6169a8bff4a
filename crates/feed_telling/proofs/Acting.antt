-- What a step gives.
use Rattle.std.proofs.Common.{◌≡◌, ℕ, List, [], ◌∷◌, ◌++◌, Bool, true, false, Option, None, Some, refl, sym, ◌∙◌, ap, subst}
use Rattle.std.specs.Prelude.{◌==◌, if◌then◌else◌}
use Rattle.std.proofs.lemmas.Bool.{eqb-true}
use Rattle.std.proofs.lemmas.List.{append-nil}
use Rattle.mips_exec.specs.declared.registers.Cpu.{Cpu}
use Rattle.mips_exec.specs.declared.exception.Exc.{Exc}
use Rattle.mips_exec.specs.Cpu.{reg}
use Rattle.mips_exec.specs.Step.{Step as MachineStep, Retired, Called, Trapped}
use Rattle.world_model.specs.declared.call.Call.{Call}
use Rattle.world_model.specs.declared.life.Cause.{Cause}
use Rattle.world_model.specs.declared.life.Cause.TheVariants as cause
use Rattle.world_model.specs.declared.slot.Runner.{Runner}
use Rattle.world_model.specs.declared.verdict.Verdict.{Verdict}
use Rattle.world_model.specs.declared.verdict.Verdict.TheVariants.{Refuse, Again, Grant}
use Rattle.world_model.specs.Book.{Book, running, sees}
use Rattle.world_model.specs.Call.{called, exit_number}
use Rattle.world_model.specs.Death.{death_items}
use Rattle.world_model.specs.Item.{Item, Left, Step, Answer, absorb, absorb_all}
use Rattle.world_model.specs.PageCalls.{left_at, left_by, left_if}
use Rattle.world_model.specs.Solo.{Solo, Store, Key, Kept, Physical, is_dead, store_of}
use Rattle.world_model.specs.Step.{Act, Nothing, Stores, Calls, Raises, Dies, act_at_call, act_of, acted, step_alone, store_act, stepped}
use Rattle.world_model.specs.Tick.{act_now, act_reply, step, step_when}
use Rattle.world_model.specs.Verdict.{reply_to, reply_by_verdict}
use Rattle.world_model.specs.World.{World, only, tells, after, in_turn}
use Rattle.feed_telling.specs.declared.act.NextAct.TheVariants as next
use Rattle.feed_telling.specs.Tell.{act_shown, behind_answer, store_at, store_shown}

-- a call is the one that its caller's registers name
trapped_call : (handled : Bool) (cause : Cause) (exc : Exc) → act_shown (if handled then Dies cause else Raises exc) ≡ next.Calls → ⊥
trapped_call true cause exc shown = cc
trapped_call false cause exc shown = cc

no_store_call : (x : Store) (key : Key) → store_shown x key ≡ next.Calls → ⊥
no_store_call x (Kept vpn) shown = cc
no_store_call x (Physical page) shown = cc

retired_call : (x : Option Store) → act_shown (store_act x) ≡ next.Calls → ⊥
retired_call None shown = cc
retired_call (Some x) shown = no_store_call x x.key shown

named_call : (cpu : Cpu) (exits : Bool) → act_shown (act_at_call cpu exits) ≡ next.Calls → act_at_call cpu exits ≡ Calls (called cpu)
named_call cpu true shown = absurd (cc)
named_call cpu false shown = refl

call_of : (s : Solo) (m : MachineStep) → act_shown (act_of s m) ≡ next.Calls → (act_of s m ≡ Calls (called s.cpu)) × (m ≡ Called)
call_of s (Retired new write) shown = absurd (retired_call (store_of s write) shown)
call_of s Called shown = (named_call s.cpu (reg s.cpu 2 == exit_number) shown, refl)
call_of s (Trapped exc) shown = absurd (trapped_call (s.handlers.exception == 0) (cause.Trapped exc.code) exc shown)

-- the answer, and what comes behind it
pub answered : (w : World) (r i : ℕ) (v : Verdict)
    → (reply_by_verdict w r v).items i ≡ only r (Answer v ∷ []) i ++ (behind_answer w r v).items i
answered w r i (Refuse code value) = sym (append-nil (only r (Answer (Refuse code value) ∷ []) i))
answered w r i (Again who) = refl
answered w r i (Grant value) = refl

-- where the runner calls the kernel, its step leaves the world
same_if : {A : Type 0} (b : Bool) (x y : A) → x ≡ y → (if b then y else x) ≡ y
same_if true x y same = refl
same_if false x y same = same

still : (s : Solo) (call : Option Call) → act_of s (step_alone s) ≡ Calls call → absorb s Step ≡ s
still s call calls =
    let shown = ap act_shown calls in
    let called_now = (call_of s (step_alone s) shown).1 in
    let act : act_of s Called ≡ Calls call = ap (act_of s) (sym called_now) ∙ calls in
    same_if (is_dead s.life) (stepped s (step_alone s)) s
    (ap (stepped s) called_now ∙ ap (λ (a : Act). acted a s) act)

solo_still : (w : World) (r i : ℕ) (call : Option Call) (here : Bool) → (here ≡ true → i ≡ r) → act_now w r ≡ Calls call
    → absorb_all (w.solos i) (if here then Step ∷ [] else []) ≡ w.solos i
solo_still w r i call true same calls =
    subst (λ (k : ℕ). absorb (w.solos k) Step ≡ w.solos k) (sym (same refl)) (still (w.solos r) call calls)
solo_still w r i call false same calls = refl

world_still : (w : World) (r : ℕ) (call : Option Call) → act_now w r ≡ Calls call → after w (tells r Step w) ≡ w
world_still w r call calls = λ k. record {
  book = w.book;
  count = w.count;
  solos = λ i. solo_still w r i call (i == r) (eqb-true i r) calls k;
  rows = append-nil w.rows k;
}

same_acts : (w v : World) (r i : ℕ) (act : Act) → v.book ≡ w.book → ((call : Option Call) → act ≡ Calls call → v ≡ w)
    → (act_reply r act v).items i ≡ (act_reply r act w).items i
same_acts w v r i Nothing book same = refl
same_acts w v r i (Stores x) book same = ap (λ (b : Book). left_by b r x i) book
same_acts w v r i (Calls call) book same = ap (λ (u : World). (act_reply r (Calls call) u).items i) (same call refl)
same_acts w v r i (Raises exc) book same = refl
same_acts w v r i (Dies cause) book same = ap (λ (b : Book). death_items b r i) book

stepping : (w : World) (r i : ℕ) (o : Option Runner) → running o ≡ Some r
    → (step_when w o).items i ≡ only r (Step ∷ []) i ++ (act_reply r (act_now w r) w).items i
stepping w r i None runs = absurd (cc)
stepping w r i (Some runner) runs =
    let same : runner.env ≡ r = cc in
    let v = after w (tells r Step w) in
    ap (λ (e : ℕ). (in_turn (tells e Step ∷ act_reply e (act_now w e) ∷ []) w).items i) same
    ∙ ap (λ (items : List Item). only r (Step ∷ []) i ++ items)
    (append-nil ((act_reply r (act_now w r) v).items i)
    ∙ same_acts w v r i (act_now w r) refl (λ call calls. world_still w r call calls))

pub step_items : (w : World) (r i : ℕ) → running w.book.runner ≡ Some r
    → (step w).items i ≡ only r (Step ∷ []) i ++ (act_reply r (act_now w r) w).items i
step_items w r i runs = stepping w r i w.book.runner runs
