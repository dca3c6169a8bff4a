-- Own items only add to the console, and to what was sent.
use Rattle.std.proofs.Common.{◌≡◌, ℕ, List, [], ◌∷◌, ◌++◌, None, refl}
use Rattle.std.specs.Prelude.{◌==◌, is_some}
use Rattle.std.proofs.lemmas.Bool.{cond_both}
use Rattle.bind_book.specs.Stripe.{binding_at, row_of}
use Rattle.mips_exec.specs.Step.{cpu_after}
use Rattle.world_model.specs.declared.call.Deed.{Deed}
use Rattle.world_model.specs.declared.call.Deed.TheVariants.{Answers, Own, Stops, Gives, Allocates, Frees, Recaps, Binds, Unbinds, Transfers, TakesSlot, DropsSlot, TakesLine, DropsLine, Claims, Unclaims, Downloads, Loads}
use Rattle.world_model.specs.declared.call.OwnDeed.TheVariants.{Puts, Sends, Handles, Accepts}
use Rattle.world_model.specs.declared.verdict.Verdict.{Verdict}
use Rattle.world_model.specs.declared.verdict.Verdict.TheVariants.{Refuse, Again, Grant}
use Rattle.world_model.specs.Holding.{after_unbind, with_binds}
use Rattle.world_model.specs.Item.{Item, Answer, End, Killed, Start, Step, absorb, absorb_all, absorbed, deed_at, own_part, with_answer}
use Rattle.world_model.specs.Solo.{Solo, is_dead}
use Rattle.world_model.specs.Step.{Act, Nothing, Stores, Calls, Raises, Dies, act_of, acted, step_alone}
use Rattle.world_model.specs.Table.{set_at}
use Rattle.world_model.specs.Upcalls.{start_by}
use Rattle.quiet_law.specs.EachTick.{AreOwnItems, IsOwnItem}
use Rattle.quiet_law.specs.Writing.{WroteOn}
use Rattle.quiet_law.proofs.Beginnings.{begins_further, begins_same}

wrote_nothing : (s t : Solo) → s.console ≡ t.console → s.sent ≡ t.sent → WroteOn s t
wrote_nothing s t console sent = record { console = begins_same s.console t.console console; sent = begins_same s.sent t.sent sent }

wrote_further : (s t u : Solo) → WroteOn s t → WroteOn t u → WroteOn s u
wrote_further s t u first next = record {
  console = begins_further s.console t.console u.console first.console next.console;
  sent = begins_further s.sent t.sent u.sent first.sent next.sent;
}

-- a step,
act_writes : (act : Act) (s : Solo) → WroteOn s (acted act s)
act_writes Nothing s = wrote_nothing s s refl refl
act_writes (Stores x) s = wrote_nothing s (acted (Stores x) s) refl refl
act_writes (Calls c) s = wrote_nothing s s refl refl
act_writes (Raises exc) s = wrote_nothing s (acted (Raises exc) s) refl refl
act_writes (Dies cause) s = wrote_nothing s (acted (Dies cause) s) refl refl

step_writes : (s : Solo) → WroteOn s (absorbed s Step)
step_writes s =
    let stepped = record s { cpu = cpu_after s.cpu (step_alone s) } in
    wrote_further s stepped (absorbed s Step) (wrote_nothing s stepped refl refl) (act_writes (act_of s (step_alone s)) stepped)

-- the start of a slice,
start_writes : (handler : ℕ) (s : Solo) → WroteOn s (start_by handler s)
start_writes handler s = cond_both (handler == 0) _ _ (WroteOn s) (λ none. wrote_nothing s _ refl refl) (λ handles. wrote_nothing s _ refl refl)

-- and an answer
unbind_writes : (vpn : ℕ) (s : Solo) → WroteOn s (after_unbind vpn s)
unbind_writes vpn s =
    cond_both (is_some (binding_at s.version s.binds vpn)) (with_binds (set_at (row_of s.version vpn) None s.binds) s) s (WroteOn s) (λ bound. wrote_nothing s _ refl refl) (λ none. wrote_nothing s s refl refl)

deed_writes : (d : Deed) (s : Solo) → WroteOn s (own_part d s)
deed_writes Answers s = wrote_nothing s s refl refl
deed_writes (Own (Puts address size)) s = record { console = record { rest = _; is = refl }; sent = begins_same s.sent s.sent refl }
deed_writes (Own (Sends address size)) s = record { console = begins_same s.console s.console refl; sent = record { rest = _; is = refl } }
deed_writes (Own (Handles kind address)) s = wrote_nothing s (own_part (Own (Handles kind address)) s) refl refl
deed_writes (Own (Accepts mask)) s = wrote_nothing s (own_part (Own (Accepts mask)) s) refl refl
deed_writes Stops s = wrote_nothing s s refl refl
deed_writes (Gives target) s = wrote_nothing s s refl refl
deed_writes (Allocates page words) s = wrote_nothing s (own_part (Allocates page words) s) refl refl
deed_writes (Frees page) s = wrote_nothing s s refl refl
deed_writes (Recaps page words) s = wrote_nothing s s refl refl
deed_writes (Binds binding word) s = wrote_nothing s (own_part (Binds binding word) s) refl refl
deed_writes (Unbinds vpn) s = unbind_writes vpn s
deed_writes (Transfers target kind) s = wrote_nothing s s refl refl
deed_writes (TakesSlot slot) s = wrote_nothing s s refl refl
deed_writes (DropsSlot slot) s = wrote_nothing s s refl refl
deed_writes (TakesLine line) s = wrote_nothing s s refl refl
deed_writes (DropsLine line) s = wrote_nothing s s refl refl
deed_writes (Claims claim address atoms page) s = wrote_nothing s (own_part (Claims claim address atoms page) s) refl refl
deed_writes (Unclaims claim) s = wrote_nothing s (own_part (Unclaims claim) s) refl refl
deed_writes (Downloads claim address words) s = wrote_nothing s (own_part (Downloads claim address words) s) refl refl
deed_writes (Loads page) s = wrote_nothing s s refl refl

answer_writes : (v : Verdict) (s : Solo) → WroteOn s (with_answer v s)
answer_writes (Refuse code value) s = wrote_nothing s (with_answer (Refuse code value) s) refl refl
answer_writes (Again who) s = wrote_nothing s (with_answer (Again who) s) refl refl
answer_writes (Grant value) s =
    let did = own_part (deed_at s value) s in
    wrote_further s did (with_answer (Grant value) s) (deed_writes (deed_at s value) s) (wrote_nothing did (with_answer (Grant value) s) refl refl)

absorbed_writes : (item : Item) (s : Solo) → IsOwnItem item → WroteOn s (absorbed s item)
absorbed_writes Step s own = step_writes s
absorbed_writes Start s own = start_writes s.handlers.start s
absorbed_writes End s own = wrote_nothing s (absorbed s End) refl refl
absorbed_writes Killed s own = wrote_nothing s (absorbed s Killed) refl refl
absorbed_writes (Answer v) s own = answer_writes v s
absorbed_writes item s own = absurd own

-- the dead write nothing more
item_writes : (item : Item) (s : Solo) → IsOwnItem item → WroteOn s (absorb s item)
item_writes item s own = cond_both (is_dead s.life) s (absorbed s item) (WroteOn s) (λ gone. wrote_nothing s s refl refl) (λ lives. absorbed_writes item s own)

pub items_write : (items : List Item) (s : Solo) → AreOwnItems items → WroteOn s (absorb_all s items)
items_write [] s own = wrote_nothing s s refl refl
items_write (item ∷ items) s own = wrote_further s (absorb s item) (absorb_all (absorb s item) items) (item_writes item s own.0) (items_write items (absorb s item) own.1)

-- and two lists of items are absorbed one after the other
pub absorb_both : (xs ys : List Item) (s : Solo) → absorb_all s (xs ++ ys) ≡ absorb_all (absorb_all s xs) ys
absorb_both [] ys s = refl
absorb_both (x ∷ xs) ys s = absorb_both xs ys (absorb s x)
