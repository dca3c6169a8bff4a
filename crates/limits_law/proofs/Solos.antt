-- What every item but an answer keeps of an environment, and every verdict that it is given, holds at each moment.
use Rattle.std.proofs.Common.{◌≡◌, ◌+◌, ℕ, zero, suc, List, [], ◌∷◌, ◌++◌, Bool, true, false, Option, Some, None, is_none, refl, sym, ◌∙◌, ap, subst}
use Rattle.std.specs.Prelude.{◌==◌, ◌*◌, if◌then◌else◌, slice_get}
use Rattle.std.proofs.lemmas.Bool.{cond_both, eqb-true}
use Rattle.std.proofs.lemmas.List.{append-nil}
use Rattle.external_event.specs.declared.event.Occurrence.{Occurrence}
use Rattle.external_event.specs.declared.event.Occurrence.TheVariants as outside
use Rattle.filter_tree.specs.ClaimBook.{ClaimValue}
use Rattle.frame_store.specs.Pages.{zero_page}
use Rattle.page_book.specs.Row.{belongs_to}
use Rattle.bind_book.specs.Stripe.{is_bound}
use Rattle.revocation_book.specs.declared.revocation.Pending.{Pending}
use Rattle.revocation_book.specs.declared.revocation.Taking.{Taking}
use Rattle.revocation_book.specs.Pending.{asked}
use Rattle.env_frames.specs.Transfer.{Registers, carried}
use Rattle.world_model.specs.declared.call.Call.{Call}
use Rattle.world_model.specs.declared.call.Deed.{Deed}
use Rattle.world_model.specs.declared.call.Deed.TheVariants.{Gives, Allocates, Frees, Recaps, Binds, Transfers}
use Rattle.world_model.specs.declared.slot.Runner.{Runner}
use Rattle.world_model.specs.declared.slot.Turn.{Turn}
use Rattle.world_model.specs.declared.timer.Timer.{Timer}
use Rattle.world_model.specs.declared.timer.Timer.TheVariants as answer
use Rattle.world_model.specs.declared.verdict.Verdict.{Verdict}
use Rattle.world_model.specs.declared.verdict.Verdict.TheVariants.{Refuse, Again, Grant}
use Rattle.world_model.specs.Book.{Book, running, sees, whole_turn}
use Rattle.world_model.specs.ClaimCalls.{claim_of}
use Rattle.world_model.specs.Deadlines.{copy_left, takes}
use Rattle.world_model.specs.Death.{death, death_items, lost_with}
use Rattle.world_model.specs.Event.{arrives, asks, happen, revokes, ring_bytes, ring_left, signals}
use Rattle.world_model.specs.Item.{Item, Boot, Step, Start, End, Transfer, Killed, Answer, Gained, Lost, Left, Packet, Line, Asked, Taken, absorb, absorb_all, deed_at, with_answer}
use Rattle.world_model.specs.PageCalls.{left_at, left_by, left_if, lost_bindings, lost_if, page_bytes}
use Rattle.world_model.specs.Rings.{page_store, ring_of}
use Rattle.world_model.specs.Solo.{Key, Kept, Physical, Solo, Store, absent, is_dead}
use Rattle.world_model.specs.Step.{Act, Nothing, Stores, Calls, Raises, Dies}
use Rattle.world_model.specs.Table.{set_at}
use Rattle.world_model.specs.Tick.{act_now, act_reply, count_when, owes_more, phases_after, step_when, take_turn, timer, timer_now, timer_reply, turn, turn_when}
use Rattle.world_model.specs.Verdict.{asks_one, done, reply_by_verdict, verdict}
use Rattle.world_model.specs.World.{World, Reply, after, in_turn, is_living, no_change, only, tells}
use Rattle.run_model.specs.Acting.{Acts}
use Rattle.run_model.specs.Boot.{boot_items}
use Rattle.run_model.specs.Run.{System, happens_in, moment, next_phases, takings_in, world_after}
use Rattle.run_model.proofs.Phases.{absorb-append, in_turn_is_each, next_moment, of_each, once_more}
use Rattle.run_model.proofs.Telling.{call_stands}
use Rattle.sharing_law.proofs.Moments.{each_moment}

-- an item of a tick that is no answer, where a transfer carries such registers
abbrev pub IsPlain : (Registers → Type 0) → Item → Type 0
IsPlain R (Boot version number name entry accept kept) = ⊥
IsPlain R (Answer verdict) = ⊥
IsPlain R (Transfer from kind registers) = R registers
IsPlain R item = Unit {0}

module _ (P : Solo → Type 0) (R : Registers → Type 0) (carries : (s : Solo) → P s → R (carried s.cpu)) (plain : (s : Solo) (item : Item) → IsPlain R item → P s → P (absorb s item)) where
  -- whoever absorbs these items keeps it
  abbrev Keeps : List Item → Type 0
  Keeps items = (s : Solo) → P s → P (absorb_all s items)

  none : Keeps []
  none s was = was

  one : (item : Item) → IsPlain R item → Keeps (item ∷ [])
  one item its s was = plain s item its was

  both : (xs ys : List Item) → Keeps xs → Keeps ys → Keeps (xs ++ ys)
  both xs ys first next s was = subst P (sym (absorb-append s xs ys)) (next (absorb_all s xs) (first s was))

  set : (e : ℕ) (xs : List Item) (others : ℕ → List Item) → Keeps xs → ((i : ℕ) → Keeps (others i)) → (i : ℕ) → Keeps (set_at e xs others i)
  set e xs others its rest i = cond_both (i == e) xs (others i) Keeps (λ here. its) (λ other. rest i)

  alone : (e : ℕ) (item : Item) → IsPlain R item → (i : ℕ) → Keeps (only e (item ∷ []) i)
  alone e item its = set e (item ∷ []) (λ i. []) (one item its) (λ i. none)

  losing : (b : Bool) (page : ℕ) → Keeps (lost_if b page)
  losing true page = one (Lost page) tt
  losing false page = none

  leaving : (b : Bool) (page : ℕ) (x : Store) → Keeps (left_if b page x)
  leaving true page x = one (Left page x.offset x.bytes) tt
  leaving false page x = none

  left_keeps : (b : Book) (writer : ℕ) (x : Store) (key : Key) (i : ℕ) → Keeps (left_at b writer x key i)
  left_keeps b writer x (Kept vpn) i = none
  left_keeps b writer x (Physical page) i = cond_both (i == writer) [] (left_if (sees b i page) page x) Keeps (λ own. none) (λ other. leaving (sees b i page) page x)

  -- what each environment is given by a reply keeps it
  abbrev KeepsAll : Reply → Type 0
  KeepsAll r = (i : ℕ) → Keeps (r.items i)

  -- from outside
  ring_keeps : (b : Book) (owner page : ℕ) (bytes : Option (List ℕ)) (i : ℕ) → Keeps (ring_left b owner page bytes i)
  ring_keeps b owner page None i = none
  ring_keeps b owner page (Some bytes) i = left_keeps b owner (page_store page bytes) (Physical page) i

  arrival : (packet : List ℕ) (w : World) (o : Option ClaimValue) → KeepsAll (arrives packet o w)
  arrival packet w None i = none
  arrival packet w (Some c) i =
      let s = w.solos c.env in
      let bytes = ring_bytes s (ring_of s.rings c.id) packet in
      set c.env (Packet c.id packet ∷ []) (ring_left w.book c.env c.page bytes) (one (Packet c.id packet) tt) (ring_keeps w.book c.env c.page bytes) i

  signal : (line : ℕ) (w : World) (o : Option ℕ) → KeepsAll (signals line o w)
  signal line w None i = none
  signal line w (Some owner) i = alone owner (Line line) tt i

  asking : (e : ℕ) (w : World) (o : Option Pending) → KeepsAll (asks e o w)
  asking e w None i = none
  asking e w (Some p) i = alone e (Asked p.outstanding p.deadline) tt i

  revoking : (e count until : ℕ) (w : World) → KeepsAll (revokes e count until w)
  revoking e count until w =
      let pending = asked count until (w.book.pending e) in
      cond_both (is_living w e) (asks e pending w) (no_change w) KeepsAll (λ lives. asking e w pending) (λ gone i. none)

  occurring : (what : Occurrence) (w : World) → KeepsAll (happen what w)
  occurring (outside.Packet packet) w = arrival packet w (claim_of w.book packet)
  occurring (outside.Line line) w = signal line w (w.book.lines line)
  occurring (outside.Revoke env count grace) w = revoking env count (w.book.time + grace) w

  copying : (w : World) (x : Taking) (backup : Option ℕ) (i : ℕ) → Keeps (copy_left w x backup i)
  copying w x None i = none
  copying w x (Some backup) i = left_keeps w.book x.env (page_store backup (page_bytes w x.page)) (Physical backup) i

  taking : (x : Taking) (w : World) → KeepsAll (takes x w)
  taking x w =
      let lost = lost_bindings w.book x.page in
      set x.env (Taken x.page x.backup ∷ []) (λ i. copy_left w x x.backup i ++ lost i) (one (Taken x.page x.backup) tt)
      (λ i. both (copy_left w x x.backup i) (lost i) (copying w x x.backup i) (losing (is_bound x.page (w.book.binds i)) x.page))

  -- the turn
  turning : (w : World) (o : Option Turn) → KeepsAll (take_turn w (whole_turn w.book) o)
  turning w None i = none
  turning w (Some t) i = alone t.env Start tt i

  turned : (w : World) (o : Option Runner) → KeepsAll (turn_when w o)
  turned w None = turning w (whole_turn w.book).runs
  turned w (Some r) = λ i. none

  -- a death
  losses : (b : Book) (gone i n : ℕ) → Keeps (lost_with b gone i n)
  losses b gone i zero = none
  losses b gone i (suc page) =
      let more = if belongs_to gone (b.pages page) then lost_bindings b page i else [] in
      both (lost_with b gone i page) more (losses b gone i page)
      (cond_both (belongs_to gone (b.pages page)) (lost_bindings b page i) [] Keeps (λ goes. losing (is_bound page (b.binds i)) page) (λ stays. none))

  dying : (w : World) (e : ℕ) → KeepsAll (death w e)
  dying w e i = cond_both (i == e) [] (lost_with w.book e i w.book.page_count) Keeps (λ own. none) (λ other. losses w.book e i w.book.page_count)

  -- a deed, beside its answer
  deed : (w : World) (e : ℕ) (d : Deed) → P (w.solos e) → KeepsAll (done w e d)
  deed w e (Gives target) its i = alone target Start tt i
  deed w e (Allocates page words) its i = alone e (Gained page true zero_page) tt i
  deed w e (Frees page) its i = set e (Lost page ∷ []) (lost_bindings w.book page) (one (Lost page) tt) (λ j. losing (is_bound page (w.book.binds j)) page) i
  deed w e (Recaps page words) its i = set e [] (lost_bindings w.book page) none (λ j. losing (is_bound page (w.book.binds j)) page) i
  deed w e (Binds b word) its i = alone e (Gained b.page b.writable (page_bytes w b.page)) tt i
  deed w e (Transfers target kind) its i = alone target (Transfer e kind (carried (w.solos e).cpu)) (carries (w.solos e) its) i
  deed w e d its i = none

  -- two phases in turn
  chain : (xs ys : List Item) → Keeps xs → Keeps ys → Keeps (xs ++ (ys ++ []))
  chain xs ys first next = both xs (ys ++ []) first (both ys [] next none)

  abbrev Holds : World → Type 0
  Holds w = (i : ℕ) → P (w.solos i)

  kept : (w : World) (r : Reply) → KeepsAll r → Holds w → Holds (after w r)
  kept w r keeps was i = keeps i (w.solos i) (was i)

  -- the timer
  timed : (w : World) (r : Runner) (a : Timer) → KeepsAll (timer_reply r a w)
  timed w r answer.Nothing i = none
  timed w r answer.End i = alone r.env End tt i
  timed w r answer.Stop i = none
  timed w r (answer.Over excess) i = none
  timed w r answer.Kill i =
      let v = after w (owes_more r.env w) in
      let u = after v (tells r.env Killed v) in
      let died = death_items u.book r.env i in
      chain [] (only r.env (Killed ∷ []) i ++ (died ++ [])) none (chain (only r.env (Killed ∷ []) i) died (alone r.env Killed tt i) (dying u r.env i))

  counted : (w : World) (o : Option Runner) (i : ℕ) → Keeps ((count_when o w).items i ++ ([] ++ []))
  counted w None i = none
  counted w (Some r) i = chain ((timer_reply r (timer_now w r) w).items i) [] (timed w r (timer_now w r) i) none

  -- the step, by what it comes to
  module _ (Q : World → Type 0) (answers : (w : World) (e : ℕ) (c : Option Call) → Acts w e (Calls c) → Q w → P (w.solos e) → P (with_answer (verdict w e c) (w.solos e))) where
    module _ (w : World) (so : Q w) (was : Holds w) where
      acting : (e : ℕ) (act : Act) → ((c : Option Call) → act ≡ Calls c → ⊥) → KeepsAll (in_turn (tells e Step ∷ act_reply e act ∷ []) w)
      acting e Nothing other i = chain (only e (Step ∷ []) i) [] (alone e Step tt i) none
      acting e (Stores x) other i = chain (only e (Step ∷ []) i) (left_by w.book e x i) (alone e Step tt i) (left_keeps w.book e x x.key i)
      acting e (Calls c) other i = absurd (other c refl)
      acting e (Raises exc) other i = chain (only e (Step ∷ []) i) [] (alone e Step tt i) none
      acting e (Dies cause) other i = chain (only e (Step ∷ []) i) (death_items w.book e i) (alone e Step tt i) (dying w e i)

      asked_one : (who : ℕ) → KeepsAll (asks_one who w)
      asked_one who =
          let until = w.book.time + 2 * w.book.quantum in
          cond_both (is_none (w.book.pending who)) (revokes who 1 until w) (no_change w) KeepsAll (λ nothing. revoking who 1 until w) (λ pending i. none)

      module _ (e : ℕ) (c : Option Call) (acts : Acts w e (Calls c)) where
        answered : (v : Verdict) → verdict w e c ≡ v → P (absorb (w.solos e) (Answer v))
        answered v is =
            cond_both (is_dead (w.solos e).life) (w.solos e) (with_answer v (w.solos e)) P (λ gone. was e)
            (λ lives. subst (λ (u : Verdict). P (with_answer u (w.solos e))) is (answers w e c acts so (was e)))

        behind : (v : Verdict) → verdict w e c ≡ v → (rest : ℕ → List Item) → ((i : ℕ) → Keeps (rest i)) → (i : ℕ) → P (absorb_all (w.solos i) (only e (Answer v ∷ []) i ++ rest i))
        behind v is rest keeps i = by_own (i == e) refl
          where
            by_own : (own : Bool) → (i == e) ≡ own → P (absorb_all (w.solos i) ((if own then Answer v ∷ [] else []) ++ rest i))
            by_own true own = keeps i (absorb (w.solos i) (Answer v)) (subst (λ (n : ℕ). P (absorb (w.solos n) (Answer v))) (sym (eqb-true i e own)) (answered v is))
            by_own false other = keeps i (w.solos i) (was i)

        by_verdict : (v : Verdict) → verdict w e c ≡ v → Holds (after w (reply_by_verdict w e v))
        by_verdict (Refuse code value) is = λ i. subst (λ (items : List Item). P (absorb_all (w.solos i) items)) (append-nil (only e (Answer (Refuse code value) ∷ []) i)) (behind (Refuse code value) is (λ j. []) (λ j. none) i)
        by_verdict (Again who) is = behind (Again who) is (λ i. (asks_one who w).items i) (asked_one who)
        by_verdict (Grant value) is = let d = deed_at (w.solos e) value in behind (Grant value) is (λ i. (done w e d).items i) (deed w e d (was e))

        calling : Holds (after w (in_turn (tells e Step ∷ act_reply e (Calls c) ∷ []) w))
        calling =
            let same = in_turn_is_each w (tells e Step ∷ act_reply e (Calls c) ∷ []) ∙ ap (λ (v : World). after v (act_reply e (Calls c) v)) (call_stands w e c acts.comes) in
            subst Holds (sym same) (by_verdict (verdict w e c) refl)

      by_act : (e : ℕ) → running w.book.runner ≡ Some e → (act : Act) → act_now w e ≡ act → Holds (after w (in_turn (tells e Step ∷ act_reply e act ∷ []) w))
      by_act e runs (Calls c) is = calling e c (record { runs = runs; comes = is })
      by_act e runs Nothing is = kept w (in_turn (tells e Step ∷ act_reply e Nothing ∷ []) w) (acting e Nothing (λ c same. cc)) was
      by_act e runs (Stores x) is = kept w (in_turn (tells e Step ∷ act_reply e (Stores x) ∷ []) w) (acting e (Stores x) (λ c same. cc)) was
      by_act e runs (Raises exc) is = kept w (in_turn (tells e Step ∷ act_reply e (Raises exc) ∷ []) w) (acting e (Raises exc) (λ c same. cc)) was
      by_act e runs (Dies cause) is = kept w (in_turn (tells e Step ∷ act_reply e (Dies cause) ∷ []) w) (acting e (Dies cause) (λ c same. cc)) was

      stepped : (o : Option Runner) → w.book.runner ≡ o → Holds (after w (step_when w o))
      stepped None is = was
      stepped (Some r) is = by_act r.env (ap running is) (act_now w r.env) refl

    -- a phase of a tick
    abbrev Phase : (World → Reply) → Type 0
    Phase phase = (w : World) → Q w → Holds w → Holds (after w (phase w))

    each_phase : (happens : List Occurrence) (xs : List Taking) (k : ℕ) (phase : World → Reply) → slice_get (phases_after happens xs) k ≡ Some phase → Phase phase
    each_phase =
        of_each Phase (λ what w so was. kept w (happen what w) (occurring what w) was) (λ x w so was. kept w (takes x w) (taking x w) was) (λ w so was. was)
        (λ w so was. kept w (turn w) (turned w w.book.runner) was) (λ w so was. stepped w so was w.book.runner refl) (λ w so was. kept w (timer w) (counted w w.book.runner) was)

    module _ (system : System) (boots : (e : ℕ) → P (absorb_all (absent e) (boot_items system.image e))) (each : (t k : ℕ) → Q (moment system t k)) where
      once : (w : World) (o : Option (World → Reply)) → ((phase : World → Reply) → o ≡ Some phase → Phase phase) → Q w → Holds w → Holds (once_more w o)
      once w None phases so was = was
      once w (Some phase) phases so was = phases phase refl w so was

      next : (t k : ℕ) → Holds (moment system t k) → Holds (moment system t (suc k))
      next t k was =
          let w = world_after system t in
          subst Holds (sym (next_moment system t k))
          (once (moment system t k) (slice_get (next_phases system.schedule w) k) (each_phase (happens_in system.schedule w) (takings_in system t) k) (each t k) was)

      pub each_solo : (t k e : ℕ) → P ((moment system t k).solos e)
      each_solo t k e = each_moment Holds system next boots t k e
