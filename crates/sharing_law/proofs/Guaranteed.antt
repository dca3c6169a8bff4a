-- Why the bytes of a guaranteed page change.
use Rattle.std.proofs.Common.{◌≡◌, ◌^◌, ℕ, zero, suc, List, ◌∷◌, Bool, true, false, Option, Some, None, ◌⊎◌, inl, inr, refl, sym, ◌∙◌, ap, subst, arith}
use Rattle.std.proofs.lemmas.Grind.{common_steps}
use Rattle.std.specs.Prelude.{◌==◌, bit_or, if◌then◌else◌, slice_get}
use Rattle.std.specs.Option.{option_map}
use Rattle.std.proofs.lemmas.Bool.{cases_eq, eqb-false}
use Rattle.frame_store.specs.Pages.{with_bytes, word_bytes}
use Rattle.mips_exec.specs.declared.registers.Cpu.{Cpu}
use Rattle.mips_exec.specs.declared.exception.Exc.{Exc}
use Rattle.mips_exec.specs.Cpu.{rested}
use Rattle.mips_exec.specs.Step.{Step as MachineStep, cpu_after}
use Rattle.env_frames.specs.Context.{end_area, end_bytes, exception_area, exception_bytes, resumed_cpu, start_area, start_bytes}
use Rattle.env_frames.specs.Transfer.{entry_area, entry_bytes}
use Rattle.env_frames.specs.declared.post.PostWord.TheVariants as post
use Rattle.env_frames.specs.Post.{post_offset}
use Rattle.external_event.specs.declared.event.Occurrence.{Occurrence}
use Rattle.revocation_book.specs.declared.revocation.Taking.{Taking}
use Rattle.world_model.specs.Item.{Item, Boot, Step, Start, End, Transfer, Killed, Packet, Line, Asked, Taken, absorb, absorb_all, absorbed}
use Rattle.world_model.specs.Page.{KeptPage}
use Rattle.world_model.specs.Post.{post_word, signalled}
use Rattle.world_model.specs.Solo.{Solo, Store, Key, Kept, Physical, bytes_in, kept_after, kept_at, with_store, stored_page}
use Rattle.world_model.specs.Step.{Act, Nothing, Stores, Calls, Raises, Dies, act_at_call, act_of, acted, step_alone, store_act}
use Rattle.world_model.specs.Tick.{phases_after}
use Rattle.world_model.specs.Upcalls.{enter, end_slice, raise, with_context}
use Rattle.world_model.specs.World.{World, Reply, after}
use Rattle.world_model.proofs.Stores.{kept_as_was}
use Rattle.call_verdicts.specs.Granted.{AgainAsks, GrantedMay}
use Rattle.run_model.specs.Run.{System, given_by, happens_in, moment, takings_in, world_after}
use Rattle.run_model.proofs.Phases.{next_moment, of_each, once_more}
use Rattle.sharing_law.specs.Change.{Changes, GuaranteedChange, GuaranteedInTick, HasStore, HasWordsInArea, IsChanged, ItemChange, StepChanges, kept_bytes}
use Rattle.sharing_law.proofs.Contexts.{Rewrites, ask_changes, context_rewrites, rewrites_none, rewrites_or, rewrites_then, take_changes}
use Rattle.sharing_law.proofs.Counting.{packet_counts}
use Rattle.sharing_law.proofs.Given.{IsTold, Led, absorb_or, absorbed_leaves, kept_else, kept_here, told_leaves}
use Rattle.sharing_law.proofs.Giving.{happen_led, settling_led, step_led, taking_led, timer_led, turn_led}
use Rattle.sharing_law.proofs.Moments.{after_tick}
use Rattle.page_laws.proofs.Stores.{stored_writable}

-- words in the context page
abbrev StaysOrHas : Solo → Solo → ℕ → ℕ → List ℕ → Type 0
StaysOrHas s t vpn area words = (kept_bytes t vpn ≡ kept_bytes s vpn) ⊎ HasWordsInArea s t vpn area words

context_kept : (area : ℕ) (words : List ℕ) (s t : Solo) (vpn : ℕ) → t.kept ≡ (with_context area words s).kept → StaysOrHas s t vpn area words
context_kept area words s t vpn same =
    let now = with_context area words s in
    let wrote : List ℕ → List ℕ = λ page. with_bytes page area words in
    let rewrites : Rewrites s t wrote = rewrites_then s now t wrote (λ page. page) (context_rewrites area words s) (rewrites_none now t same) in
    rewrites_or s t wrote rewrites vpn

-- What its own step does to a guaranteed page.
module _ (s : Solo) (vpn : ℕ) where
  abbrev Stays : Solo → Type 0
  Stays t = kept_bytes t vpn ≡ kept_bytes s vpn

  module _ (x : Store) (cpu : Cpu) (acts : act_of s (step_alone s) ≡ Stores x) where
    abbrev writer : Solo
    writer = with_store x (record s { cpu = cpu })

    here : x.key ≡ Kept vpn → HasStore s writer vpn x
    here into =
        let its = stored_writable s x vpn into acts in
        record {
          into = into;
          page = its.page;
          there = its.there;
          writable = its.writable;
          has = ap bytes_in (kept_here s.kept x vpn into ∙ ap (option_map (stored_page x)) its.there) ∙ ap (λ (o : Option KeptPage). with_bytes (bytes_in o) x.offset x.bytes) (sym its.there);
        }

    by_key : (key : Key) → x.key ≡ key → Stays writer ⊎ HasStore s writer vpn x
    by_key (Kept v) is = elim (cases_eq vpn v) [
      | inl same ↦ inr (here (is ∙ ap Kept (sym same)))
      | inr other ↦ inl (ap bytes_in (kept_else s.kept x v vpn is other))
    ]
    by_key (Physical page) is =
        inl (ap (λ kept. bytes_in (kept_at kept vpn)) ((λ k. kept_after s.kept (record { key = is k; offset = x.offset; bytes = x.bytes })) ∙ kept_as_was s.kept page x.offset x.bytes))

  -- an exception finds the registers as they were
  store_raises_not : (o : Option Store) (exc : Exc) → store_act o ≡ Raises exc → ⊥
  store_raises_not None exc is = cc
  store_raises_not (Some x) exc is = cc

  call_raises_not : (exits : Bool) (exc : Exc) → act_at_call s.cpu exits ≡ Raises exc → ⊥
  call_raises_not true exc is = cc
  call_raises_not false exc is = cc

  raise_cpu : (st : MachineStep) (exc : Exc) → act_of s st ≡ Raises exc → cpu_after s.cpu st ≡ s.cpu
  raise_cpu st exc is = grind (arith, common_steps, store_raises_not, call_raises_not)

  by_act : (act : Act) → act_of s (step_alone s) ≡ act → (cpu : Cpu) → cpu_after s.cpu (step_alone s) ≡ cpu → Stays (acted act (record s { cpu = cpu })) ⊎ StepChanges s (acted act (record s { cpu = cpu })) vpn act
  by_act Nothing is cpu after = inl refl
  by_act (Stores x) is cpu after = by_key x cpu is x.key refl
  by_act (Calls call) is cpu after = inl refl
  by_act (Raises exc) is cpu after =
      subst (λ (c : Cpu). StaysOrHas s (raise exc (record s { cpu = c })) vpn exception_area (exception_bytes exc s.cpu)) (sym (raise_cpu (step_alone s) exc is) ∙ after)
      (context_kept exception_area (exception_bytes exc s.cpu) s (raise exc (record s { cpu = s.cpu })) vpn refl)
  by_act (Dies cause) is cpu after = inr refl

  -- A start, where words are left only if it is handled.
  by_start : (none : Bool) → (s.handlers.start == 0) ≡ none
      → let t = (if none then record s { cpu = rested s.cpu } else record (with_context start_area (start_bytes s.cpu) s) { cpu = resumed_cpu s.handlers.start s.cpu }) in Stays t ⊎ Changes s t vpn Start
  by_start true is = inl refl
  by_start false is =
      let t = record (with_context start_area (start_bytes s.cpu) s) { cpu = resumed_cpu s.handlers.start s.cpu } in
      elim (context_kept start_area (start_bytes s.cpu) s t vpn refl) [ inl same ↦ inl same | inr has ↦ inr (eqb-false s.handlers.start 0 is, has) ]

  -- Item by item
  stays_told : (item : Item) → IsTold item → Stays (absorbed s item)
  stays_told item told = ap (λ ps. bytes_in (kept_at ps vpn)) (absorbed_leaves s item told).kept

  by_item : (item : Item) → Stays (absorbed s item) ⊎ Changes s (absorbed s item) vpn item
  by_item (Boot version number name entry accept kept) = inr refl
  by_item Step = by_act (act_of s (step_alone s)) refl (cpu_after s.cpu (step_alone s)) refl
  by_item Start = by_start (s.handlers.start == 0) refl
  by_item End = context_kept end_area (end_bytes s.cpu) s (end_slice s) vpn refl
  by_item (Transfer from kind registers) = context_kept entry_area (entry_bytes from kind s.cpu) s (enter from kind registers s) vpn refl
  by_item Killed = inr refl
  by_item (Packet claim packet) = packet_counts s claim packet vpn
  by_item (Asked outstanding deadline) = ask_changes outstanding deadline s vpn
  by_item (Taken page backup) = take_changes page backup s vpn
  by_item (Line line) = context_kept (post_offset post.Lines) (word_bytes (bit_or (post_word post.Lines s) (2 ^ line))) s (signalled line s) vpn refl
  by_item item = inl (stays_told item tt)

pub item_change : ItemChange
item_change s item vpn = absorb_or (λ t. (kept_bytes t vpn ≡ kept_bytes s vpn) ⊎ Changes s t vpn item) s item (inl refl) (by_item s vpn item)

-- What items of which at most the first changes such pages do to one.
record FirstChanges (s : Solo) (items : List Item) (vpn : ℕ) : Type 0 where
  item : Item
  rest : List Item
  given : items ≡ item ∷ rest
  changes : Changes s (absorb s item) vpn item
  has : kept_bytes (absorb_all s items) vpn ≡ kept_bytes (absorb s item) vpn

led_change : (s : Solo) (items : List Item) (vpn : ℕ) → Led items → (kept_bytes (absorb_all s items) vpn ≡ kept_bytes s vpn) ⊎ FirstChanges s items vpn
led_change s items vpn led = grind (arith, common_steps, told_leaves, item_change)

abbrev GivesLed : (World → Reply) → Type 0
GivesLed phase = (w : World) (e : ℕ) → Led ((phase w).items e)

-- In a phase of a tick
module _ (granted : GrantedMay) (again : AgainAsks) (system : System) (t : ℕ) where
  abbrev happens : List Occurrence
  happens = happens_in system.schedule (world_after system t)

  abbrev taken : List Taking
  taken = takings_in system t

  phase_led : (k : ℕ) (phase : World → Reply) → slice_get (phases_after happens taken) k ≡ Some phase → GivesLed phase
  phase_led k phase is = of_each GivesLed happen_led taking_led settling_led turn_led (step_led granted again) timer_led happens taken k phase is

  abbrev Kept_in : ℕ → ℕ → ℕ → Type 0
  Kept_in k e vpn = (kept_bytes ((moment system t (suc k)).solos e) vpn ≡ kept_bytes ((moment system t k).solos e) vpn) ⊎ IsChanged system t k e vpn

  by_phase : (k e vpn : ℕ) (o : Option (World → Reply)) → slice_get (phases_after happens taken) k ≡ o → Kept_in k e vpn
  by_phase k e vpn None is = inl (ap (λ (v : World). kept_bytes (v.solos e) vpn) (next_moment system t k ∙ ap (once_more (moment system t k)) is))
  by_phase k e vpn (Some phase) is =
      let m = moment system t k in
      let next : moment system t (suc k) ≡ after m (phase m) = next_moment system t k ∙ ap (once_more m) is in
      let bytes = ap (λ (v : World). kept_bytes (v.solos e) vpn) next in
      elim (led_change (m.solos e) ((phase m).items e) vpn (phase_led k phase is m e)) [
        | inl same ↦ inl (bytes ∙ same)
        | inr first ↦ inr (record {
          item = first.item;
          rest = first.rest;
          given = ap (λ (o : Option (World → Reply)). given_by m o e) is ∙ first.given;
          changes = first.changes;
          has = bytes ∙ first.has;
        })
      ]

  pub phase_change : (k e vpn : ℕ) → Kept_in k e vpn
  phase_change k e vpn = by_phase k e vpn (slice_get (phases_after happens taken) k) refl

  -- and so in the tick
  abbrev KeptSince : ℕ → ℕ → World → Type 0
  KeptSince e vpn v = (kept_bytes (v.solos e) vpn ≡ kept_bytes ((world_after system t).solos e) vpn) ⊎ ((k : ℕ) × IsChanged system t k e vpn)

  kept_since : (n e vpn : ℕ) → KeptSince e vpn (moment system t n)
  kept_since zero e vpn = inl refl
  kept_since (suc n) e vpn = grind (arith, common_steps, phase_change, (kept_since n e vpn))

pub guaranteed_change : GrantedMay → AgainAsks → GuaranteedChange
guaranteed_change granted again system t k e vpn = phase_change granted again system t k e vpn

pub guaranteed_in_tick : GrantedMay → AgainAsks → GuaranteedInTick
guaranteed_in_tick granted again system t e vpn = after_tick system t (KeptSince granted again system t e vpn) (λ n. kept_since granted again system t n e vpn)
