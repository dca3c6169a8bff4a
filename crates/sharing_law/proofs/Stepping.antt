-- The phase of a tick in which the runner makes its step.
use Rattle.std.proofs.Common.{◌≡◌, ◌≢◌, ℕ, List, [], ◌∷◌, ◌++◌, Option, Some, refl, sym, ◌∙◌, ap, subst}
use Rattle.mips_exec.specs.Step.{cpu_after}
use Rattle.world_model.specs.declared.call.Call.{Call}
use Rattle.world_model.specs.declared.life.Life.{Life}
use Rattle.world_model.specs.declared.life.Life.TheVariants.{Live, Dead}
use Rattle.world_model.specs.declared.life.Cause.{Cause}
use Rattle.world_model.specs.declared.verdict.Verdict.{Verdict}
use Rattle.world_model.specs.declared.verdict.Verdict.TheVariants.{Refuse, Again, Grant}
use Rattle.world_model.specs.Book.{running}
use Rattle.world_model.specs.Item.{Item, Step, Answer, absorb_all, with_answer, answered_cpu, deed_at}
use Rattle.world_model.specs.PageCalls.{page_bytes}
use Rattle.world_model.specs.Solo.{Solo}
use Rattle.world_model.specs.Step.{Act, Nothing, Stores, Calls, Raises, Dies, acted, step_alone}
use Rattle.world_model.specs.Tick as tick
use Rattle.world_model.specs.Tick.{act_now}
use Rattle.world_model.specs.Verdict.{asks_one, done, reply_by_verdict, reply_to, verdict}
use Rattle.world_model.specs.World.{World, Reply, after, followed, in_turn, no_items, tells}
use Rattle.call_verdicts.specs.Granted.{AgainAsks, GrantedMay}
use Rattle.run_model.specs.Acting.{Acts}
use Rattle.run_model.proofs.Phases.{in_turn_is_each}
use Rattle.run_model.proofs.Telling.{call_does, call_named, call_stands, deed_may, told_other, told_own}
use Rattle.page_laws.specs.Sight.{Sees}
use Rattle.page_laws.proofs.Tables.{set_here, set_else}
use Rattle.page_laws.proofs.Sights.{HasNone}
use Rattle.sharing_law.specs.Agreement.{AreBoundAllocated}
use Rattle.sharing_law.proofs.Choices.{for_each}
use Rattle.sharing_law.proofs.Given.{Gives, Tells, absorbs, dead_absorbs, gives_life, told_death}
use Rattle.sharing_law.proofs.Giving.{ask_gives, deed_gives, store_gives}
use Rattle.sharing_law.proofs.Sound.{Sound, agreed, still_nothing}
use Rattle.sharing_law.proofs.Brings.{Brings, Fortune, GoesOn, Ends, death_brings, silent, store_brings}
use Rattle.sharing_law.proofs.Calling.{ask_brings, deed_brings}
use Rattle.sharing_law.proofs.Claimed.{AreRings, Claimed}
use Rattle.sharing_law.proofs.Claiming.{Claiming, ask_claims, deed_claims, death_claims, store_claims, steady}

-- A world follows on another, in which the runner came to this, whatever it was given in between.
pub record Follows (w : World) (e : ℕ) (s : Solo) (now : World) (items : ℕ → List Item) : Type 0 where
  pub brings : Brings w e s now.book items
  pub claims : Claiming w e s now.book items
  pub own : now.solos e ≡ absorb_all s (items e)
  pub others : (i : ℕ) → i ≢ e → now.solos i ≡ absorb_all (w.solos i) (items i)
  pub gives : (i : ℕ) → Gives e i (items i)

pub record Stepped (w : World) (e : ℕ) (now : World) : Type 0 where
  pub came_to : Solo
  pub items : ℕ → List Item
  pub follows : Follows w e came_to now items

-- So does the world after the runner's step.
module _ (granted : GrantedMay) (again : AgainAsks) (w : World) (e : ℕ) (sound : Sound w) (allocated : AreBoundAllocated w) (claimed : Claimed w) (lives : (w.solos e).life ≡ Live) (runs : running w.book.runner ≡ Some e) where
  -- a call that is refused
  refused_follows : (v : Verdict) → (with_answer v (w.solos e)).life ≡ Live → (with_answer v (w.solos e)).binds ≡ (w.solos e).binds → (with_answer v (w.solos e)).seen ≡ (w.solos e).seen → (with_answer v (w.solos e)).rings ≡ (w.solos e).rings → Stepped w e (after w (tells e (Answer v) w))
  refused_follows v alive binds sights rings = record {
    came_to = with_answer v (w.solos e);
    items = no_items;
    follows = record {
      brings = silent w e sound lives (with_answer v (w.solos e)) alive binds sights;
      claims = steady w e claimed (with_answer v (w.solos e)) w.book no_items rings (λ i s. refl);
      own = ap (absorb_all (w.solos e)) (set_here e (Answer v ∷ []) no_items) ∙ absorbs (w.solos e) (Answer v) [] lives;
      others = λ i ne. ap (absorb_all (w.solos i)) (set_else e i (Answer v ∷ []) no_items ne);
      gives = λ i. Tells tt;
    };
  }

  -- what follows on an answer
  answered_follows : (v : Verdict) (r : Reply) → Brings w e (with_answer v (w.solos e)) r.book r.items → Claiming w e (with_answer v (w.solos e)) r.book r.items → ((i : ℕ) → Gives e i (r.items i))
      → Stepped w e (after w (followed (tells e (Answer v) w) r))
  answered_follows v r brings claims gives = record {
    came_to = with_answer v (w.solos e);
    items = r.items;
    follows = record {
      brings = brings;
      claims = claims;
      own = ap (λ (its : List Item). absorb_all (w.solos e) (its ++ r.items e)) (set_here e (Answer v ∷ []) no_items) ∙ absorbs (w.solos e) (Answer v) (r.items e) lives;
      others = λ i ne. ap (λ (its : List Item). absorb_all (w.solos i) (its ++ r.items i)) (set_else e i (Answer v ∷ []) no_items ne);
      gives = gives;
    };
  }

  call_follows : (c : Option Call) → Acts w e (Calls c) → Stepped w e (after w (reply_to w e c))
  call_follows c acts = by_verdict (verdict w e c) refl
    where
      by_verdict : (v : Verdict) → verdict w e c ≡ v → Stepped w e (after w (reply_by_verdict w e v))
      by_verdict (Refuse code value) is = refused_follows (Refuse code value) lives refl refl refl
      by_verdict (Again who) is =
          let s = with_answer (Again who) (w.solos e) in
          let other = λ (same : e ≡ who). (again w e c who is).another (sym same) in
          answered_follows (Again who) (asks_one who w) (ask_brings w e sound lives allocated s.cpu s lives refl refl who other) (ask_claims w e claimed s refl who) (ask_gives w e who other)
      by_verdict (Grant value) is =
          let d = deed_at (w.solos e) value in
          let may = deed_may granted w e c (call_named w e c acts.comes) value is in
          let cpu = answered_cpu (Grant value) (w.solos e).cpu in
          answered_follows (Grant value) (done w e d) (deed_brings w e sound lives allocated cpu d (call_does w e c acts value is) may) (deed_claims w e claimed lives cpu d may) (deed_gives w e d may)

  -- the world once the step is made
  abbrev told : World
  told = after w (tells e Step w)

  abbrev after_act : Act → Solo
  after_act act = acted act (record (w.solos e) { cpu = cpu_after (w.solos e).cpu (step_alone (w.solos e)) })

  told_follows : (act : Act) → act_now w e ≡ act → (r : Reply) → Brings w e (after_act act) r.book r.items → Claiming w e (after_act act) r.book r.items → ((i : ℕ) → Gives e i (r.items i)) → Stepped w e (after told r)
  told_follows act is r brings claims gives = record {
    came_to = after_act act;
    items = r.items;
    follows = record {
      brings = brings;
      claims = claims;
      own = ap (λ (s : Solo). absorb_all s (r.items e)) (told_own w e Step ∙ absorbs (w.solos e) Step [] lives ∙ ap (λ (a : Act). acted a (record (w.solos e) { cpu = cpu_after (w.solos e).cpu (step_alone (w.solos e)) })) is);
      others = λ i ne. ap (λ (s : Solo). absorb_all s (r.items i)) (told_other w e Step i ne);
      gives = gives;
    };
  }

  act_follows : (act : Act) → act_now w e ≡ act → Stepped w e (after told (tick.act_reply e act told))
  act_follows Nothing is = told_follows Nothing is (tick.act_reply e Nothing told) (silent w e sound lives (after_act Nothing) lives refl refl) (steady w e claimed (after_act Nothing) w.book no_items refl (λ i s. refl)) (λ i. Tells tt)
  act_follows (Stores x) is =
      told_follows (Stores x) is (tick.act_reply e (Stores x) told) (store_brings w e sound lives (cpu_after (w.solos e).cpu (step_alone (w.solos e))) x (record { runs = runs; comes = is })) (store_claims w e claimed (after_act (Stores x)) x refl) (store_gives w e x)
  act_follows (Calls c) is = subst (λ (v : World). Stepped w e (after v (tick.act_reply e (Calls c) v))) (sym (call_stands w e c is)) (call_follows c (record { runs = runs; comes = is }))
  act_follows (Raises exc) is = told_follows (Raises exc) is (tick.act_reply e (Raises exc) told) (silent w e sound lives (after_act (Raises exc)) lives refl refl) (steady w e claimed (after_act (Raises exc)) w.book no_items refl (λ i s. refl)) (λ i. Tells tt)
  act_follows (Dies cause) is =
      told_follows (Dies cause) is (tick.act_reply e (Dies cause) told) (death_brings w e sound lives (cpu_after (w.solos e).cpu (step_alone (w.solos e))) cause) (death_claims w e claimed (cpu_after (w.solos e).cpu (step_alone (w.solos e))) cause) (λ i. Tells (told_death w.book e i))

  pub step_follows : Stepped w e (after w (in_turn (tells e Step ∷ tick.act_reply e (act_now w e) ∷ []) w))
  step_follows = subst (Stepped w e) (sym (in_turn_is_each w (tells e Step ∷ tick.act_reply e (act_now w e) ∷ []))) (act_follows (act_now w e) refl)

module _ (w : World) (e : ℕ) (s : Solo) (now : World) (items : ℕ → List Item) (sound : Sound w) (follows : Follows w e s now items) where
  abbrev brings : Brings w e s now.book items
  brings = follows.brings

  -- lives are what became of them
  pub own_life : (now.solos e).life ≡ s.life
  own_life = ap (λ (t : Solo). t.life) follows.own ∙ gives_life e e (items e) (follows.gives e) s

  pub other_life : (i : ℕ) → i ≢ e → (now.solos i).life ≡ (w.solos i).life
  other_life i ne = ap (λ (t : Solo). t.life) (follows.others i ne) ∙ gives_life e i (items i) (follows.gives i) (w.solos i)

  -- what each environment sees
  other_sees : (i : ℕ) → i ≢ e → Sees i now.book.pages (now.book.binds i) brings.bytes (now.solos i)
  other_sees i ne = subst (λ t. Sees i now.book.pages (now.book.binds i) brings.bytes t) (sym (follows.others i ne)) (by_life (w.solos i).life refl)
    where
      by_life : (life : Life) → (w.solos i).life ≡ life → Sees i now.book.pages (now.book.binds i) brings.bytes (absorb_all (w.solos i) (items i))
      by_life Live is = brings.others i ne is
      by_life (Dead cause) is =
          let before = sound.none i cause is in
          subst (λ t. Sees i now.book.pages (now.book.binds i) brings.bytes t) (sym (dead_absorbs (w.solos i) cause (items i) is))
          (still_nothing i w.book.pages now.book.pages (w.book.binds i) (now.book.binds i) (page_bytes w) brings.bytes (w.solos i) before (brings.none i ne before) (sound.agreed i))

  pub all_see : (i : ℕ) → Sees i now.book.pages (now.book.binds i) brings.bytes (now.solos i)
  all_see =
      for_each (λ i. Sees i now.book.pages (now.book.binds i) brings.bytes (now.solos i)) e
      (subst (λ t. Sees e now.book.pages (now.book.binds e) brings.bytes t) (sym follows.own) brings.own) other_sees

  other_none : (i : ℕ) → i ≢ e → (cause : Cause) → (now.solos i).life ≡ Dead cause → HasNone i now.book.pages (now.book.binds i)
  other_none i ne cause died = brings.none i ne (sound.none i cause (sym (other_life i ne) ∙ died))

  -- who isn't alive has nothing in the book
  own_none : Fortune e s now.book → (cause : Cause) → (now.solos e).life ≡ Dead cause → HasNone e now.book.pages (now.book.binds e)
  own_none (GoesOn alive) cause died = let clash : Live ≡ Dead cause = sym alive ∙ sym own_life ∙ died in cc
  own_none (Ends nothing) cause died = nothing

  pub sound_following : AreBoundAllocated now → Sound now
  sound_following allocated = record {
    agreed = agreed now brings.bytes all_see allocated;
    none = for_each (λ i. (cause : Cause) → (now.solos i).life ≡ Dead cause → HasNone i now.book.pages (now.book.binds i)) e (own_none brings.fortune) other_none;
    stripes = brings.stripes;
    behind = brings.behind;
  }

  -- and its claims
  pub claimed_following : Claimed now
  claimed_following = record {
    rings =
        for_each (λ i. AreRings i now.book.claims (now.solos i).rings) e (subst (λ (t : Solo). AreRings e now.book.claims t.rings) (sym follows.own) follows.claims.own)
        (λ i ne. subst (λ (t : Solo). AreRings i now.book.claims t.rings) (sym (follows.others i ne)) (follows.claims.others i ne));
    good = follows.claims.good;
  }
