-- The book's guaranteed mappings are the environments' guaranteed pages, at each moment.
use Rattle.std.proofs.Common.{◌≡◌, ◌≢◌, ℕ, zero, suc, List, [], ◌∷◌, ◌++◌, map, take, Bool, true, Option, Some, None, inl, inr, refl, sym, ◌∙◌, ap, subst, arith}
use Rattle.std.proofs.lemmas.Grind.{common_steps}
use Rattle.std.specs.Prelude.{◌⊎◌, ◌==◌, slice_get, if◌then◌else◌}
use Rattle.std.proofs.lemmas.Bool.{cases_eq, eq-eqb, eqb-true, ne_eqb}
use Rattle.env_frames.specs.declared.mapping.Mapping.{Mapping}
use Rattle.external_event.specs.declared.event.Occurrence.{Occurrence}
use Rattle.external_event.specs.declared.event.Occurrence.TheVariants as outside
use Rattle.filter_tree.specs.ClaimBook.{ClaimValue}
use Rattle.page_book.specs.declared.row.PageRow.{PageRow}
use Rattle.page_book.specs.declared.row.PageRow.TheVariants.{Free, Guaranteed}
use Rattle.page_book.specs.Row.{is_owned_by, released}
use Rattle.revocation_book.specs.declared.revocation.Taking.{Taking}
use Rattle.revocation_book.specs.Takings.{AreTakable, TakingsAreTakable}
use Rattle.world_model.specs.declared.call.Call.{Call}
use Rattle.world_model.specs.declared.call.Deed.{Deed}
use Rattle.world_model.specs.declared.life.Cause.{Cause}
use Rattle.world_model.specs.declared.life.Life.TheVariants.{Live, Dead}
use Rattle.world_model.specs.declared.slot.Runner.{Runner}
use Rattle.world_model.specs.declared.verdict.Verdict.{Verdict}
use Rattle.world_model.specs.declared.verdict.Verdict.TheVariants.{Refuse, Again, Grant}
use Rattle.world_model.specs.Book.{Book}
use Rattle.world_model.specs.ClaimCalls.{claim_of}
use Rattle.world_model.specs.Deadlines.{copy_left, settles, takes}
use Rattle.world_model.specs.Death.{death, death_items, lost_with}
use Rattle.world_model.specs.Event.{arrives, happen, ring_bytes, ring_left}
use Rattle.world_model.specs.Item.{Item, Step, Killed, Packet, Taken, absorb_all, deed_at}
use Rattle.world_model.specs.May.{May}
use Rattle.mips_exec.specs.Step.{cpu_after}
use Rattle.world_model.specs.PageCalls.{lost_bindings, left_by, revocations}
use Rattle.world_model.specs.Rings.{ring_of}
use Rattle.world_model.specs.Solo.{Solo}
use Rattle.world_model.specs.Step.{Act, Nothing, Stores, Calls, Raises, Dies, acted, step_alone}
use Rattle.world_model.specs.Table.{set_at}
use Rattle.world_model.specs.Tick.{act_now, act_reply, phases_after, step, step_when, tick_phases, timer, turn}
use Rattle.world_model.specs.Verdict.{done, reply_by_verdict, reply_to, verdict}
use Rattle.world_model.specs.World.{World, Reply, after, no_items, run_phases, tells}
use Rattle.call_verdicts.specs.Granted.{AgainAsks, GrantedMay}
use Rattle.run_model.specs.Excess.{IsAccounted}
use Rattle.run_model.specs.Licensed.{GivenIsLicensed, MayTaking}
use Rattle.run_model.specs.Run.{System, given_by, happens_in, moment, next_phases, takings_in, world_after}
use Rattle.run_model.proofs.Lives.{Keeps, breaks_keep, copy_left_keeps, keep_both, keep_if, keep_none, keep_packet, keep_set, keep_taken, left_by_keeps, lost_with_keeps, ring_left_keeps}
use Rattle.run_model.proofs.Phases.{in_turn_is_each, next_moment, once_more}
use Rattle.run_model.proofs.Replies.{call_is_mild, step_leaves}
use Rattle.run_model.proofs.Telling.{call_named, call_stands, deed_may, told_other, told_own}
use Rattle.page_laws.proofs.Tables.{set_here, set_else}
use Rattle.sharing_law.specs.Kept.{mapping_place, page_place}
use Rattle.sharing_law.proofs.Agreeing.{all_fine, moment_fine}
use Rattle.sharing_law.proofs.Asking.{asking_or}
use Rattle.sharing_law.proofs.Given.{absorbs}
use Rattle.sharing_law.proofs.Happening.{happen_lists, revoked_alike, signalled_alike}
use Rattle.sharing_law.proofs.Later.{AreLater, given_later}
use Rattle.sharing_law.proofs.Listing.{settled_alike}
use Rattle.sharing_law.proofs.Moments.{each_moment, taken_may}
use Rattle.sharing_law.proofs.Places.{Turns, Stays, Ends, all_turns, no_pages, places}
use Rattle.sharing_law.proofs.Timing.{Comes, Died, IsKilled, Passed, timer_comes}
use Rattle.sharing_law.proofs.Turning.{IsAlike, ListsSame, turn_alike}

-- What is kept: the mappings are the pages, one by one; the dead have none; each leads to a page that is guaranteed, and to one of its own.
pub record Mapped (w : World) : Type 0 where
  pub places : (e : ℕ) → map mapping_place (w.book.kept e) ≡ places (w.solos e)
  pub bare : (e : ℕ) (cause : Cause) → (w.solos e).life ≡ Dead cause → (w.solos e).kept ≡ []
  pub rows : (e j : ℕ) (m : Mapping) → slice_get (w.book.kept e) j ≡ Some m → w.book.pages m.page ≡ Guaranteed e
  pub once : (e j k : ℕ) (m n : Mapping) → slice_get (w.book.kept e) j ≡ Some m → slice_get (w.book.kept e) k ≡ Some n → m.page ≡ n.page → j ≡ k

-- What becomes of an environment: it has the mappings and the life that it had, or none of them any more.
record KeepsAll (w v : World) (e : ℕ) : Type 0 where
  kept : v.book.kept e ≡ w.book.kept e
  rows : (page : ℕ) → w.book.pages page ≡ Guaranteed e → v.book.pages page ≡ Guaranteed e
  life : (v.solos e).life ≡ (w.solos e).life

record LosesAll (v : World) (e : ℕ) : Type 0 where
  kept : v.book.kept e ≡ []
  bare : (v.solos e).kept ≡ []

abbrev Becomes : World → World → ℕ → Type 0
Becomes w v e = KeepsAll w v e ⊎ LosesAll v e

module _ (w v : World) (mapped : Mapped w) (turns : (e : ℕ) → Turns (w.solos e) (v.solos e)) (becomes : (e : ℕ) → Becomes w v e) where
  places_by : (e : ℕ) → Turns (w.solos e) (v.solos e) → Becomes w v e → map mapping_place (v.book.kept e) ≡ places (v.solos e)
  places_by e turns (inr goes) = ap (map mapping_place) goes.kept ∙ sym (ap (map page_place) goes.bare)
  places_by e (Stays same) (inl on) = ap (map mapping_place) on.kept ∙ mapped.places e ∙ sym same.places
  places_by e (Ends cause died none) (inl on) =
      ap (map mapping_place) on.kept ∙ mapped.places e ∙ ap (map page_place) (mapped.bare e cause (sym on.life ∙ died)) ∙ sym (ap (map page_place) none)

  bare_by : (e : ℕ) → Turns (w.solos e) (v.solos e) → Becomes w v e → (cause : Cause) → (v.solos e).life ≡ Dead cause → (v.solos e).kept ≡ []
  bare_by e turns (inr goes) cause died = goes.bare
  bare_by e (Stays same) (inl on) cause died = no_pages (v.solos e).kept (same.places ∙ ap (map page_place) (mapped.bare e cause (sym same.life ∙ died)))
  bare_by e (Ends why dies none) (inl on) cause died = none

  rows_by : (e : ℕ) → Becomes w v e → (j : ℕ) (m : Mapping) → slice_get (v.book.kept e) j ≡ Some m → v.book.pages m.page ≡ Guaranteed e
  rows_by e (inl on) j m is = on.rows m.page (mapped.rows e j m (ap (λ ms. slice_get ms j) (sym on.kept) ∙ is))
  rows_by e (inr goes) j m is = let never : slice_get {X = Mapping} [] j ≡ Some m = ap (λ ms. slice_get ms j) (sym goes.kept) ∙ is in cc

  once_by : (e : ℕ) → Becomes w v e → (j k : ℕ) (m n : Mapping) → slice_get (v.book.kept e) j ≡ Some m → slice_get (v.book.kept e) k ≡ Some n → m.page ≡ n.page → j ≡ k
  once_by e (inl on) j k m n is there same = mapped.once e j k m n (ap (λ ms. slice_get ms j) (sym on.kept) ∙ is) (ap (λ ms. slice_get ms k) (sym on.kept) ∙ there) same
  once_by e (inr goes) j k m n is there same = let never : slice_get {X = Mapping} [] j ≡ Some m = ap (λ ms. slice_get ms j) (sym goes.kept) ∙ is in cc

  mapped_by : Mapped v
  mapped_by = record {
    places = λ e. places_by e (turns e) (becomes e);
    bare = λ e. bare_by e (turns e) (becomes e);
    rows = λ e. rows_by e (becomes e);
    once = λ e. once_by e (becomes e);
  }

-- the same lists and lives
lists_go_on : (w v : World) → ListsSame w.book v.book → (e : ℕ) → (v.solos e).life ≡ (w.solos e).life → Becomes w v e
lists_go_on w v same e life = inl (record { kept = λ k. same.kept k e; rows = λ page is. (λ k. same.pages k page) ∙ is; life = life })

alike_goes_on : (w v : World) → IsAlike w v → (e : ℕ) → Becomes w v e
alike_goes_on w v alike e = lists_go_on w v alike.lists e (alike.solos e).life

-- what happens from outside
packet_keeps : (packet : List ℕ) (claim : Option ClaimValue) (w : World) (e : ℕ) → Keeps ((arrives packet claim w).items e)
packet_keeps packet None w e = keep_none
packet_keeps packet (Some c) w e =
    let bytes = let s = w.solos c.env in ring_bytes s (ring_of s.rings c.id) packet in
    keep_set c.env (Packet c.id packet ∷ []) (ring_left w.book c.env c.page bytes) (keep_packet c.id packet) (ring_left_keeps w.book c.env c.page bytes) e

event_becomes : (what : Occurrence) (w : World) (e : ℕ) → Becomes w (after w (happen what w)) e
event_becomes (outside.Packet packet) w e =
    let what = outside.Packet packet in
    lists_go_on w (after w (happen what w)) (happen_lists what w) e (packet_keeps packet (claim_of w.book packet) w e (w.solos e))
event_becomes (outside.Line line) w e = alike_goes_on w (after w (happen (outside.Line line) w)) (signalled_alike line w) e
event_becomes (outside.Revoke env count grace) w e =
    alike_goes_on w (after w (happen (outside.Revoke env count grace) w)) (revoked_alike env count grace w) e

-- a page that is owned is not guaranteed
other_page : (pages : ℕ → PageRow) (x page p e : ℕ) (row : PageRow) → is_owned_by x (pages page) ≡ true → pages p ≡ Guaranteed e → set_at page row pages p ≡ Guaranteed e
other_page pages x page p e row owned is = grind (arith, common_steps, eqb-true)

free_page : (pages : ℕ → PageRow) (page p e : ℕ) (row : PageRow) → pages page ≡ Free → pages p ≡ Guaranteed e → set_at page row pages p ≡ Guaranteed e
free_page pages page p e row free is = grind (arith, common_steps, eqb-true)

taking_becomes : (x : Taking) (w : World) → MayTaking w x → (e : ℕ) → Becomes w (after w (takes x w)) e
taking_becomes x w may e = inl (record {
  kept = refl;
  rows = λ page is. other_page w.book.pages x.env x.page page e Free may.owned is;
  life = keep_set x.env (Taken x.page x.backup ∷ []) (λ i. copy_left w x x.backup i ++ lost_bindings w.book x.page i) (keep_taken x.page x.backup)
      (λ i. keep_both (copy_left w x x.backup i) (lost_bindings w.book x.page i) (copy_left_keeps w x x.backup i) (breaks_keep w.book x.page i)) e (w.solos e);
})

-- a death
still_guaranteed : (gone e : ℕ) (row : PageRow) → e ≢ gone → row ≡ Guaranteed e → released gone row ≡ Guaranteed e
still_guaranteed gone e row other is = grind (arith, common_steps, ne_eqb)

death_keeps : (b : Book) (gone i : ℕ) → Keeps (death_items b gone i)
death_keeps b gone i = keep_if (i == gone) [] (lost_with b gone i b.page_count) keep_none (lost_with_keeps b gone i b.page_count)

-- the deeds of a call
deed_kept : (w : World) (x : ℕ) (d : Deed) → (done w x d).book.kept ≡ w.book.kept
deed_kept w x d = grind (arith, common_steps)

deed_rows : (w : World) (x : ℕ) (d : Deed) → May w x d → (e page : ℕ) → w.book.pages page ≡ Guaranteed e → (done w x d).book.pages page ≡ Guaranteed e
deed_rows w x d may e page is = grind (arith, common_steps, other_page, free_page)

module _ (granted : GrantedMay) (w : World) (x : ℕ) (accounted : IsAccounted w) (lives : (w.solos x).life ≡ Live) where
  reply_kept : (v : Verdict) → (reply_by_verdict w x v).book.kept ≡ w.book.kept
  reply_kept (Refuse code value) = refl
  reply_kept (Again who) = asking_or (λ (r : Reply). r.book.kept ≡ w.book.kept) w who refl (λ p. refl)
  reply_kept (Grant value) = deed_kept w x (deed_at (w.solos x) value)

  reply_rows : (c : Option Call) → act_now w x ≡ Calls c → (v : Verdict) → verdict w x c ≡ v → (e page : ℕ) → w.book.pages page ≡ Guaranteed e → (reply_by_verdict w x v).book.pages page ≡ Guaranteed e
  reply_rows c is (Refuse code value) says e page row = row
  reply_rows c is (Again who) says e page row = asking_or (λ (r : Reply). r.book.pages page ≡ Guaranteed e) w who row (λ p. row)
  reply_rows c is (Grant value) says e page row = deed_rows w x (deed_at (w.solos x) value) (deed_may granted w x c (call_named w x c is) value says) e page row

  call_becomes : (c : Option Call) → act_now w x ≡ Calls c → (e : ℕ) → Becomes w (after w (reply_to w x c)) e
  call_becomes c is e = inl (record {
    kept = λ k. reply_kept (verdict w x c) k e;
    rows = reply_rows c is (verdict w x c) refl e;
    life = (call_is_mild w x accounted lives granted c (call_named w x c is)).keeps e (w.solos e);
  })

  -- the world once the step is made
  abbrev made : World
  made = after w (tells x Step w)

  made_life : (act : Act) → act_now w x ≡ act → ((cause : Cause) → act ≡ Dies cause → ⊥) → (e : ℕ) → (made.solos e).life ≡ (w.solos e).life
  made_life act is stays e = elim (cases_eq e x) [
    | inl same ↦ subst (λ (n : ℕ). (made.solos n).life ≡ (w.solos n).life) (sym same) (ap (λ (s : Solo). s.life) (told_own w x Step) ∙ step_leaves (w.solos x) act is stays)
    | inr other ↦ ap (λ (s : Solo). s.life) (told_other w x Step e other)
  ]

  plain_becomes : (act : Act) → act_now w x ≡ act → ((cause : Cause) → act ≡ Dies cause → ⊥) → (items : ℕ → List Item) → ((e : ℕ) → Keeps (items e)) → (e : ℕ)
      → Becomes w (after made (record { book = made.book; items = items; rows = [] })) e
  plain_becomes act is stays items keeps e = inl (record { kept = refl; rows = λ page row. row; life = keeps e (made.solos e) ∙ made_life act is stays e })

  -- who dies is dead, and has no pages
  corpse_bare : (cause : Cause) → act_now w x ≡ Dies cause → ((after made (death made x)).solos x).kept ≡ []
  corpse_bare cause is =
      let s : Solo = record (w.solos x) { cpu = cpu_after (w.solos x).cpu (step_alone (w.solos x)) } in
      let died : made.solos x ≡ acted (Dies cause) s = told_own w x Step ∙ absorbs (w.solos x) Step [] lives ∙ ap (λ (act : Act). acted act s) is in
      ap (λ (own : Bool). (absorb_all (made.solos x) (if own then [] else lost_with made.book x x made.book.page_count)).kept) (eq-eqb x x refl)
      ∙ ap (λ (s : Solo). s.kept) died

  death_becomes : (cause : Cause) → act_now w x ≡ Dies cause → (e : ℕ) → Becomes w (after made (death made x)) e
  death_becomes cause is e = elim (cases_eq e x) [
    | inl same ↦ subst (Becomes w (after made (death made x))) (sym same) (inr (record { kept = set_here x [] w.book.kept; bare = corpse_bare cause is }))
    | inr other ↦ inl (record {
      kept = set_else x e [] w.book.kept other;
      rows = λ page row. still_guaranteed x e (w.book.pages page) other row;
      life = death_keeps made.book x e (made.solos e) ∙ ap (λ (s : Solo). s.life) (told_other w x Step e other);
    })
  ]

  act_becomes : (act : Act) → act_now w x ≡ act → (e : ℕ) → Becomes w (after made (act_reply x act made)) e
  act_becomes Nothing is e = plain_becomes Nothing is (λ cause dies. cc) no_items (λ e. keep_none) e
  act_becomes (Stores store) is e = plain_becomes (Stores store) is (λ cause dies. cc) (left_by made.book x store) (left_by_keeps made.book x store) e
  act_becomes (Calls c) is e = subst (λ (v : World). Becomes w (after v (act_reply x (Calls c) v)) e) (sym (call_stands w x c is)) (call_becomes c is e)
  act_becomes (Raises exc) is e = plain_becomes (Raises exc) is (λ cause dies. cc) no_items (λ e. keep_none) e
  act_becomes (Dies cause) is e = death_becomes cause is e

step_becomes : GrantedMay → (w : World) → IsAccounted w → (o : Option Runner) → w.book.runner ≡ o → (e : ℕ) → Becomes w (after w (step_when w o)) e
step_becomes granted w accounted None runs e = inl (record { kept = refl; rows = λ page row. row; life = refl })
step_becomes granted w accounted (Some r) runs e =
    let act = act_now w r.env in
    subst (λ (v : World). Becomes w v e) (sym (in_turn_is_each w (tells r.env Step ∷ act_reply r.env act ∷ []))) (act_becomes granted w r.env accounted (accounted.runner_lives r runs) act refl e)

-- the timer
module _ (w : World) (accounted : IsAccounted w) (r : Reply) where
  killed_becomes : (x : Runner) → w.book.runner ≡ Some x → IsKilled w x.env r → (e : ℕ) → Becomes w (after w r) e
  killed_becomes x runs killed e = elim (cases_eq e x.env) [
    | inl same ↦ subst (Becomes w (after w r)) (sym same) (inr (record {
      kept = ap (λ (b : Book). b.kept x.env) killed.book ∙ set_here x.env [] w.book.kept;
      bare = ap (λ (s : Solo). s.kept) (killed.own ∙ absorbs (w.solos x.env) Killed [] (accounted.runner_lives x runs));
    }))
    | inr other ↦ inl (record {
      kept = ap (λ (b : Book). b.kept e) killed.book ∙ set_else x.env e [] w.book.kept other;
      rows = λ page row. ap (λ (b : Book). b.pages page) killed.book ∙ still_guaranteed x.env e (w.book.pages page) other row;
      life = ap (λ (s : Solo). s.life) (killed.others e other) ∙ death_keeps w.book x.env e (w.solos e);
    })
  ]

  timed_becomes : Comes w r → (e : ℕ) → Becomes w (after w r) e
  timed_becomes (Passed alike) e = alike_goes_on w (after w r) alike e
  timed_becomes (Died x runs killed) e = killed_becomes x runs killed e

-- Phase by phase.
abbrev BecomesSo : (World → Reply) → World → Type 0
BecomesSo phase w = (e : ℕ) → Becomes w (after w (phase w)) e

its_so : (w : World) (p phase : World → Reply) → BecomesSo p w → Some p ≡ Some phase → BecomesSo phase w
its_so w p phase its same = let is : p ≡ phase = cc in subst (λ (q : World → Reply). BecomesSo q w) is its

module _ (granted : GrantedMay) (again : AgainAsks) where
  behind_becomes : (xs : List Taking) (w : World) → AreTakable (revocations w.book) w.book.time xs → (k : ℕ) (phase : World → Reply) → slice_get (tick_phases xs) k ≡ Some phase
      → (let m = run_phases w (take k (tick_phases xs)) in IsAccounted m → BecomesSo phase m)
  behind_becomes [] w may zero phase is accounted = its_so w settles phase (alike_goes_on w (after w (settles w)) (settled_alike w)) is
  behind_becomes [] w may (suc zero) phase is accounted =
      let v = after w (settles w) in its_so v turn phase (alike_goes_on v (after v (turn v)) (turn_alike v)) is
  behind_becomes [] w may (suc (suc zero)) phase is accounted =
      let v = after w (settles w) in
      let m = after v (turn v) in
      its_so m step phase (step_becomes granted m accounted m.book.runner refl) is
  behind_becomes [] w may (suc (suc (suc zero))) phase is accounted =
      let v = after w (settles w) in
      let u = after v (turn v) in
      let m = after u (step u) in
      its_so m timer phase (timed_becomes m accounted (timer m) (timer_comes m)) is
  behind_becomes [] w may (suc (suc (suc (suc k)))) phase is accounted = cc
  behind_becomes (x ∷ xs) w (may, rest) zero phase is accounted = its_so w (takes x) phase (taking_becomes x w may) is
  behind_becomes (x ∷ xs) w (may, rest) (suc k) phase is accounted = behind_becomes xs (after w (takes x w)) rest k phase is accounted

  phase_becomes : (happens : List Occurrence) (xs : List Taking) (w : World) → (let v = run_phases w (map happen happens) in AreTakable (revocations v.book) v.book.time xs)
      → (k : ℕ) (phase : World → Reply) → slice_get (phases_after happens xs) k ≡ Some phase → (let m = run_phases w (take k (phases_after happens xs)) in IsAccounted m → BecomesSo phase m)
  phase_becomes [] xs w may k phase is accounted = behind_becomes xs w may k phase is accounted
  phase_becomes (what ∷ happens) xs w may zero phase is accounted = its_so w (happen what) phase (event_becomes what w) is
  phase_becomes (what ∷ happens) xs w may (suc k) phase is accounted = phase_becomes happens xs (after w (happen what w)) may k phase is accounted

  module _ (takable : TakingsAreTakable) (licensed : GivenIsLicensed) (system : System) where
    next_mapped : (t k : ℕ) → Mapped (moment system t k) → Mapped (moment system t (suc k))
    next_mapped t k mapped = by_phase (slice_get (next_phases system.schedule (world_after system t)) k) refl
      where
        by_phase : (o : Option (World → Reply)) → slice_get (next_phases system.schedule (world_after system t)) k ≡ o → Mapped (moment system t (suc k))
        by_phase None is = subst Mapped (sym (next_moment system t k ∙ ap (once_more (moment system t k)) is)) mapped
        by_phase (Some phase) is =
            let w = world_after system t in
            let m = moment system t k in
            let fine = moment_fine granted again takable system t (all_fine granted again takable system t) k in
            let later : (e : ℕ) → AreLater ((phase m).items e) = λ e. subst AreLater (ap (λ (o : Option (World → Reply)). given_by m o e) is) (given_later licensed system t k e) in
            subst Mapped (sym (next_moment system t k ∙ ap (once_more m) is))
            (mapped_by m (after m (phase m)) mapped (λ e. all_turns ((phase m).items e) (later e) (m.solos e))
            (phase_becomes (happens_in system.schedule w) (takings_in system t) w (taken_may takable system t) k phase is fine.accounted))

    pub all_mapped : Mapped (world_after system zero) → (t k : ℕ) → Mapped (moment system t k)
    all_mapped = each_moment Mapped system next_mapped
