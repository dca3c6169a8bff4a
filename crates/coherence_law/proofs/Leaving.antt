-- What the phases of a tick leave of the mappings: each stays, but for those whose rows are emptied.
use Rattle.std.proofs.Common.{◌≡◌, ◌≢◌, ◌<◌, ◌+◌, ◌*◌, ℕ, List, [], ◌∷◌, Bool, true, false, Option, Some, None, is_none, is_some, inl, inr, refl, sym, ◌∙◌, ap, subst, rules}
use Rattle.std.proofs.lemmas.Bool.{cases_eq, eq-eqb, eqb-true}
use Rattle.std.specs.Prelude.{◌⊎◌, ◌==◌, ◌&&◌, ◌||◌, not, if◌then◌else◌}
use Rattle.std.specs.Option.{option_map, option_or}
use Rattle.aegis_limits.specs.Limits.{environment_numbers}
use Rattle.aegis_limits.specs.declared.version.Version.{Version}
use Rattle.bind_book.specs.declared.binding.Binding.{Binding}
use Rattle.bind_book.specs.Stripe.{binding_at, goes_with, is_but, leads_to_page, of_number, row_of, without}
use Rattle.env_frames.specs.declared.mapping.Mapping.{Mapping}
use Rattle.env_frames.specs.Frame.{mapping_at}
use Rattle.guest_memory.specs.Look.{bound_mapping, mapping_in}
use Rattle.page_book.specs.declared.row.PageRow.{PageRow}
use Rattle.page_book.specs.Row.{belongs_to}
use Rattle.page_laws.proofs.Tables.{set_here, set_else}
use Rattle.revocation_book.specs.declared.revocation.Taking.{Taking}
use Rattle.r3k_tlb.specs.Row.{row_page, row_pid, row_vpn}
use Rattle.r3k_tlb.specs.Rows.{has_page, has_pair}
use Rattle.tlb_model.specs.Cache.{row_for}
use Rattle.tlb_model.specs.Flushes.{Flush, OfEnv, OfPage, OfPair, is_of_env, replaced_pair}
use Rattle.tlb_model.specs.Laws.{AreKeptBut, is_any_flushed}
use Rattle.tlb_model.proofs.Fitting.{row_words}
use Rattle.tlb_course.specs.Accesses.{mapping_for}
use Rattle.tlb_course.specs.Emptying.{act_flushes, count_flushes, deed_flushes, taking_flush, timer_flushes, verdict_flushes}
use Rattle.world_model.specs.declared.call.Call.{Call}
use Rattle.world_model.specs.declared.call.Deed.{Deed}
use Rattle.world_model.specs.declared.call.Deed.TheVariants.{Frees, Recaps, Binds, Unbinds}
use Rattle.world_model.specs.declared.slot.Runner.{Runner}
use Rattle.world_model.specs.declared.timer.Timer.{Timer}
use Rattle.world_model.specs.declared.timer.Timer.TheVariants as answer
use Rattle.world_model.specs.declared.verdict.Verdict.{Verdict}
use Rattle.world_model.specs.declared.verdict.Verdict.TheVariants.{Refuse, Again, Grant}
use Rattle.world_model.specs.Book.{Book}
use Rattle.world_model.specs.Deadlines.{takes}
use Rattle.world_model.specs.Event.{revokes}
use Rattle.world_model.specs.Item.{Step, deed_at}
use Rattle.world_model.specs.Step.{Act, Nothing, Stores, Calls, Raises, Dies}
use Rattle.world_model.specs.Table.{set_at}
use Rattle.world_model.specs.Tick.{act_now, act_reply, count_when, timer_now, timer_reply}
use Rattle.world_model.specs.Verdict.{asks_one, done, reply_by_verdict, reply_to, verdict}
use Rattle.world_model.specs.World.{World, after, no_change, tells}
use Rattle.run_model.proofs.Telling.{call_stands}
use Rattle.sharing_law.proofs.Happening.{revoked_alike}
use Rattle.sharing_law.proofs.Turning.{ListsSame}

-- where VPNs lead by the same lists
pub record LeadsSame (old new : Book) : Type 0 where
  pub version : new.version ≡ old.version
  pub kept : new.kept ≡ old.kept
  pub binds : new.binds ≡ old.binds
  pub count : new.page_count ≡ old.page_count

pub by_lists : (old new : Book) → ListsSame old new → LeadsSame old new
by_lists old new same = record { version = same.version; kept = same.kept; binds = same.binds; count = same.count }

-- each mapping stays whose row isn't emptied
pub record Leaves (fs : List Flush) (old new : Book) : Type 0 where
  pub mappings : AreKeptBut fs (mapping_for old) (mapping_for new)
  pub count : new.page_count ≡ old.page_count

pub same_leaves : (fs : List Flush) (old new : Book) → LeadsSame old new → Leaves fs old new
same_leaves fs old new same = record {
  mappings = λ e m small below is none. (λ k. mapping_in (same.version k) (same.kept k e) (same.binds k e) m.vpn) ∙ is;
  count = same.count;
}

-- ---- one mapping

some_same : (m n : Mapping) → Some m ≡ Some n → m ≡ n
some_same m n h = search rules

-- The mapping of a VPN is the guaranteed one, which stays as long as that does; or that of the binding in its row, which
-- stays as long as it does.
module _ (v : Version) (kept : List Mapping) (old new : ℕ → Option Binding) (m : Mapping) where
  stays_by_number : (y : Binding) (p : Option Binding) (t : Bool) → (y.vpn == m.vpn) ≡ t → option_map bound_mapping (if t then Some y else None) ≡ Some m
      → (y.vpn ≡ m.vpn → y.page ≡ m.page → p ≡ Some y) → option_map bound_mapping (of_number m.vpn p) ≡ Some m
  stays_by_number y p true same at stays =
      let is : bound_mapping y ≡ m = some_same (bound_mapping y) m at in
      let now : p ≡ Some y = stays (eqb-true y.vpn m.vpn same) (ap (λ (n : Mapping). n.page) is) in
      ap (λ (q : Option Binding). option_map bound_mapping (of_number m.vpn q)) now
      ∙ ap (λ (b : Bool). option_map bound_mapping (if b then Some y else None)) same ∙ at
  stays_by_number y p false other at stays = cc

  stays_by_binding : (o : Option Mapping) (x : Option Binding) (p : Option Binding) → option_or o (option_map bound_mapping (of_number m.vpn x)) ≡ Some m
      → ((y : Binding) → x ≡ Some y → y.vpn ≡ m.vpn → y.page ≡ m.page → p ≡ Some y)
      → option_or o (option_map bound_mapping (of_number m.vpn p)) ≡ Some m
  stays_by_binding (Some n) x p is stays = is
  stays_by_binding None None p is stays = cc
  stays_by_binding None (Some y) p is stays = stays_by_number y p (y.vpn == m.vpn) refl is (stays y refl)

  mapping_stays : mapping_in v kept old m.vpn ≡ Some m
      → ((y : Binding) → old (row_of v m.vpn) ≡ Some y → y.vpn ≡ m.vpn → y.page ≡ m.page → new (row_of v m.vpn) ≡ Some y)
      → mapping_in v kept new m.vpn ≡ Some m
  mapping_stays is stays = stays_by_binding (mapping_at kept m.vpn) (old (row_of v m.vpn)) (new (row_of v m.vpn)) is stays

-- ---- bindings are broken, and their rows emptied

neither : (b c : Bool) → (b || c) ≡ false → (b ≡ false) × (c ≡ false)
neither true c h = cc
neither false c h = (refl, h)

-- what a row of the mapping isn't, where it isn't emptied
not_page : (page e : ℕ) (m : Mapping) → e < environment_numbers → is_any_flushed (OfPage page ∷ []) (row_for e m) ≡ false → (m.page == page) ≡ false
not_page page e m small none =
    ap (λ n. n == page) (sym (row_words e m small).page) ∙ (neither (has_page page (row_for e m)) false none).0

not_env : (pages : ℕ → PageRow) (gone e : ℕ) (m : Mapping) → e < environment_numbers → is_any_flushed (OfEnv pages gone ∷ []) (row_for e m) ≡ false
    → ((e == gone) ≡ false) × (belongs_to gone (pages m.page) ≡ false)
not_env pages gone e m small none =
    let words = row_words e m small in
    let parts = neither (row_pid (row_for e m) == gone) (belongs_to gone (pages (row_page (row_for e m)))) (neither (is_of_env pages gone (row_for e m)) false none).0 in
    (ap (λ n. n == gone) (sym words.env) ∙ parts.0, ap (λ n. belongs_to gone (pages n)) (sym words.page) ∙ parts.1)

record IsSwept (broken : ℕ → Binding → Bool) (fs : List Flush) (old new : Book) : Type 0 where
  version : new.version ≡ old.version
  count : new.page_count ≡ old.page_count
  kept : (e : ℕ) (m : Mapping) → e < environment_numbers → is_any_flushed fs (row_for e m) ≡ false → new.kept e ≡ old.kept e
  binds : (e row : ℕ) → new.binds e row ≡ without (broken e) (old.binds e row)
  spares : (e : ℕ) (m : Mapping) (y : Binding) → e < environment_numbers → is_any_flushed fs (row_for e m) ≡ false → y.page ≡ m.page → broken e y ≡ false

swept_leaves : (broken : ℕ → Binding → Bool) (fs : List Flush) (old new : Book) → IsSwept broken fs old new → Leaves fs old new
swept_leaves broken fs old new swept = record { mappings = stays; count = swept.count }
  where
    stays : AreKeptBut fs (mapping_for old) (mapping_for new)
    stays e m small below is none =
        (λ k. mapping_in (swept.version k) (swept.kept e m small none k) (new.binds e) m.vpn)
        ∙ mapping_stays old.version (old.kept e) (old.binds e) (new.binds e) m is
        (λ y at vpn page.
        swept.binds e (row_of old.version m.vpn) ∙ ap (without (broken e)) at
        ∙ ap (λ (b : Bool). if b then None else Some y) (swept.spares e m y small none page))

page_spared : (page : ℕ) (but : Option ℕ) (e : ℕ) (m : Mapping) (y : Binding) → e < environment_numbers → is_any_flushed (OfPage page ∷ []) (row_for e m) ≡ false → y.page ≡ m.page
    → leads_to_page page but e y ≡ false
page_spared page but e m y small none same = ap (λ (b : Bool). b && not (is_but but e)) (ap (λ n. n == page) same ∙ not_page page e m small none)

env_spared : (pages : ℕ → PageRow) (gone e : ℕ) (m : Mapping) (y : Binding) → e < environment_numbers → is_any_flushed (OfEnv pages gone ∷ []) (row_for e m) ≡ false → y.page ≡ m.page
    → goes_with pages gone e y ≡ false
env_spared pages gone e m y small none same =
    let other = not_env pages gone e m small none in
    (λ k. other.0 k || belongs_to gone (pages (same k))) ∙ other.1

broken_leaves : (page : ℕ) (but : Option ℕ) (old new : Book) → new.version ≡ old.version → new.page_count ≡ old.page_count → new.kept ≡ old.kept
    → ((e row : ℕ) → new.binds e row ≡ without (leads_to_page page but e) (old.binds e row)) → Leaves (OfPage page ∷ []) old new
broken_leaves page but old new version count kept binds =
    swept_leaves (leads_to_page page but) (OfPage page ∷ []) old new
    (record { version = version; count = count; kept = λ e m small none k. kept k e; binds = binds; spares = page_spared page but })

gone_leaves : (gone : ℕ) (old new : Book) → new.version ≡ old.version → new.page_count ≡ old.page_count → new.kept ≡ set_at gone [] old.kept
    → ((e row : ℕ) → new.binds e row ≡ without (goes_with old.pages gone e) (old.binds e row)) → Leaves (OfEnv old.pages gone ∷ []) old new
gone_leaves gone old new version count kept binds =
    swept_leaves (goes_with old.pages gone) (OfEnv old.pages gone ∷ []) old new
    (record { version = version; count = count; kept = others; binds = binds; spares = env_spared old.pages gone })
  where
    others : (e : ℕ) (m : Mapping) → e < environment_numbers → is_any_flushed (OfEnv old.pages gone ∷ []) (row_for e m) ≡ false → new.kept e ≡ old.kept e
    others e m small none = (λ k. kept k e) ∙ ap (λ (b : Bool). if b then [] else old.kept e) (not_env old.pages gone e m small none).0

-- ---- a row of a stripe has another binding, or none

-- what stood in the row has its rows emptied
record Hits (fs : List Flush) (b : Book) (e row : ℕ) : Type 0 where
  hits : (m : Mapping) (y : Binding) → e < environment_numbers → b.binds e row ≡ Some y → y.vpn ≡ m.vpn → is_any_flushed fs (row_for e m) ≡ true

set_leaves : (fs : List Flush) (b : Book) (e row : ℕ) (x : Option Binding) → Hits fs b e row → Leaves fs b (record b { binds = set_at e (set_at row x (b.binds e)) b.binds })
set_leaves fs b e row x hit = record { mappings = stays; count = refl }
  where
    new : ℕ → ℕ → Option Binding
    new = set_at e (set_at row x (b.binds e)) b.binds

    still : (i : ℕ) (m : Mapping) (y : Binding) → i < environment_numbers → is_any_flushed fs (row_for i m) ≡ false → b.binds i (row_of b.version m.vpn) ≡ Some y → y.vpn ≡ m.vpn
        → set_at e (set_at row x (b.binds e)) b.binds i (row_of b.version m.vpn) ≡ Some y
    still i m y small none at vpn = elim (cases_eq i e) [
      | inr other ↦ (λ k. set_else e i (set_at row x (b.binds e)) b.binds other k (row_of b.version m.vpn)) ∙ at
      | inl same ↦
          (λ k. set_at e (set_at row x (b.binds e)) b.binds (same k) (row_of b.version m.vpn))
          ∙ (λ k. set_here e (set_at row x (b.binds e)) b.binds k (row_of b.version m.vpn))
          ∙ in_row same (cases_eq (row_of b.version m.vpn) row)
    ]
      where
        in_row : i ≡ e → (row_of b.version m.vpn ≡ row) ⊎ (row_of b.version m.vpn ≢ row) → set_at row x (b.binds e) (row_of b.version m.vpn) ≡ Some y
        in_row same (inr apart) = set_else row (row_of b.version m.vpn) x (b.binds e) apart ∙ (λ k. b.binds (sym same k) (row_of b.version m.vpn)) ∙ at
        in_row same (inl here) =
            let stood : b.binds e row ≡ Some y = (λ k. b.binds (sym same k) (sym here k)) ∙ at in
            let its : is_any_flushed fs (row_for e m) ≡ true = hit.hits m y (subst (λ (n : ℕ). n < environment_numbers) same small) stood vpn in
            let missed : is_any_flushed fs (row_for e m) ≡ false = ap (λ (n : ℕ). is_any_flushed fs (row_for n m)) (sym same) ∙ none in
            cc

    stays : AreKeptBut fs (mapping_for b) (mapping_for (record b { binds = set_at e (set_at row x (b.binds e)) b.binds }))
    stays i m small below is none =
        mapping_stays b.version (b.kept i) (b.binds i) (set_at e (set_at row x (b.binds e)) b.binds i) m is (λ y at vpn page. still i m y small none at vpn)

or_first : (b c : Bool) → b ≡ true → (b || c) ≡ true
or_first true c h = refl
or_first false c h = cc

or_second : (b c : Bool) → c ≡ true → (b || (c || false)) ≡ true
or_second true c h = refl
or_second false true h = refl
or_second false false h = cc

its_pair : (vpn e : ℕ) (m : Mapping) → e < environment_numbers → m.vpn ≡ vpn → has_pair vpn e (row_for e m) ≡ true
its_pair vpn e m small at =
    let words = row_words e m small in
    let first : (row_vpn (row_for e m) == vpn) ≡ true = eq-eqb (row_vpn (row_for e m)) vpn (words.vpn ∙ at) in
    let second : (row_pid (row_for e m) == e) ≡ true = eq-eqb (row_pid (row_for e m)) e words.env in
    (λ k. first k && second k)

bind_hits : (b : Book) (e vpn row : ℕ) → Hits (OfPair vpn e ∷ replaced_pair e (b.binds e row)) b e row
bind_hits b e vpn row = record { hits = hits }
  where
    hits : (m : Mapping) (y : Binding) → e < environment_numbers → b.binds e row ≡ Some y → y.vpn ≡ m.vpn → is_any_flushed (OfPair vpn e ∷ replaced_pair e (b.binds e row)) (row_for e m) ≡ true
    hits m y small stood same =
        ap (λ (o : Option Binding). is_any_flushed (OfPair vpn e ∷ replaced_pair e o) (row_for e m)) stood
        ∙ or_second (has_pair vpn e (row_for e m)) (has_pair y.vpn e (row_for e m)) (its_pair y.vpn e m small (sym same))

unbind_hits : (b : Book) (e vpn : ℕ) → is_some (binding_at b.version (b.binds e) vpn) ≡ true → Hits (OfPair vpn e ∷ []) b e (row_of b.version vpn)
unbind_hits b e vpn bound = record { hits = hits }
  where
    its : (y : Binding) (t : Bool) → (y.vpn == vpn) ≡ t → is_some (if t then Some y else None) ≡ true → y.vpn ≡ vpn
    its y true same is = eqb-true y.vpn vpn same
    its y false other is = cc

    hits : (m : Mapping) (y : Binding) → e < environment_numbers → b.binds e (row_of b.version vpn) ≡ Some y → y.vpn ≡ m.vpn → is_any_flushed (OfPair vpn e ∷ []) (row_for e m) ≡ true
    hits m y small stood same =
        let at : y.vpn ≡ vpn = its y (y.vpn == vpn) refl (ap (λ (o : Option Binding). is_some (of_number vpn o)) (sym stood) ∙ bound) in
        or_first (has_pair vpn e (row_for e m)) false (its_pair vpn e m small (sym same ∙ at))

-- ---- the deeds of a call

unbound_leaves : (b : Book) (e vpn : ℕ) (t : Bool) → is_some (binding_at b.version (b.binds e) vpn) ≡ t
    → Leaves (OfPair vpn e ∷ []) b (record b { binds = set_at e (if t then set_at (row_of b.version vpn) None (b.binds e) else b.binds e) b.binds })
unbound_leaves b e vpn true bound = set_leaves (OfPair vpn e ∷ []) b e (row_of b.version vpn) None (unbind_hits b e vpn bound)
unbound_leaves b e vpn false unbound =
    same_leaves (OfPair vpn e ∷ []) b (record b { binds = set_at e (b.binds e) b.binds }) (record { version = refl; kept = refl; binds = λ k i row. same i k row; count = refl })
  where
    same : (i : ℕ) → set_at e (b.binds e) b.binds i ≡ b.binds i
    same i = elim (cases_eq i e) [
      | inl at ↦ (λ k. set_at e (b.binds e) b.binds (at k)) ∙ set_here e (b.binds e) b.binds ∙ (λ k. b.binds (sym at k))
      | inr other ↦ set_else e i (b.binds e) b.binds other
    ]

deed_leaves : (w : World) (e : ℕ) (d : Deed) → (w.solos e).version ≡ w.book.version → Leaves (deed_flushes w.book e d) w.book (done w e d).book
deed_leaves w e (Frees page) version = broken_leaves page None w.book (done w e (Frees page)).book refl refl refl (λ i row. refl)
deed_leaves w e (Recaps page words) version = broken_leaves page (Some e) w.book (done w e (Recaps page words)).book refl refl refl (λ i row. refl)
deed_leaves w e (Binds x word) version =
    let fs = deed_flushes w.book e (Binds x word) in
    let row = row_of w.book.version x.vpn in
    subst (λ (n : ℕ). Leaves fs w.book (record w.book { binds = set_at e (set_at n (Some x) (w.book.binds e)) w.book.binds })) (ap (λ (v : Version). row_of v x.vpn) (sym version))
    (set_leaves fs w.book e row (Some x) (bind_hits w.book e x.vpn row))
deed_leaves w e (Unbinds vpn) version =
    subst (λ (v : Version). Leaves (OfPair vpn e ∷ []) w.book (record w.book {
      binds = set_at e (if is_some (binding_at v (w.book.binds e) vpn) then set_at (row_of v vpn) None (w.book.binds e) else w.book.binds e) w.book.binds;
    })) (sym version)
    (unbound_leaves w.book e vpn (is_some (binding_at w.book.version (w.book.binds e) vpn)) refl)
deed_leaves w e d version = same_leaves (deed_flushes w.book e d) w.book (done w e d).book (record { version = refl; kept = refl; binds = refl; count = refl })

-- an environment that is asked for a page
asked_same : (w : World) (who : ℕ) (t : Bool) → LeadsSame w.book (if t then revokes who 1 (w.book.time + 2 * w.book.quantum) w else no_change w).book
asked_same w who true = let r = revokes who 1 (w.book.time + 2 * w.book.quantum) w in by_lists w.book r.book (revoked_alike who 1 (2 * w.book.quantum) w).lists
asked_same w who false = record { version = refl; kept = refl; binds = refl; count = refl }

reply_leaves : (w : World) (e : ℕ) (v : Verdict) → (w.solos e).version ≡ w.book.version → Leaves (verdict_flushes w e v) w.book (reply_by_verdict w e v).book
reply_leaves w e (Refuse code value) version = same_leaves [] w.book w.book (record { version = refl; kept = refl; binds = refl; count = refl })
reply_leaves w e (Again who) version = same_leaves [] w.book (asks_one who w).book (asked_same w who (is_none (w.book.pending who)))
reply_leaves w e (Grant value) version = deed_leaves w e (deed_at (w.solos e) value) version

-- ---- the step of an environment: it is told of it, and then comes what its act brings

pub act_leaves : (w : World) (e : ℕ) (act : Act) → act_now w e ≡ act → ((call : Option Call) → act ≡ Calls call → (w.solos e).version ≡ w.book.version)
    → Leaves (act_flushes w e act) w.book (act_reply e act (after w (tells e Step w))).book
act_leaves w e (Calls call) is version =
    subst (λ (v : World). Leaves (verdict_flushes w e (verdict w e call)) w.book (reply_to v e call).book) (sym (call_stands w e call is)) (reply_leaves w e (verdict w e call) (version call refl))
act_leaves w e (Dies cause) is version = gone_leaves e w.book (act_reply e (Dies cause) (after w (tells e Step w))).book refl refl refl (λ i row. refl)
act_leaves w e Nothing is version = same_leaves [] w.book w.book (record { version = refl; kept = refl; binds = refl; count = refl })
act_leaves w e (Stores x) is version = same_leaves [] w.book w.book (record { version = refl; kept = refl; binds = refl; count = refl })
act_leaves w e (Raises exc) is version = same_leaves [] w.book w.book (record { version = refl; kept = refl; binds = refl; count = refl })

-- ---- a page that is taken, and the timer

pub taking_leaves : (x : Taking) (w : World) → Leaves (taking_flush x ∷ []) w.book (takes x w).book
taking_leaves x w = broken_leaves x.page None w.book (takes x w).book refl refl refl (λ i row. refl)

answer_leaves : (w : World) (r : Runner) (a : Timer) → Leaves (timer_flushes w r.env a) w.book (timer_reply r a w).book
answer_leaves w r answer.Kill = gone_leaves r.env w.book (timer_reply r answer.Kill w).book refl refl refl (λ i row. refl)
answer_leaves w r answer.Nothing = same_leaves [] w.book (timer_reply r answer.Nothing w).book (record { version = refl; kept = refl; binds = refl; count = refl })
answer_leaves w r answer.End = same_leaves [] w.book (timer_reply r answer.End w).book (record { version = refl; kept = refl; binds = refl; count = refl })
answer_leaves w r answer.Stop = same_leaves [] w.book (timer_reply r answer.Stop w).book (record { version = refl; kept = refl; binds = refl; count = refl })
answer_leaves w r (answer.Over excess) = same_leaves [] w.book (timer_reply r (answer.Over excess) w).book (record { version = refl; kept = refl; binds = refl; count = refl })

pub count_leaves : (w : World) (o : Option Runner) → Leaves (count_flushes w o) w.book (count_when o w).book
count_leaves w None = same_leaves [] w.book w.book (record { version = refl; kept = refl; binds = refl; count = refl })
count_leaves w (Some r) = answer_leaves w r (timer_now w r)
