-- The rows of the TLB stay coherent with the mappings of the board.
use Rattle.std.proofs.Common.{◌≡◌, ◌<◌, ℕ, List, [], ◌∷◌, ◌++◌, length, Bool, true, false, Option, Some, None, refl, sym, ◌∙◌, ap, subst, arith, rules}
use Rattle.std.specs.Prelude.{◌==◌, ◌&&◌, ◌||◌, if◌then◌else◌, is_some, slice_set}
use Rattle.std.specs.Option.{option_map, option_or}
use Rattle.std.proofs.lemmas.List.Elements.{All-replicate}
use Rattle.std.proofs.lemmas.Option.{slice_get_past}
use Rattle.aegis_limits.specs.VersionLimits.{stripe_rows}
use Rattle.std.proofs.lemmas.Bool.{and_parts, eq-eqb, eqb-false, eqb-true}
use Rattle.aegis_limits.specs.Limits.{environment_numbers, vpn_end}
use Rattle.aegis_limits.specs.declared.version.Version.{Version}
use Rattle.page_book.specs.declared.row.PageRow.{PageRow}
use Rattle.page_book.specs.Row.{belongs_to}
use Rattle.page_book.specs.Rows.{row_in}
use Rattle.bind_book.specs.declared.binding.Binding.{Binding}
use Rattle.bind_book.specs.Stripe.{HasStripe, Stripes, binding_at, goes_with, leads_to_page, of_number, row_of, stripes, swept, unbound, stripe_place, with_binding_in, with_stripe_row, without}
use Rattle.bind_book.proofs.Rows.{row_set, row_within}
use Rattle.bind_book.proofs.Swept.{swept_row}
use Rattle.env_frames.specs.declared.mapping.Mapping.{Mapping}
use Rattle.env_frames.specs.Frame.{mapping_at}
use Rattle.guest_memory.specs.Look.{bound_mapping, mapping_in}
use Rattle.world_model.specs.declared.life.Cause.{Cause}
use Rattle.r3k_tlb.specs.declared.row.Row.{Row}
use Rattle.r3k_tlb.specs.Row.{emptied_row, row_page, row_pid, row_vpn}
use Rattle.r3k_tlb.specs.Rows.{emptied_rows, row_count, has_page, has_pair}
use Rattle.tlb_model.specs.Cache.{row_for}
use Rattle.tlb_model.specs.Flushes.{Flush, OfEnv, OfPage, OfPair, all_flushed, is_flushed, is_of_env, replaced_pair}
use Rattle.tlb_model.specs.Coherence.{AreCoherent, Emptied, IsCoherent}
use Rattle.tlb_model.specs.Laws.{AreKeptBut, is_any_flushed}
use Rattle.tlb_model.proofs.Fitting.{row_words}
use Rattle.tlb_model.proofs.Emptying.{emptied, grown}
use Rattle.board_model.specs.declared.roster.Environment.{Environment}
use Rattle.board_model.specs.Shown.{Environments, mappings_in, mappings_of, with_record}
use Rattle.board_model.specs.Sound.{BooksAgree, IsLiving, RowsAgree, leads_in}
use Rattle.board_model.specs.Doing.{dead_frame}
use Rattle.board_model.proofs.Mappings.{dead_mappings, kept_mappings, other_mappings}
use Rattle.board_model.proofs.Sound.{Keeps}

-- as many pages of physical memory
pub same_size_rows : (frames new : List (List ℕ)) (list : List Environment) (binds : Stripes) (rows : List Row) → length new ≡ length frames
    → RowsAgree frames list binds rows → RowsAgree new list binds rows
same_size_rows frames new list binds rows same agree = record { coherent = subst (λ n. AreCoherent (leads_in list binds) n rows) (sym same) agree.coherent }

-- an environment's record changes, and not its mappings
pub keep_rows : (f : Environment → Environment) → Keeps f → (frames : List (List ℕ)) (list : List Environment) (binds : Stripes) (rows : List Row) (e : ℕ)
    → RowsAgree frames list binds rows → RowsAgree frames (with_record f list e) binds rows
keep_rows f keeps frames list binds rows e agree = record {
  coherent = grown (leads_in list binds) (leads_in (with_record f list e) binds) (length frames) rows agree.coherent
      (λ i m is. ap (λ ms. mapping_in binds.version ms (stripes binds i) m.vpn) (kept_mappings f keeps list e i) ∙ is);
}

some_same : (m n : Mapping) → Some m ≡ Some n → m ≡ n
some_same m n h = search rules

-- The mapping of a VPN is the guaranteed one, which stays as long as that does; or that of the binding in its row, which
-- stays as long as it does.
module _ (v : Version) (kept : List Mapping) (old new : ℕ → Option Binding) (m : Mapping) where
  stays_by_binding : (o : Option Mapping) (x : Option Binding) (p : Option Binding) → option_or o (option_map bound_mapping (of_number m.vpn x)) ≡ Some m
      → ((y : Binding) → x ≡ Some y → y.vpn ≡ m.vpn → y.page ≡ m.page → p ≡ Some y)
      → option_or o (option_map bound_mapping (of_number m.vpn p)) ≡ Some m
  stays_by_binding (Some n) x p is stays = is
  stays_by_binding None None p is stays = search rules
  stays_by_binding None (Some y) p is stays = by_number (y.vpn == m.vpn) refl is
    where
      by_number : (t : Bool) → (y.vpn == m.vpn) ≡ t → option_map bound_mapping (if t then Some y else None) ≡ Some m
          → option_map bound_mapping (of_number m.vpn p) ≡ Some m
      by_number true same at =
          let is_m : bound_mapping y ≡ m = some_same (bound_mapping y) m at in
          let now : p ≡ Some y = stays y refl (eqb-true y.vpn m.vpn same) (ap (λ (n : Mapping). n.page) is_m) in
          ap (λ (q : Option Binding). option_map bound_mapping (of_number m.vpn q)) now
          ∙ ap (λ (b : Bool). option_map bound_mapping (if b then Some y else None)) same ∙ at
      by_number false other at = search rules

  pub mapping_stays : mapping_in v kept old m.vpn ≡ Some m
      → ((y : Binding) → old (row_of v m.vpn) ≡ Some y → y.vpn ≡ m.vpn → y.page ≡ m.page → new (row_of v m.vpn) ≡ Some y)
      → mapping_in v kept new m.vpn ≡ Some m
  mapping_stays is stays = stays_by_binding (mapping_at kept m.vpn) (old (row_of v m.vpn)) (new (row_of v m.vpn)) is stays

-- bindings are broken, whose rows are emptied
swept_kept : (broken : ℕ → Binding → Bool) (list : List Environment) (binds : Stripes) (fs : List Flush)
    → ((e : ℕ) (m : Mapping) (y : Binding) → e < environment_numbers → m.vpn < vpn_end → is_any_flushed fs (row_for e m) ≡ false → y.page ≡ m.page → broken e y ≡ false)
    → AreKeptBut fs (leads_in list binds) (leads_in list (swept broken binds))
swept_kept broken list binds fs spares e m small below is none =
    mapping_stays binds.version (mappings_of list e) (stripes binds e) (stripes (swept broken binds) e) m is
    (λ y at vpn page. swept_row broken binds e (row_of binds.version m.vpn) ∙ ap (without (broken e)) at ∙ ap (λ (b : Bool). if b then None else Some y) (spares e m y small below none page))

neither : (b c : Bool) → (b || c) ≡ false → (b ≡ false) × (c ≡ false)
neither true c h = search rules
neither false c h = (refl, h)

or_second : (b c : Bool) → c ≡ true → (b || (c || false)) ≡ true
or_second true c h = refl
or_second false true h = refl
or_second false false h = search rules

-- what a row of the mapping isn't, where it isn't emptied
not_page : (page e : ℕ) (m : Mapping) → e < environment_numbers → is_any_flushed (OfPage page ∷ []) (row_for e m) ≡ false → (m.page == page) ≡ false
not_page page e m small none =
    ap (λ n. n == page) (sym (row_words e m small).page) ∙ (neither (has_page page (row_for e m)) false none).0

not_env : (pages : ℕ → PageRow) (gone e : ℕ) (m : Mapping) → e < environment_numbers → is_any_flushed (OfEnv pages gone ∷ []) (row_for e m) ≡ false
    → ((e == gone) ≡ false) × (belongs_to gone (pages m.page) ≡ false)
not_env pages gone e m small none =
    let words = row_words e m small in
    let parts = neither (row_pid (row_for e m) == gone) (belongs_to gone (pages (row_page (row_for e m)))) (neither (is_of_env pages gone (row_for e m)) false none).0 in
    (ap (λ n. n == gone) (sym words.env) ∙ parts.0, ap (λ n. belongs_to gone (pages n)) (sym words.page) ∙ parts.1)

its_pair : (vpn e i : ℕ) (m : Mapping) → i < environment_numbers → m.vpn ≡ vpn → i ≡ e → has_pair vpn e (row_for i m) ≡ true
its_pair vpn e i m small at its =
    let words = row_words i m small in
    let first : (row_vpn (row_for i m) == vpn) ≡ true = eq-eqb (row_vpn (row_for i m)) vpn (words.vpn ∙ at) in
    let second : (row_pid (row_for i m) == e) ≡ true = eq-eqb (row_pid (row_for i m)) e (words.env ∙ its) in
    rw (first, second) refl

pub broken_rows : (frames : List (List ℕ)) (list : List Environment) (binds : Stripes) (rows : List Row) (page : ℕ) (but : Option ℕ)
    → RowsAgree frames list binds rows → RowsAgree frames list (swept (leads_to_page page but) binds) (all_flushed (OfPage page ∷ []) rows)
broken_rows frames list binds rows page but agree = record {
  coherent = emptied (leads_in list binds) (leads_in list (swept (leads_to_page page but) binds)) (OfPage page ∷ []) (length frames) rows agree.coherent
      (swept_kept (leads_to_page page but) list binds (OfPage page ∷ [])
      (λ e m y small below none same. spared page but e y (ap (λ n. n == page) same ∙ not_page page e m small none)));
}
  where
    spared : (page : ℕ) (but : Option ℕ) (e : ℕ) (y : Binding) → (y.page == page) ≡ false → leads_to_page page but e y ≡ false
    spared page but e y other = rw other refl

-- an environment dies
pub death_rows : (cause : Cause) (frames : List (List ℕ)) (pages : List PageRow) (list : List Environment) (binds : Stripes) (rows : List Row) (e : ℕ)
    → RowsAgree frames list binds rows
    → RowsAgree frames (with_record (dead_frame cause) list e) (swept (goes_with (row_in pages) e) binds) (all_flushed (OfEnv (row_in pages) e ∷ []) rows)
death_rows cause frames pages list binds rows e agree = record {
  coherent = emptied (leads_in list binds) (leads_in (with_record (dead_frame cause) list e) (swept (goes_with (row_in pages) e) binds))
      (OfEnv (row_in pages) e ∷ []) (length frames) rows agree.coherent kept;
}
  where
    others : (i : ℕ) → (i == e) ≡ false → mappings_of (with_record (dead_frame cause) list e) i ≡ mappings_of list i
    others i other = dead_mappings cause list e i ∙ ap (λ (b : Bool). if b then [] else mappings_of list i) other

    spared : (i : ℕ) (m : Mapping) (y : Binding) → i < environment_numbers → is_any_flushed (OfEnv (row_in pages) e ∷ []) (row_for i m) ≡ false → y.page ≡ m.page
        → goes_with (row_in pages) e i y ≡ false
    spared i m y small none page =
        let not = not_env (row_in pages) e i m small none in
        let its : belongs_to e (row_in pages y.page) ≡ false = ap (λ n. belongs_to e (row_in pages n)) page ∙ not.1 in
        rw (not.0, its) refl

    kept : AreKeptBut (OfEnv (row_in pages) e ∷ []) (leads_in list binds) (leads_in (with_record (dead_frame cause) list e) (swept (goes_with (row_in pages) e) binds))
    kept i m small below is none =
        ap (λ ms. mapping_in binds.version ms (stripes (swept (goes_with (row_in pages) e) binds) i) m.vpn) (others i (not_env (row_in pages) e i m small none).0)
        ∙ swept_kept (goes_with (row_in pages) e) list binds (OfEnv (row_in pages) e ∷ [])
        (λ j n y small below none page. spared j n y small none page) i m small below is none

-- A row of a stripe has another binding, or none: what stood there has its rows emptied.
set_kept : (list : List Environment) (binds : Stripes) (e row : ℕ) (x : Option Binding) (fs : List Flush) → HasStripe binds e → row < stripe_rows binds.version
    → ((m : Mapping) (y : Binding) → e < environment_numbers → stripes binds e row ≡ Some y → y.vpn ≡ m.vpn → is_any_flushed fs (row_for e m) ≡ true)
    → AreKeptBut fs (leads_in list binds) (leads_in list (with_stripe_row binds e row x))
set_kept list binds e row x fs has within hits i m small below is none =
    mapping_stays binds.version (mappings_of list i) (stripes binds i) (stripes (with_stripe_row binds e row x) i) m is
    (λ y at vpn page. row_set binds e row x has within i (row_of binds.version m.vpn) ∙ by_place y at vpn (i == e && row_of binds.version m.vpn == row) refl)
  where
    by_place : (y : Binding) → stripes binds i (row_of binds.version m.vpn) ≡ Some y → y.vpn ≡ m.vpn → (t : Bool)
        → (i == e && row_of binds.version m.vpn == row) ≡ t → (if t then x else stripes binds i (row_of binds.version m.vpn)) ≡ Some y
    by_place y at vpn false other = at
    by_place y at vpn true here =
        let both = and_parts (i == e) (row_of binds.version m.vpn == row) here in
        let its : i ≡ e = eqb-true i e both.0 in
        let same : row_of binds.version m.vpn ≡ row = eqb-true (row_of binds.version m.vpn) row both.1 in
        let stood : stripes binds e row ≡ Some y = ap (λ j. stripes binds j row) (sym its) ∙ ap (stripes binds i) (sym same) ∙ at in
        let hit : is_any_flushed fs (row_for e m) ≡ true = hits m y (subst (λ j. j < environment_numbers) its small) stood vpn in
        let missed : is_any_flushed fs (row_for e m) ≡ false = ap (λ j. is_any_flushed fs (row_for j m)) (sym its) ∙ none in
        cc

second_hit : (f g : Flush) (row : Row) → is_flushed g row ≡ true → is_any_flushed (f ∷ g ∷ []) row ≡ true
second_hit f g row h = search (rules, or_second)

first_hit : (f : Flush) (row : Row) → is_flushed f row ≡ true → is_any_flushed (f ∷ []) row ≡ true
first_hit f row h = rw h refl

-- a binding stands in its row
pub bound_rows : (frames : List (List ℕ)) (list : List Environment) (binds : Stripes) (rows : List Row) (e : ℕ) (x : Binding) → HasStripe binds e
    → RowsAgree frames list binds rows
    → RowsAgree frames list (with_binding_in binds e x) (all_flushed (OfPair x.vpn e ∷ replaced_pair e (stripes binds e (row_of binds.version x.vpn))) rows)
bound_rows frames list binds rows e x has agree = record {
  coherent = emptied (leads_in list binds) (leads_in list (with_binding_in binds e x)) fs (length frames) rows agree.coherent
      (set_kept list binds e row (Some x) fs has (row_within binds.version x.vpn) hits);
}
  where
    row : ℕ
    row = row_of binds.version x.vpn

    fs : List Flush
    fs = OfPair x.vpn e ∷ replaced_pair e (stripes binds e row)

    hits : (m : Mapping) (y : Binding) → e < environment_numbers → stripes binds e row ≡ Some y → y.vpn ≡ m.vpn → is_any_flushed fs (row_for e m) ≡ true
    hits m y small stood vpn =
        ap (λ o. is_any_flushed (OfPair x.vpn e ∷ replaced_pair e o) (row_for e m)) stood
        ∙ second_hit (OfPair x.vpn e) (OfPair y.vpn e) (row_for e m) (its_pair y.vpn e e m small (sym vpn) refl)

-- the binding of a VPN goes, if there is one
pub unbound_rows : (frames : List (List ℕ)) (list : List Environment) (binds : Stripes) (rows : List Row) (e vpn : ℕ) → HasStripe binds e
    → RowsAgree frames list binds rows → RowsAgree frames list (unbound binds e vpn) (all_flushed (OfPair vpn e ∷ []) rows)
unbound_rows frames list binds rows e vpn has agree = record {
  coherent = emptied (leads_in list binds) (leads_in list (unbound binds e vpn)) (OfPair vpn e ∷ []) (length frames) rows agree.coherent
      (by_test (is_some (binding_at binds.version (stripes binds e) vpn)) refl);
}
  where
    row : ℕ
    row = row_of binds.version vpn

    its : (y : Binding) → is_some (of_number vpn (Some y)) ≡ true → y.vpn ≡ vpn
    its y h = search (rules, eqb-true)

    hits : is_some (binding_at binds.version (stripes binds e) vpn) ≡ true → (m : Mapping) (y : Binding) → e < environment_numbers
        → stripes binds e row ≡ Some y → y.vpn ≡ m.vpn → is_any_flushed (OfPair vpn e ∷ []) (row_for e m) ≡ true
    hits bound m y small stood same =
        let at : y.vpn ≡ vpn = its y (ap (λ o. is_some (of_number vpn o)) (sym stood) ∙ bound) in
        first_hit (OfPair vpn e) (row_for e m) (its_pair vpn e e m small (sym same ∙ at) refl)

    by_test : (t : Bool) → is_some (binding_at binds.version (stripes binds e) vpn) ≡ t
        → AreKeptBut (OfPair vpn e ∷ []) (leads_in list binds)
        (leads_in list (record binds { rows = if t then slice_set binds.rows (stripe_place binds.version e row) None else binds.rows }))
    by_test true bound = set_kept list binds e row None (OfPair vpn e ∷ []) has (row_within binds.version vpn) (hits bound)
    by_test false bound = λ i m small below is none. is

-- an environment comes, which had nothing bound
pub added_rows : (frames new : List (List ℕ)) (pages : List PageRow) (r : Environments) (x : Environment) (binds : Stripes) (rows : List Row) → length new ≡ length frames
    → BooksAgree pages binds r → RowsAgree frames r.list binds rows → RowsAgree new (r.list ++ x ∷ []) binds rows
added_rows frames new pages r x binds rows same booked agree =
    same_size_rows frames new (r.list ++ x ∷ []) binds rows same (record {
      coherent = grown (leads_in r.list binds) (leads_in (r.list ++ x ∷ []) binds) (length frames) rows agree.coherent
          (λ i m is. by_last i m is (i == length r.list) refl);
    })
  where
    by_row : (i : ℕ) (m : Mapping) → i ≡ length r.list → (o : Option Binding) → stripes binds i (row_of binds.version m.vpn) ≡ o
        → option_map bound_mapping (of_number m.vpn o) ≡ Some m → ⊥
    by_row i m last None at is = search rules
    by_row i m last (Some y) at is = let lives : IsLiving r.list i = booked.binders i (row_of binds.version m.vpn) y at in absurd (omega (arith, last, lives.0))

    nobody : (i : ℕ) (m : Mapping) → i ≡ length r.list → leads_in r.list binds i m.vpn ≡ Some m → ⊥
    nobody i m last is =
        by_row i m last (stripes binds i (row_of binds.version m.vpn)) refl
        (ap (λ o. option_or (mapping_at (mappings_in o) m.vpn) (option_map bound_mapping (binding_at binds.version (stripes binds i) m.vpn)))
        (sym (slice_get_past r.list i (omega (arith, last)))) ∙ is)

    by_last : (i : ℕ) (m : Mapping) → leads_in r.list binds i m.vpn ≡ Some m → (t : Bool) → (i == length r.list) ≡ t → leads_in (r.list ++ x ∷ []) binds i m.vpn ≡ Some m
    by_last i m is true last = absurd (nobody i m (eqb-true i (length r.list) last) is)
    by_last i m is false other =
        ap (λ ms. mapping_in binds.version ms (stripes binds i) m.vpn) (other_mappings r.list x i (eqb-false i (length r.list) other)) ∙ is

-- all rows are emptied
pub emptied_rows_agree : (frames : List (List ℕ)) (list : List Environment) (binds : Stripes) → RowsAgree frames list binds emptied_rows
emptied_rows_agree frames list binds = record {
  coherent = All-replicate (IsCoherent (leads_in list binds) (length frames)) row_count emptied_row (Emptied refl);
}
