-- At boot each guaranteed page gets a page of its own, where the image has room, and so the book and the environments agree on where VPNs lead.
use Rattle.std.proofs.Common.{◌≡◌, ◌≢◌, ◌≤◌, ◌<◌, ◌+◌, ℕ, zero, suc, List, [], ◌∷◌, ◌++◌, length, map, true, false, Option, Some, None, inl, inr, refl, sym, ◌∙◌, ap, subst, arith, length-append}
use Rattle.std.proofs.lemmas.Grind.{common_steps}
use Rattle.std.specs.Prelude.{is_some, slice_get, sum_by}
use Rattle.std.specs.Option.{option_map, option_or}
use Rattle.std.proofs.lemmas.Bool.{cases_eq, cases_lt}
use Rattle.std.proofs.lemmas.List.{length-map}
use Rattle.std.proofs.lemmas.List.Sums.{sum_by-cons}
use Rattle.boot_image.specs.ImageValue.{ImageValue, ProgramValue, guaranteed_mappings}
use Rattle.env_frames.specs.declared.mapping.Mapping.{Mapping}
use Rattle.env_frames.specs.Frame.{mapping_at}
use Rattle.segment_pages.specs.Pages.{vpns}
use Rattle.bind_book.specs.declared.binding.Binding.{Binding}
use Rattle.bind_book.specs.Stripe.{binding_at, of_number, row_of}
use Rattle.page_book.specs.declared.row.PageRow.{PageRow}
use Rattle.page_book.specs.declared.row.PageRow.TheVariants.{Free, Guaranteed}
use Rattle.page_book.specs.Row.{is_free}
use Rattle.page_book.specs.Rows.{free_below, lowest_free}
use Rattle.page_book.proofs.Free.{counted_less, is_lowest, none_free}
use Rattle.revocation_book.specs.Takings.{TakingsAreTakable}
use Rattle.world_model.specs.declared.life.Cause.{Cause}
use Rattle.world_model.specs.declared.life.Life.TheVariants.{Dead}
use Rattle.world_model.specs.Book.{Book}
use Rattle.world_model.specs.Item.{absorb_all}
use Rattle.world_model.specs.Page.{KeptPage}
use Rattle.world_model.specs.Solo.{Place, absent, bound_place, kept_at, place_at}
use Rattle.world_model.specs.Table.{listed, set_at}
use Rattle.world_model.specs.World.{World}
use Rattle.call_verdicts.specs.Granted.{AgainAsks, GrantedMay}
use Rattle.run_model.specs.Boot.{body_page, book_of_image, boot_world, keep_lowest, keep_pages, kept_of, mapped_to, mappings_over, record_items, stack_page, with_all_kept, with_kept}
use Rattle.run_model.specs.Licensed.{GivenIsLicensed}
use Rattle.run_model.specs.Run.{System, moment}
use Rattle.page_laws.proofs.Tables.{set_here, set_else}
use Rattle.sharing_law.specs.Kept.{BookPlace, HasGuaranteedPages, KeptAgree, LeadsAgree, by_binding, by_mapping, mapping_place, page_place}
use Rattle.sharing_law.proofs.Absent.{absent_bare}
use Rattle.sharing_law.proofs.Agreeing.{all_fine, moment_fine}
use Rattle.sharing_law.proofs.Mappings.{Mapped, all_mapped}
use Rattle.sharing_law.proofs.SameVersion.{versions_agree}

-- the lowest free page, where one is free, and how many are free without it
found : (pages : ℕ → PageRow) (count : ℕ) (o : Option ℕ) → lowest_free pages count ≡ o → 0 < free_below pages count → is_some o ≡ true
found pages count None is some = let none = (none_free pages count).0 (ap is_some is) in absurd (omega (arith, none, some))
found pages count (Some page) is some = refl

less : (e page count : ℕ) (pages : ℕ → PageRow) → lowest_free pages count ≡ Some page → free_below pages count ≡ free_below (set_at page (Guaranteed e) pages) count + 1
less e page count pages is =
    let lowest = is_lowest pages count page is in
    counted_less pages (set_at page (Guaranteed e) pages) page count lowest.below (ap is_free lowest.free) (ap is_free (set_here page (Guaranteed e) pages))
    (λ k other. set_else page k (Guaranteed e) pages other)

-- the first of some pages is kept first
keep_first : (e count n : ℕ) (pages : ℕ → PageRow) → keep_pages e count (suc n) pages ≡ keep_pages e count n (keep_lowest e (lowest_free pages count) pages)
keep_first e count zero pages = refl
keep_first e count (suc n) pages = ap (λ (rows : ℕ → PageRow). keep_lowest e (lowest_free rows count) rows) (keep_first e count n pages)

-- What becomes of pages: each guaranteed page gets one that was free, and no other gets it.
record Maps (e count : ℕ) (pages : ℕ → PageRow) (kept : List KeptPage) (ms : List Mapping) (after : ℕ → PageRow) : Type 0 where
  places : map mapping_place ms ≡ map page_place kept
  rows : (j : ℕ) (m : Mapping) → slice_get ms j ≡ Some m → after m.page ≡ Guaranteed e
  free : (j : ℕ) (m : Mapping) → slice_get ms j ≡ Some m → pages m.page ≡ Free
  once : (j k : ℕ) (m n : Mapping) → slice_get ms j ≡ Some m → slice_get ms k ≡ Some n → m.page ≡ n.page → j ≡ k
  still : (p : ℕ) → is_free (pages p) ≡ false → after p ≡ pages p
  left : free_below pages count ≡ free_below after count + length kept

module _ (e count : ℕ) (pages : ℕ → PageRow) (p : KeptPage) (kept : List KeptPage) (page : ℕ) (is : lowest_free pages count ≡ Some page) where
  abbrev next : ℕ → PageRow
  next = set_at page (Guaranteed e) pages

  abbrev first : Mapping
  first = record { vpn = p.vpn; page = page; writable = p.writable }

  here : next page ≡ Guaranteed e
  here = set_here page (Guaranteed e) pages

  was_free : pages page ≡ Free
  was_free = (is_lowest pages count page is).free

  -- a page that is free after it is another, and was free
  other_free : (q : ℕ) → next q ≡ Free → q ≢ page
  other_free q free same = let clash : Guaranteed e ≡ Free = sym here ∙ ap next (sym same) ∙ free in cc

  before_free : (q : ℕ) → next q ≡ Free → pages q ≡ Free
  before_free q free = sym (set_else page q (Guaranteed e) pages (other_free q free)) ∙ free

  one_more : (ms : List Mapping) (after : ℕ → PageRow) → Maps e count next kept ms after → Maps e count pages (p ∷ kept) (first ∷ ms) after
  one_more ms after maps = record {
    places = λ k. mapping_place first ∷ maps.places k;
    rows = rows;
    free = free;
    once = once;
    still = λ q taken. still q taken;
    left = omega (arith, less e page count pages is, maps.left);
  }
    where
      rows : (j : ℕ) (m : Mapping) → slice_get (first ∷ ms) j ≡ Some m → after m.page ≡ Guaranteed e
      rows zero m there = let same : first ≡ m = cc in subst (λ (x : Mapping). after x.page ≡ Guaranteed e) same (maps.still page (ap is_free here) ∙ here)
      rows (suc j) m there = maps.rows j m there

      free : (j : ℕ) (m : Mapping) → slice_get (first ∷ ms) j ≡ Some m → pages m.page ≡ Free
      free zero m there = let same : first ≡ m = cc in subst (λ (x : Mapping). pages x.page ≡ Free) same was_free
      free (suc j) m there = before_free m.page (maps.free j m there)

      apart : (k : ℕ) (m n : Mapping) → first ≡ m → slice_get ms k ≡ Some n → m.page ≡ n.page → ⊥
      apart k m n same there alike = other_free n.page (maps.free k n there) (sym alike ∙ ap (λ (x : Mapping). x.page) (sym same))

      once : (j k : ℕ) (m n : Mapping) → slice_get (first ∷ ms) j ≡ Some m → slice_get (first ∷ ms) k ≡ Some n → m.page ≡ n.page → j ≡ k
      once zero zero m n at there alike = refl
      once zero (suc k) m n at there alike = let same : first ≡ m = cc in absurd (apart k m n same there alike)
      once (suc j) zero m n at there alike = let same : first ≡ n = cc in absurd (apart j n m same at (sym alike))
      once (suc j) (suc k) m n at there alike = ap suc (maps.once j k m n at there alike)

      not_page : (q : ℕ) → is_free (pages q) ≡ false → q ≢ page
      not_page q taken same = let clash : true ≡ false = ap is_free (sym was_free) ∙ ap (λ (n : ℕ). is_free (pages n)) (sym same) ∙ taken in cc

      still : (q : ℕ) → is_free (pages q) ≡ false → after q ≡ pages q
      still q taken =
          let same = set_else page q (Guaranteed e) pages (not_page q taken) in
          maps.still q (ap is_free same ∙ taken) ∙ same

-- one after another
abbrev MapsAll : ℕ → ℕ → List KeptPage → Type 0
MapsAll e count kept = (pages : ℕ → PageRow) → length kept ≤ free_below pages count → Maps e count pages kept (mappings_over e count pages kept) (keep_pages e count (length kept) pages)

by_lowest : (e count : ℕ) (p : KeptPage) (kept : List KeptPage) → MapsAll e count kept → (pages : ℕ → PageRow) → suc (length kept) ≤ free_below pages count → (o : Option ℕ) → lowest_free pages count ≡ o
    → Maps e count pages (p ∷ kept) (mapped_to p o ++ mappings_over e count (keep_lowest e o pages) kept) (keep_pages e count (length kept) (keep_lowest e o pages))
by_lowest e count p kept all pages room None is = let some = found pages count None is (omega (arith, room)) in cc
by_lowest e count p kept all pages room (Some page) is =
    let next = set_at page (Guaranteed e) pages in
    one_more e count pages p kept page is (mappings_over e count next kept) (keep_pages e count (length kept) next) (all next (omega (arith, room, less e page count pages is)))

maps_over : (e count : ℕ) (kept : List KeptPage) → MapsAll e count kept
maps_over e count [] pages room = record {
  places = refl;
  rows = λ j m is. cc;
  free = λ j m is. cc;
  once = λ j k m n is there same. cc;
  still = λ p taken. refl;
  left = omega arith;
}
maps_over e count (p ∷ kept) pages room =
    subst (Maps e count pages (p ∷ kept) (mappings_over e count pages (p ∷ kept))) (sym (keep_first e count (length kept) pages))
    (by_lowest e count p kept (maps_over e count kept) pages room (lowest_free pages count) refl)

-- how many pages are guaranteed
listed_length : {A : Type 0} (f : ℕ → A) (n : ℕ) → length (listed f n) ≡ n
listed_length f zero = refl
listed_length f (suc n) = omega (arith, length-append (listed f n) (f n ∷ []), listed_length f n)

kept_length : (p : ProgramValue) → length (kept_of p) ≡ guaranteed_mappings p
kept_length p =
    let body = map (body_page p.body) (vpns p.body) in
    omega (arith, length-append body (listed (stack_page p) p.stack), length-map (vpns p.body) (body_page p.body), listed_length (stack_page p) p.stack)

-- A book in which the environments below a number have their pages.
record Ready (e : ℕ) (b : Book) : Type 0 where
  rows : (i j : ℕ) (m : Mapping) → slice_get (b.kept i) j ≡ Some m → b.pages m.page ≡ Guaranteed i
  once : (i j k : ℕ) (m n : Mapping) → slice_get (b.kept i) j ≡ Some m → slice_get (b.kept i) k ≡ Some n → m.page ≡ n.page → j ≡ k
  none : (i : ℕ) → e ≤ i → b.kept i ≡ []

abbrev pages_of : Option ProgramValue → List KeptPage
pages_of None = []
pages_of (Some p) = kept_of p

module _ (e : ℕ) (p : ProgramValue) (b : Book) (ready : Ready e b) (room : guaranteed_mappings p ≤ free_below b.pages b.page_count) where
  abbrev ms : List Mapping
  ms = mappings_over e b.page_count b.pages (kept_of p)

  its_maps : Maps e b.page_count b.pages (kept_of p) ms (keep_pages e b.page_count (guaranteed_mappings p) b.pages)
  its_maps =
      subst (λ (n : ℕ). Maps e b.page_count b.pages (kept_of p) ms (keep_pages e b.page_count n b.pages)) (kept_length p)
      (maps_over e b.page_count (kept_of p) b.pages (omega (arith, kept_length p, room)))

  abbrev now : Book
  now = with_kept e p b

  its_kept : now.kept e ≡ ms
  its_kept = set_here e ms b.kept

  others_kept : (i : ℕ) → i ≢ e → now.kept i ≡ b.kept i
  others_kept i other = set_else e i ms b.kept other

  ready_then : Ready (e + 1) now
  ready_then = record { rows = rows; once = once; none = λ i above. others_kept i (λ same. omega (arith, same, above)) ∙ ready.none i (omega (arith, above)) }
    where
      rows : (i j : ℕ) (m : Mapping) → slice_get (now.kept i) j ≡ Some m → now.pages m.page ≡ Guaranteed i
      rows i j m is = elim (cases_eq i e) [
        | inl same ↦ its_maps.rows j m (ap (λ xs. slice_get xs j) (sym (ap now.kept same ∙ its_kept)) ∙ is) ∙ ap Guaranteed (sym same)
        | inr other ↦
            let was = ready.rows i j m (ap (λ xs. slice_get xs j) (sym (others_kept i other)) ∙ is) in
            its_maps.still m.page (ap is_free was) ∙ was
      ]

      once : (i j k : ℕ) (m n : Mapping) → slice_get (now.kept i) j ≡ Some m → slice_get (now.kept i) k ≡ Some n → m.page ≡ n.page → j ≡ k
      once i j k m n is there alike = elim (cases_eq i e) [
        | inl same ↦
            let its = sym (ap now.kept same ∙ its_kept) in
            its_maps.once j k m n (ap (λ xs. slice_get xs j) its ∙ is) (ap (λ xs. slice_get xs k) its ∙ there) alike
        | inr other ↦
            let its = sym (others_kept i other) in
            ready.once i j k m n (ap (λ xs. slice_get xs j) its ∙ is) (ap (λ xs. slice_get xs k) its ∙ there) alike
      ]

record ReadyAll (e : ℕ) (programs : List ProgramValue) (b c : Book) : Type 0 where
  rows : (i j : ℕ) (m : Mapping) → slice_get (c.kept i) j ≡ Some m → c.pages m.page ≡ Guaranteed i
  once : (i j k : ℕ) (m n : Mapping) → slice_get (c.kept i) j ≡ Some m → slice_get (c.kept i) k ≡ Some n → m.page ≡ n.page → j ≡ k
  below : (i : ℕ) → i < e → c.kept i ≡ b.kept i
  places : (i n : ℕ) → i ≡ e + n → map mapping_place (c.kept i) ≡ map page_place (pages_of (slice_get programs n))

ready_all : (programs : List ProgramValue) (e : ℕ) (b : Book) → Ready e b → sum_by guaranteed_mappings programs ≤ free_below b.pages b.page_count → ReadyAll e programs b (with_all_kept e programs b)
ready_all [] e b ready room = record {
  rows = ready.rows;
  once = ready.once;
  below = λ i less. refl;
  places = λ i n is. ap (map mapping_place) (ready.none i (omega (arith, is)));
}
ready_all (p ∷ programs) e b ready room =
    let cons = sum_by-cons guaranteed_mappings p programs in
    let fits : guaranteed_mappings p ≤ free_below b.pages b.page_count = omega (arith, cons, room) in
    let c = with_kept e p b in
    let maps = its_maps e p b ready fits in
    let all = ready_all programs (e + 1) c (ready_then e p b ready fits) (omega (arith, cons, room, maps.left, kept_length p)) in
    record {
      rows = all.rows;
      once = all.once;
      below = λ i less. all.below i (omega (arith, less)) ∙ others_kept e p b ready fits i (λ same. omega (arith, same, less));
      places = λ i n is. by_place all maps fits i n is;
    }
  where
    by_place : ReadyAll (e + 1) programs (with_kept e p b) (with_all_kept (e + 1) programs (with_kept e p b))
        → Maps e b.page_count b.pages (kept_of p) (mappings_over e b.page_count b.pages (kept_of p)) (keep_pages e b.page_count (guaranteed_mappings p) b.pages)
        → guaranteed_mappings p ≤ free_below b.pages b.page_count → (i n : ℕ) → i ≡ e + n
        → map mapping_place ((with_all_kept (e + 1) programs (with_kept e p b)).kept i) ≡ map page_place (pages_of (slice_get (p ∷ programs) n))
    by_place all maps fits i zero is =
        let same : i ≡ e = omega (arith, is) in
        ap (map mapping_place) (all.below i (omega (arith, is)) ∙ ap (with_kept e p b).kept same ∙ its_kept e p b ready fits) ∙ maps.places
    by_place all maps fits i (suc n) is = all.places i n (omega (arith, is))

all_free : (n : ℕ) → free_below (λ page. Free) n ≡ n
all_free zero = refl
all_free (suc n) = ap suc (all_free n)

module _ (image : ImageValue) (room : HasGuaranteedPages image) where
  booted_all : ReadyAll 0 image.programs (book_of_image image) (boot_world image).book
  booted_all =
      ready_all image.programs 0 (book_of_image image)
      (record { rows = λ i j m is. cc; once = λ i j k m n is there same. cc; none = λ i above. refl })
      (omega (arith, all_free image.pages, room))

  solo_pages : (e : ℕ) (o : Option ProgramValue) → (absorb_all (absent e) (record_items image.version e o)).kept ≡ pages_of o
  solo_pages e None = refl
  solo_pages e (Some p) = refl

  solo_lives : (e : ℕ) (o : Option ProgramValue) (cause : Cause) → (absorb_all (absent e) (record_items image.version e o)).life ≡ Dead cause → ⊥
  solo_lives e None cause died = cc
  solo_lives e (Some p) cause died = cc

  mapped_boot : Mapped (boot_world image)
  mapped_boot = record {
    places = λ e. booted_all.places e e (omega arith) ∙ ap (map page_place) (sym (solo_pages e (slice_get image.programs e)));
    bare = λ e cause died. absurd (solo_lives e (slice_get image.programs e) cause died);
    rows = booted_all.rows;
    once = booted_all.once;
  }

no_mappings : (ms : List Mapping) → map mapping_place ms ≡ [] → ms ≡ []
no_mappings [] is = refl
no_mappings (m ∷ ms) is = cc

pub kept_agree : GrantedMay → AgainAsks → TakingsAreTakable → GivenIsLicensed → KeptAgree
kept_agree granted again takable licensed system t k room = record {
  places = mapped.places;
  rows = mapped.rows;
  apart = apart;
  none = λ e cause died. no_mappings (w.book.kept e) (mapped.places e ∙ ap (map page_place) (mapped.bare e cause died));
}
  where
    w : World
    w = moment system t k

    mapped : Mapped (moment system t k)
    mapped = all_mapped granted again takable licensed system (mapped_boot system.image room) t k

    apart : (e f i j : ℕ) (m n : Mapping) → slice_get ((moment system t k).book.kept e) i ≡ Some m → slice_get ((moment system t k).book.kept f) j ≡ Some n → m.page ≡ n.page → (e ≡ f) × (i ≡ j)
    apart e f i j m n at there alike =
        let both : Guaranteed e ≡ Guaranteed f = sym (mapped.rows e i m at) ∙ ap (moment system t k).book.pages alike ∙ mapped.rows f j n there in
        let same : e ≡ f = cc in
        (same, mapped.once e i j m n at (ap (λ (x : ℕ). slice_get ((moment system t k).book.kept x) j) same ∙ there) alike)

-- Where a VPN leads.
abbrev its_place : BookPlace → Place
its_place p = p.place

head_alike : (vpn : ℕ) (m : Mapping) (p : KeptPage) → mapping_place m ≡ page_place p → (by_mapping vpn m).place ≡ place_at vpn p
head_alike vpn m p same = grind (arith, common_steps)

found_alike : (vpn : ℕ) (ms : List Mapping) (kept : List KeptPage) → map mapping_place ms ≡ map page_place kept
    → option_map its_place (option_map (by_mapping vpn) (mapping_at ms vpn)) ≡ option_map (place_at vpn) (kept_at kept vpn)
found_alike vpn [] [] same = refl
found_alike vpn [] (p ∷ kept) same = cc
found_alike vpn (m ∷ ms) [] same = cc
found_alike vpn (m ∷ ms) (p ∷ kept) same = grind (arith, common_steps, head_alike, (found_alike vpn ms kept))

or_alike : (a b : Option BookPlace) → option_map its_place (option_or a b) ≡ option_or (option_map its_place a) (option_map its_place b)
or_alike None b = refl
or_alike (Some p) b = refl

bound_alike : (o : Option Binding) → option_map its_place (option_map by_binding o) ≡ option_map bound_place o
bound_alike None = refl
bound_alike (Some b) = refl

-- the book has the environment's version, or nothing is bound
same_binding : GivenIsLicensed → (system : System) (t k e vpn : ℕ)
    → (let w = moment system t k in let s = w.solos e in ((row : ℕ) → s.binds row ≡ w.book.binds e row) → binding_at w.book.version (w.book.binds e) vpn ≡ binding_at s.version s.binds vpn)
same_binding licensed system t k e vpn same =
    let w = moment system t k in
    let s = w.solos e in
    let versions = versions_agree licensed system t k in
    elim (cases_lt e (length system.image.programs)) [
      | inl has ↦ λ j. binding_at ((versions.book ∙ sym (versions.solos e has)) j) (λ row. sym (same row) j) vpn
      | inr lacks ↦
          let none = (absent_bare licensed system e lacks t k).1 in
          let old = row_of w.book.version vpn in
          let own = row_of s.version vpn in
          ap (of_number vpn) (sym (same old) ∙ none old ∙ sym (none own))
    ]

pub leads_agree : GrantedMay → AgainAsks → TakingsAreTakable → GivenIsLicensed → LeadsAgree
leads_agree granted again takable licensed system t k e vpn room =
    let w = moment system t k in
    let s = w.solos e in
    let mapped = all_mapped granted again takable licensed system (mapped_boot system.image room) t k in
    let agreed = (moment_fine granted again takable system t (all_fine granted again takable system t) k).sound.agreed e in
    let bound = binding_at w.book.version (w.book.binds e) vpn in
    or_alike (option_map (by_mapping vpn) (mapping_at (w.book.kept e) vpn)) (option_map by_binding bound)
    ∙ (λ j. option_or (found_alike vpn (w.book.kept e) s.kept (mapped.places e) j) (bound_alike bound j))
    ∙ (λ j. option_or (option_map (place_at vpn) (kept_at s.kept vpn)) (option_map bound_place (same_binding licensed system t k e vpn agreed.binds j)))
