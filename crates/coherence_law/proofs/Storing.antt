-- A store changes the page to which its VPN leads just as it changes what the environment sees, at each of its VPNs.
use Rattle.std.proofs.Common.{◌≡◌, ◌≢◌, ◌<◌, ◌/◌, ◌%◌, ℕ, List, [], ◌∷◌, length, Bool, true, false, Option, Some, None, inl, inr, refl, sym, ◌∙◌, ap, subst, length-set, get_or-set_same, get_or-set_other}
use Rattle.std.proofs.lemmas.Bool.{cases_eq, eq-eqb, eqb-true}
use Rattle.std.proofs.lemmas.Option.{slice_get-get_or}
use Rattle.std.specs.Prelude.{◌==◌, if◌then◌else◌, slice_get}
use Rattle.std.specs.Option.{option_map, option_or}
use Rattle.aegis_limits.specs.Limits.{page_size}
use Rattle.bind_book.specs.declared.binding.Binding.{Binding}
use Rattle.bind_book.specs.Stripe.{binding_at, is_bound, is_of_page, row_of}
use Rattle.bind_book.proofs.Rows.{found_in_row, row_most}
use Rattle.env_frames.specs.declared.mapping.Mapping.{Mapping}
use Rattle.env_frames.specs.Frame.{mapping_at}
use Rattle.frame_store.specs.Pages.{after_put, page_at, with_bytes}
use Rattle.guest_memory.specs.Look.{bound_mapping, frames_after, look, look_through, written_through}
use Rattle.mips_exec.specs.Access.{Write}
use Rattle.page_book.specs.Row.{is_owned_by}
use Rattle.page_laws.specs.Sight.{seen_if}
use Rattle.page_laws.proofs.Stripes.{bound_somewhere}
use Rattle.tlb_course.specs.Accesses.{mapping_for}
use Rattle.world_model.specs.Book.{Book}
use Rattle.world_model.specs.Page.{KeptPage, Mapped}
use Rattle.world_model.specs.PageCalls.{page_bytes}
use Rattle.world_model.specs.Solo.{Key, Kept, Physical, Place, Seen, Solo, Store, bound_place, bytes_in, bytes_of, bytes_seen, is_key_of, is_physical, kept_after, kept_at, kept_page_after, leads, mapped, place_at, sight, sight_after, store_of, store_through, stored_page, stored_sight, with_store}
use Rattle.world_model.specs.Step.{acted, store_act}
use Rattle.world_model.specs.World.{World}
use Rattle.sharing_law.specs.Agreement.{IsAllocated}
use Rattle.sharing_law.specs.Kept.{AreKept, BookPlace, by_binding, by_mapping, leads_by_book}
use Rattle.sharing_law.proofs.Agreeing.{Fine}
use Rattle.coherence_law.proofs.Leading.{placed}

-- ---- an environment after a store

-- a guaranteed page stays where it is
after_vpn : (x : Store) (p : KeptPage) (v : ℕ) → ((kept_page_after x p).vpn == v) ≡ (p.vpn == v)
after_vpn x p v = by_key (is_key_of p x.key)
  where
    by_key : (t : Bool) → ((if t then stored_page x p else p).vpn == v) ≡ (p.vpn == v)
    by_key true = refl
    by_key false = refl

found_after : (x : Store) (kept : List KeptPage) (v : ℕ) → kept_at (kept_after kept x) v ≡ option_map (kept_page_after x) (kept_at kept v)
found_after x [] v = refl
found_after x (p ∷ kept) v =
    ap (λ (t : Bool). if t then Some (kept_page_after x p) else kept_at (kept_after kept x) v) (after_vpn x p v)
    ∙ by_head (p.vpn == v) (found_after x kept v)
  where
    by_head : (t : Bool) → kept_at (kept_after kept x) v ≡ option_map (kept_page_after x) (kept_at kept v)
        → (if t then Some (kept_page_after x p) else kept_at (kept_after kept x) v) ≡ option_map (kept_page_after x) (if t then Some p else kept_at kept v)
    by_head true rest = refl
    by_head false rest = rest

found_vpn : (kept : List KeptPage) (v : ℕ) (p : KeptPage) → kept_at kept v ≡ Some p → (p.vpn == v) ≡ true
found_vpn [] v p is = cc
found_vpn (q ∷ kept) v p is = by_head (q.vpn == v) refl is (found_vpn kept v p)
  where
    by_head : (t : Bool) → (q.vpn == v) ≡ t → (if t then Some q else kept_at kept v) ≡ Some p → (kept_at kept v ≡ Some p → (p.vpn == v) ≡ true) → (p.vpn == v) ≡ true
    by_head true has at rest = let same : q ≡ p = cc in ap (λ (r : KeptPage). r.vpn == v) (sym same) ∙ has
    by_head false hasnt at rest = rest at

same_place : (x : Store) (v : ℕ) (p : KeptPage) → place_at v (kept_page_after x p) ≡ place_at v p
same_place x v p = by_key (is_key_of p x.key)
  where
    by_key : (t : Bool) → place_at v (if t then stored_page x p else p) ≡ place_at v p
    by_key true = refl
    by_key false = refl

-- its VPNs lead where they led
stored_leads : (x : Store) (s : Solo) (v : ℕ) → leads (with_store x s) v ≡ leads s v
stored_leads x s v =
    ap (λ (o : Option KeptPage). option_or (option_map (place_at v) o) (option_map bound_place (binding_at s.version s.binds v))) (found_after x s.kept v)
    ∙ by_page (kept_at s.kept v)
  where
    by_page : (o : Option KeptPage) → option_or (option_map (place_at v) (option_map (kept_page_after x) o)) (option_map bound_place (binding_at s.version s.binds v))
        ≡ option_or (option_map (place_at v) o) (option_map bound_place (binding_at s.version s.binds v))
    by_page None = refl
    by_page (Some p) = ap Some (same_place x v p)

-- the page of a key is there
data HasKey (s : Solo) (key : Key) : Type 0 where
  HasKept : (v : ℕ) (p : KeptPage) → key ≡ Kept v → kept_at s.kept v ≡ Some p → HasKey s key
  HasSeen : (page : ℕ) (y : Seen) → key ≡ Physical page → s.seen page ≡ Some y → HasKey s key

-- its bytes take the store, and no other's do
own_bytes : (s : Solo) (key : Key) (offset : ℕ) (bytes : List ℕ) → HasKey s key → bytes_of (with_store (record { key = key; offset = offset; bytes = bytes }) s) key ≡ with_bytes (bytes_of s key) offset bytes
own_bytes s key offset bytes (HasKept v p is at) =
    subst (λ (k : Key). bytes_of (with_store (record { key = k; offset = offset; bytes = bytes }) s) k ≡ with_bytes (bytes_of s k) offset bytes) (sym is)
    (let x : Store = record { key = Kept v; offset = offset; bytes = bytes } in
    ap bytes_in (found_after x s.kept v ∙ ap (option_map (kept_page_after x)) at)
    ∙ ap (λ (t : Bool). (if t then stored_page x p else p).bytes) (found_vpn s.kept v p at)
    ∙ sym (ap (λ (o : Option KeptPage). with_bytes (bytes_in o) offset bytes) at))
own_bytes s key offset bytes (HasSeen page y is at) =
    subst (λ (k : Key). bytes_of (with_store (record { key = k; offset = offset; bytes = bytes }) s) k ≡ with_bytes (bytes_of s k) offset bytes) (sym is)
    (let x : Store = record { key = Physical page; offset = offset; bytes = bytes } in
    ap (λ (t : Bool). bytes_seen (if t then option_map (stored_sight x) (s.seen page) else s.seen page)) (eq-eqb page page refl)
    ∙ ap (λ (o : Option Seen). bytes_seen (option_map (stored_sight x) o)) at
    ∙ sym (ap (λ (o : Option Seen). with_bytes (bytes_seen o) offset bytes) at))

kept_stays : (x : Store) (p : KeptPage) (v : ℕ) (into : Key) → x.key ≡ into → (p.vpn == v) ≡ true → Kept v ≢ into → kept_page_after x p ≡ p
kept_stays x p v (Physical page) is has other = ap (λ (k : Key). if is_key_of p k then stored_page x p else p) is
kept_stays x p v (Kept u) is has other = ap (λ (k : Key). if is_key_of p k then stored_page x p else p) is ∙ by_vpn (p.vpn == u) refl
  where
    by_vpn : (t : Bool) → (p.vpn == u) ≡ t → (if t then stored_page x p else p) ≡ p
    by_vpn true at = absurd (other (ap Kept (sym (eqb-true p.vpn v has) ∙ eqb-true p.vpn u at)))
    by_vpn false at = refl

seen_stays : (x : Store) (page : ℕ) (into : Key) → x.key ≡ into → Physical page ≢ into → (o : Option Seen) → sight_after x page o ≡ o
seen_stays x page (Kept u) is other o = ap (λ (k : Key). if is_physical page k then option_map (stored_sight x) o else o) is
seen_stays x page (Physical named) is other o = ap (λ (k : Key). if is_physical page k then option_map (stored_sight x) o else o) is ∙ by_page (named == page) refl
  where
    by_page : (t : Bool) → (named == page) ≡ t → (if t then option_map (stored_sight x) o else o) ≡ o
    by_page true at = absurd (other (ap Physical (sym (eqb-true named page at))))
    by_page false at = refl

other_bytes : (x : Store) (s : Solo) (key : Key) → key ≢ x.key → bytes_of (with_store x s) key ≡ bytes_of s key
other_bytes x s (Physical page) other = ap bytes_seen (seen_stays x page x.key refl other (s.seen page))
other_bytes x s (Kept v) other = ap bytes_in (found_after x s.kept v ∙ by_page (kept_at s.kept v) refl)
  where
    by_page : (o : Option KeptPage) → kept_at s.kept v ≡ o → option_map (kept_page_after x) o ≡ o
    by_page None at = refl
    by_page (Some p) at = ap Some (kept_stays x p v x.key refl (found_vpn s.kept v p at) other)

-- ---- where a VPN leads, by the book and by the environment

-- by a guaranteed mapping to a guaranteed page, or by a binding to a page that is allocated
data IsKeyed (b : Book) (e vpn : ℕ) (s : Solo) (n : Mapping) (key : Key) : Type 0 where
  IsKept : (j : ℕ) (p : KeptPage) → key ≡ Kept vpn → slice_get (b.kept e) j ≡ Some n → n.vpn ≡ vpn → kept_at s.kept vpn ≡ Some p → IsKeyed b e vpn s n key
  IsSeen : (y : Seen) → key ≡ Physical n.page → IsAllocated (b.pages n.page) → s.seen n.page ≡ Some y → IsKeyed b e vpn s n key

record IsAt (b : Book) (e vpn : ℕ) (s : Solo) : Type 0 where
  mapping : Mapping
  place : Place
  its : mapping_for b e vpn ≡ Some mapping
  led : leads s vpn ≡ Some place
  writable : mapping.writable ≡ place.writable
  keyed : IsKeyed b e vpn s mapping place.key

data Leads (b : Book) (e vpn : ℕ) (s : Solo) : Type 0 where
  Nowhere : mapping_for b e vpn ≡ None → leads s vpn ≡ None → Leads b e vpn s
  At : IsAt b e vpn s → Leads b e vpn s

has_key : (b : Book) (e vpn : ℕ) (s : Solo) (n : Mapping) (key : Key) → IsKeyed b e vpn s n key → HasKey s key
has_key b e vpn s n key (IsKept j p is at number page) = HasKept vpn p is page
has_key b e vpn s n key (IsSeen y is allocated at) = HasSeen n.page y is at

abbrev its_place : BookPlace → Place
its_place p = p.place

seen_some : (owned : Bool) (bytes : List ℕ) → (y : Seen) × (seen_if owned true bytes ≡ Some y)
seen_some true bytes = (record { owned = true; bytes = bytes }, refl)
seen_some false bytes = (record { owned = false; bytes = bytes }, refl)

module _ (w : World) (e : ℕ) (fine : Fine w) (maps : AreKept w) (agree : (vpn : ℕ) → option_map its_place (leads_by_book w.book e vpn) ≡ leads (w.solos e) vpn) where
  -- what is bound is seen
  bound_seen : (vpn : ℕ) (y : Binding) → binding_at w.book.version (w.book.binds e) vpn ≡ Some y → (x : Seen) × ((w.solos e).seen y.page ≡ Some x)
  bound_seen vpn y at =
      let row = row_of w.book.version vpn in
      let in_row = found_in_row vpn (w.book.binds e row) y at in
      let bound : is_bound y.page (w.book.binds e) ≡ true = bound_somewhere y.page (w.book.binds e) row (row_most w.book.version vpn) (ap (is_of_page y.page) in_row ∙ eq-eqb y.page y.page refl) in
      let owned = is_owned_by e (w.book.pages y.page) in
      let some = seen_some owned (page_bytes w y.page) in
      (some.0, (fine.sound.agreed e).seen y.page ∙ ap (λ (t : Bool). seen_if owned t (page_bytes w y.page)) bound ∙ some.1)

  kept_there : (vpn : ℕ) (place : Place) → leads (w.solos e) vpn ≡ Some place → place.key ≡ Kept vpn → (p : KeptPage) × (kept_at (w.solos e).kept vpn ≡ Some p)
  kept_there vpn place is key = by_page (kept_at (w.solos e).kept vpn) refl is
    where
      by_binding_is : (q : Option Binding) → option_map bound_place q ≡ Some place → ⊥
      by_binding_is None at = cc
      by_binding_is (Some y) at = let same : bound_place y ≡ place = cc in let clash : Physical y.page ≡ Kept vpn = ap (λ (p : Place). p.key) same ∙ key in cc

      by_page : (o : Option KeptPage) → kept_at (w.solos e).kept vpn ≡ o
          → option_or (option_map (place_at vpn) o) (option_map bound_place (binding_at (w.solos e).version (w.solos e).binds vpn)) ≡ Some place → (p : KeptPage) × (o ≡ Some p)
      by_page (Some p) at led = (p, refl)
      by_page None at led = absurd (by_binding_is (binding_at (w.solos e).version (w.solos e).binds vpn) led)

  leads_by : (vpn : ℕ) (o : Option Mapping) (q : Option Binding) → mapping_at (w.book.kept e) vpn ≡ o → binding_at w.book.version (w.book.binds e) vpn ≡ q
      → option_map its_place (option_or (option_map (by_mapping vpn) o) (option_map by_binding q)) ≡ leads (w.solos e) vpn
      → mapping_for w.book e vpn ≡ option_or o (option_map bound_mapping q) → Leads w.book e vpn (w.solos e)
  leads_by vpn (Some n) q at bound same its =
      let place : Place = record { key = Kept vpn; writable = n.writable } in
      let spot = placed (w.book.kept e) vpn n at in
      let page = kept_there vpn place (sym same) refl in
      At (record { mapping = n; place = place; its = its; led = sym same; writable = refl; keyed = IsKept spot.place page.0 refl spot.at spot.number page.1 })
  leads_by vpn None (Some y) at bound same its =
      let seen = bound_seen vpn y bound in
      let row = row_of w.book.version vpn in
      At (record {
        mapping = bound_mapping y;
        place = bound_place y;
        its = its;
        led = sym same;
        writable = refl;
        keyed = IsSeen seen.0 refl (fine.allocated e row y (found_in_row vpn (w.book.binds e row) y bound)) seen.1;
      })
  leads_by vpn None None at bound same its = Nowhere its (sym same)

  leads_alike : (vpn : ℕ) → Leads w.book e vpn (w.solos e)
  leads_alike vpn =
      leads_by vpn (mapping_at (w.book.kept e) vpn) (binding_at w.book.version (w.book.binds e) vpn) refl refl (agree vpn) refl

  -- two VPNs lead to one page exactly if they lead to one of the environment's
  data AreAlike (n m : Mapping) (k l : Key) : Type 0 where
    Alike : k ≡ l → n.page ≡ m.page → AreAlike n m k l
    Apart : k ≢ l → n.page ≢ m.page → AreAlike n m k l

  not_bound : (n m : Mapping) (j : ℕ) → slice_get (w.book.kept e) j ≡ Some n → IsAllocated (w.book.pages m.page) → n.page ≢ m.page
  not_bound n m j at allocated same = subst IsAllocated (sym (ap w.book.pages same) ∙ maps.rows e j n at) allocated

  one_mapping : (n m : Mapping) (j k : ℕ) → j ≡ k → slice_get (w.book.kept e) j ≡ Some n → slice_get (w.book.kept e) k ≡ Some m → n ≡ m
  one_mapping n m j k same at there = let both : Some n ≡ Some m = sym at ∙ ap (slice_get (w.book.kept e)) same ∙ there in cc

  alike : (v u : ℕ) (n m : Mapping) (k l : Key) → mapping_for w.book e v ≡ Some n → mapping_for w.book e u ≡ Some m → IsKeyed w.book e v (w.solos e) n k → IsKeyed w.book e u (w.solos e) m l → AreAlike n m k l
  alike v u n m k l first second (IsKept i p is at number page) (IsKept j q its there named other) = elim (cases_eq v u) [
    | inl same ↦
        let both : Some n ≡ Some m = sym first ∙ ap (mapping_for w.book e) same ∙ second in
        let one : n ≡ m = cc in
        Alike (is ∙ ap Kept same ∙ sym its) (ap (λ (x : Mapping). x.page) one)
    | inr differs ↦ Apart
        (λ same. let both : Kept v ≡ Kept u = sym is ∙ same ∙ its in let one : v ≡ u = cc in differs one)
        (λ same. differs (sym number ∙ ap (λ (x : Mapping). x.vpn) (one_mapping n m i j (maps.apart e e i j n m at there same).1 at there) ∙ named))
  ]
  alike v u n m k l first second (IsKept i p is at number page) (IsSeen y its allocated seen) =
      Apart (λ same. let clash : Kept v ≡ Physical m.page = sym is ∙ same ∙ its in cc) (not_bound n m i at allocated)
  alike v u n m k l first second (IsSeen y its allocated seen) (IsKept i p is at number page) =
      Apart (λ same. let clash : Physical n.page ≡ Kept u = sym its ∙ same ∙ is in cc) (λ same. not_bound m n i at allocated (sym same))
  alike v u n m k l first second (IsSeen y its allocated seen) (IsSeen z is granted found) = elim (cases_eq n.page m.page) [
    | inl same ↦ Alike (its ∙ ap Physical same ∙ sym is) same
    | inr differs ↦ Apart (λ same. let both : Physical n.page ≡ Physical m.page = sym its ∙ same ∙ is in let one : n.page ≡ m.page = cc in differs one) differs
  ]

  -- ---- memory after a store

  there_is : (frames : List (List ℕ)) (n : Mapping) → n.page < length frames → look_through frames (Some n) ≡ Some (record { writable = n.writable; bytes = page_at frames n.page })
  there_is frames n there = ap (option_map (λ (bytes : List ℕ). record { writable = n.writable; bytes = bytes })) (slice_get-get_or frames n.page [] there)

  module _ (frames : List (List ℕ)) (there : (vpn : ℕ) (n : Mapping) → mapping_for w.book e vpn ≡ Some n → n.page < length frames) (shows : (vpn : ℕ) → look frames (mapping_for w.book e) vpn ≡ sight (w.solos e) vpn) where
    abbrev s : Solo
    s = w.solos e

    bytes_there : (vpn : ℕ) (a : IsAt w.book e vpn s) → page_at frames a.mapping.page ≡ bytes_of s a.place.key
    bytes_there vpn a =
        let n = a.mapping in
        let left : Mapped = record { writable = n.writable; bytes = page_at frames n.page } in
        let right : Mapped = mapped s a.place in
        let both : Some left ≡ Some right = sym (there_is frames n (there vpn n a.its)) ∙ sym (ap (look_through frames) a.its) ∙ shows vpn ∙ ap (option_map (mapped s)) a.led in
        let same : left ≡ right = cc in
        ap (λ (x : Mapped). x.bytes) same

    module _ (write : Write) (target : IsAt w.book e (write.address / page_size) s) where
      abbrev offset : ℕ
      offset = write.address % page_size

      abbrev x : Store
      x = store_through write target.place

      abbrev after : List (List ℕ)
      after = after_put frames target.mapping.page offset write.bytes

      bytes_after : (vpn : ℕ) (a : IsAt w.book e vpn s) → page_at after a.mapping.page ≡ bytes_of (with_store x s) a.place.key
      bytes_after vpn a = by_key (alike vpn (write.address / page_size) a.mapping target.mapping a.place.key target.place.key a.its target.its a.keyed target.keyed)
        where
          by_key : AreAlike a.mapping target.mapping a.place.key target.place.key → page_at after a.mapping.page ≡ bytes_of (with_store x s) a.place.key
          by_key (Alike key page) =
              ap (page_at after) page
              ∙ get_or-set_same frames target.mapping.page (with_bytes (page_at frames target.mapping.page) (write.address % page_size) write.bytes) [] (there (write.address / page_size) target.mapping target.its)
              ∙ ap (λ (bytes : List ℕ). with_bytes bytes (write.address % page_size) write.bytes) (bytes_there (write.address / page_size) target)
              ∙ sym (own_bytes s target.place.key (write.address % page_size) write.bytes (has_key w.book e (write.address / page_size) s target.mapping target.place.key target.keyed))
              ∙ ap (bytes_of (with_store x s)) (sym key)
          by_key (Apart key page) =
              get_or-set_other frames target.mapping.page a.mapping.page (with_bytes (page_at frames target.mapping.page) (write.address % page_size) write.bytes) [] page
              ∙ bytes_there vpn a
              ∙ sym (other_bytes x s a.place.key key)

      seen_after : (vpn : ℕ) → look after (mapping_for w.book e) vpn ≡ sight (with_store x s) vpn
      seen_after vpn = by_place (leads_alike vpn)
        where
          by_place : Leads w.book e vpn s → look after (mapping_for w.book e) vpn ≡ sight (with_store x s) vpn
          by_place (Nowhere its led) = ap (look_through after) its ∙ sym (ap (option_map (mapped (with_store x s))) (stored_leads x s vpn ∙ led))
          by_place (At a) =
              let n = a.mapping in
              let size = length-set frames target.mapping.page (with_bytes (page_at frames target.mapping.page) (write.address % page_size) write.bytes) in
              ap (look_through after) a.its
              ∙ there_is after n (subst (λ (k : ℕ). n.page < k) (sym size) (there vpn n a.its))
              ∙ (λ i. Some (record { writable = a.writable i; bytes = bytes_after vpn a i }))
              ∙ sym (ap (option_map (mapped (with_store x s))) (stored_leads x s vpn ∙ a.led))

    -- whatever is written
    written_seen : (write : Write) → Leads w.book e (write.address / page_size) s
        → (vpn : ℕ) → look (frames_after frames (mapping_for w.book e) (Some write)) (mapping_for w.book e) vpn ≡ sight (acted (store_act (store_of s (Some write))) s) vpn
    written_seen write (Nowhere its led) vpn =
        ap (λ (o : Option Mapping). look (written_through frames write o) (mapping_for w.book e) vpn) its ∙ shows vpn
        ∙ sym (ap (λ (o : Option Place). sight (acted (store_act (option_map (store_through write) o)) s) vpn) led)
    written_seen write (At target) vpn =
        ap (λ (o : Option Mapping). look (written_through frames write o) (mapping_for w.book e) vpn) target.its ∙ seen_after write target vpn
        ∙ sym (ap (λ (o : Option Place). sight (acted (store_act (option_map (store_through write) o)) s) vpn) target.led)

    pub stored_seen : (o : Option Write) (vpn : ℕ) → look (frames_after frames (mapping_for w.book e) o) (mapping_for w.book e) vpn ≡ sight (acted (store_act (store_of s o)) s) vpn
    stored_seen None vpn = shows vpn
    stored_seen (Some write) vpn = written_seen write (leads_alike (write.address / page_size)) vpn
