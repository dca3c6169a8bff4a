-- Where VPNs lead by the book, at each moment: by a mapping of that VPN, of an environment that lives, to a page that is there.
use Rattle.std.proofs.Common.{◌≡◌, ◌<◌, ◌≤◌, ℕ, suc, List, [], ◌∷◌, length, map, Bool, true, false, Option, Some, None, inl, inr, refl, sym, ◌∙◌, ap, subst, arith}
use Rattle.std.proofs.lemmas.Bool.{cases_lt, eqb-true, ltb-false}
use Rattle.std.specs.Prelude.{◌==◌, ◌&&◌, not, nat_lt, if◌then◌else◌, slice_get}
use Rattle.std.specs.Option.{option_map, option_or}
use Rattle.bind_book.specs.declared.binding.Binding.{Binding}
use Rattle.bind_book.specs.Stripe.{of_number, row_of}
use Rattle.env_frames.specs.declared.mapping.Mapping.{Mapping}
use Rattle.env_frames.specs.Frame.{mapping_at}
use Rattle.guest_memory.specs.Look.{bound_mapping}
use Rattle.page_book.specs.declared.row.PageRow.TheVariants.{Free, Guaranteed}
use Rattle.revocation_book.specs.Takings.{TakingsAreTakable}
use Rattle.call_verdicts.specs.Granted.{AgainAsks, GrantedMay}
use Rattle.tlb_course.specs.Accesses.{mapping_for}
use Rattle.world_model.specs.declared.life.Life.{Life}
use Rattle.world_model.specs.declared.life.Life.TheVariants.{Live, Dead}
use Rattle.world_model.specs.Book.{Book}
use Rattle.world_model.specs.Solo.{is_dead}
use Rattle.world_model.specs.World.{World, Reply, is_living}
use Rattle.run_model.specs.Licensed.{GivenIsLicensed}
use Rattle.run_model.specs.Run.{System, moment, next_phases, world_after}
use Rattle.run_model.proofs.Phases.{next_moment, once_more}
use Rattle.sharing_law.specs.Agreement.{IsAllocated}
use Rattle.sharing_law.specs.Kept.{HasGuaranteedPages, KeptAgree, mapping_place, page_place}
use Rattle.sharing_law.proofs.Absent.{absent_bare}
use Rattle.sharing_law.proofs.Agreeing.{Fine, all_fine, moment_fine}
use Rattle.sharing_law.proofs.Moments.{each_moment}

-- by a guaranteed mapping, or by a binding
pub data IsListed (b : Book) (e vpn : ℕ) (m : Mapping) : Type 0 where
  Guarantees : (j : ℕ) → slice_get (b.kept e) j ≡ Some m → IsListed b e vpn m
  Binds : (y : Binding) → b.binds e (row_of b.version vpn) ≡ Some y → bound_mapping y ≡ m → IsListed b e vpn m

pub record IsPlaced (ms : List Mapping) (vpn : ℕ) (m : Mapping) : Type 0 where
  pub place : ℕ
  pub at : slice_get ms place ≡ Some m
  pub number : m.vpn ≡ vpn

pub placed : (ms : List Mapping) (vpn : ℕ) (m : Mapping) → mapping_at ms vpn ≡ Some m → IsPlaced ms vpn m
placed [] vpn m is = cc
placed (x ∷ ms) vpn m is = by_head (x.vpn == vpn) refl is (placed ms vpn m)
  where
    by_head : (b : Bool) → (x.vpn == vpn) ≡ b → (if b then Some x else mapping_at ms vpn) ≡ Some m → (mapping_at ms vpn ≡ Some m → IsPlaced ms vpn m) → IsPlaced (x ∷ ms) vpn m
    by_head true has at rest =
        let same : x ≡ m = cc in record { place = 0; at = ap Some same; number = ap (λ (n : Mapping). n.vpn) (sym same) ∙ eqb-true x.vpn vpn has }
    by_head false hasnt at rest = let further = rest at in record { place = suc further.place; at = further.at; number = further.number }

pub record IsLed (b : Book) (e vpn : ℕ) (m : Mapping) : Type 0 where
  pub number : m.vpn ≡ vpn
  pub listed : IsListed b e vpn m

by_number : (b : Book) (e vpn : ℕ) (m : Mapping) (y : Binding) (t : Bool) → b.binds e (row_of b.version vpn) ≡ Some y → (y.vpn == vpn) ≡ t
    → option_map bound_mapping (if t then Some y else None) ≡ Some m → IsLed b e vpn m
by_number b e vpn m y true at has is =
    let same : bound_mapping y ≡ m = cc in record { number = ap (λ (n : Mapping). n.vpn) (sym same) ∙ eqb-true y.vpn vpn has; listed = Binds y at same }
by_number b e vpn m y false at hasnt is = cc

by_parts : (b : Book) (e vpn : ℕ) (m : Mapping) (o : Option Mapping) (p : Option Binding) → mapping_at (b.kept e) vpn ≡ o → b.binds e (row_of b.version vpn) ≡ p
    → option_or o (option_map bound_mapping (of_number vpn p)) ≡ Some m → IsLed b e vpn m
by_parts b e vpn m (Some n) p at row is =
    let same : n ≡ m = cc in
    let place = placed (b.kept e) vpn n at in
    record { number = ap (λ (x : Mapping). x.vpn) (sym same) ∙ place.number; listed = Guarantees place.place (place.at ∙ ap Some same) }
by_parts b e vpn m None (Some y) at row is = by_number b e vpn m y (y.vpn == vpn) row refl is
by_parts b e vpn m None None at row is = cc

pub led : (b : Book) (e vpn : ℕ) (m : Mapping) → mapping_for b e vpn ≡ Some m → IsLed b e vpn m
led b e vpn m is = by_parts b e vpn m (mapping_at (b.kept e) vpn) (b.binds e (row_of b.version vpn)) refl refl is

-- what it is at a moment
pub record IsSafe (count : ℕ) (w : World) (e vpn : ℕ) (m : Mapping) : Type 0 where
  pub number : m.vpn ≡ vpn
  pub there : m.page < w.book.page_count
  pub has : e < count
  pub lives : is_living w e ≡ true

no_mappings : (ms : List Mapping) → map mapping_place ms ≡ [] → ms ≡ []
no_mappings [] is = refl
no_mappings (m ∷ ms) is = cc

once_count : (w : World) (o : Option (World → Reply)) → (once_more w o).count ≡ w.count
once_count w None = refl
once_count w (Some phase) = refl

module _ (granted : GrantedMay) (again : AgainAsks) (takable : TakingsAreTakable) (licensed : GivenIsLicensed) (maps : KeptAgree) (system : System) (room : HasGuaranteedPages system.image) where
  abbrev programs : ℕ
  programs = length system.image.programs

  pub fine : (t k : ℕ) → Fine (moment system t k)
  fine t k = moment_fine granted again takable system t (all_fine granted again takable system t) k

  count_is : (t k : ℕ) → (moment system t k).count ≡ programs
  count_is = each_moment (λ w. w.count ≡ programs) system next refl
    where
      next : (t k : ℕ) → (moment system t k).count ≡ programs → (moment system t (suc k)).count ≡ programs
      next t k was =
          ap (λ (w : World). w.count) (next_moment system t k)
          ∙ once_count (moment system t k) (slice_get (next_phases system.schedule (world_after system t)) k) ∙ was

  module _ (t k e vpn : ℕ) (m : Mapping) where
    -- a page that isn't free is there
    page_there : IsListed (moment system t k).book e vpn m → m.page < (moment system t k).book.page_count
    page_there listed = elim (cases_lt m.page (moment system t k).book.page_count) [
      | inl less ↦ less
      | inr past ↦ absurd (not_free listed ((fine t k).sound.behind m.page past))
    ]
      where
        not_free : IsListed (moment system t k).book e vpn m → (moment system t k).book.pages m.page ≡ Free → ⊥
        not_free (Guarantees j at) free = let both : Guaranteed e ≡ Free = sym ((maps system t k room).rows e j m at) ∙ free in cc
        not_free (Binds y at same) free =
            let w = moment system t k in
            let page : w.book.pages y.page ≡ Free = ap (λ (n : Mapping). w.book.pages n.page) same ∙ free in
            subst IsAllocated page ((fine t k).allocated e (row_of w.book.version vpn) y at)

    -- who has a mapping is of the image
    is_there : IsListed (moment system t k).book e vpn m → e < programs
    is_there listed = elim (cases_lt e programs) [
      | inl less ↦ less
      | inr lacks ↦ absurd (has_none lacks listed)
    ]
      where
        has_none : programs ≤ e → IsListed (moment system t k).book e vpn m → ⊥
        has_none lacks (Guarantees j at) =
            let w = moment system t k in
            let bare = absent_bare licensed system e lacks t k in
            let none : w.book.kept e ≡ [] = no_mappings (w.book.kept e) ((maps system t k room).places e ∙ ap (map page_place) bare.0) in
            let never : slice_get {X = Mapping} [] j ≡ Some m = ap (λ (ms : List Mapping). slice_get ms j) (sym none) ∙ at in
            cc
        has_none lacks (Binds y at same) =
            let w = moment system t k in
            let row = row_of w.book.version vpn in
            let bare = absent_bare licensed system e lacks t k in
            let never : None ≡ Some y = sym (bare.1 row) ∙ ((fine t k).sound.agreed e).binds row ∙ at in
            cc

    -- and isn't dead
    is_live : IsListed (moment system t k).book e vpn m → is_dead ((moment system t k).solos e).life ≡ false
    is_live listed = by_life ((moment system t k).solos e).life refl listed
      where
        by_life : (life : Life) → ((moment system t k).solos e).life ≡ life → IsListed (moment system t k).book e vpn m → is_dead life ≡ false
        by_life Live is listed = refl
        by_life (Dead cause) is (Guarantees j at) =
            let w = moment system t k in
            let never : slice_get {X = Mapping} [] j ≡ Some m = ap (λ (ms : List Mapping). slice_get ms j) (sym ((maps system t k room).none e cause is)) ∙ at in
            cc
        by_life (Dead cause) is (Binds y at same) =
            let w = moment system t k in
            let never : None ≡ Some y = sym (((fine t k).sound.none e cause is).binds (row_of w.book.version vpn)) ∙ at in
            cc

    lives_by : (b : Bool) → nat_lt e (moment system t k).count ≡ b → e < programs → is_dead ((moment system t k).solos e).life ≡ false → (b && not (is_dead ((moment system t k).solos e).life)) ≡ true
    lives_by true is less live = ap not live
    lives_by false is less live = let past = ltb-false e (moment system t k).count is in absurd (omega (arith, past, less, count_is t k))

    pub safe : mapping_for (moment system t k).book e vpn ≡ Some m → IsSafe programs (moment system t k) e vpn m
    safe is =
        let w = moment system t k in
        let at = led w.book e vpn m is in
        record {
          number = at.number;
          there = page_there at.listed;
          has = is_there at.listed;
          lives = lives_by (nat_lt e w.count) refl (is_there at.listed) (is_live at.listed);
        }
