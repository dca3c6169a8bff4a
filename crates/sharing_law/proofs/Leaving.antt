-- A store to a page that isn't guaranteed goes through a live binding.
use Rattle.std.proofs.Common.{◌≡◌, ℕ, zero, suc, List, [], ◌∷◌, Option, Some, inl, inr, refl, sym, ◌∙◌, ap, subst, ◌+◌}
use Rattle.std.specs.Prelude.{slice_get}
use Rattle.external_event.specs.declared.event.Occurrence.{Occurrence}
use Rattle.external_event.specs.declared.event.Occurrence.TheVariants as outside
use Rattle.filter_tree.specs.ClaimBook.{ClaimValue}
use Rattle.world_model.specs.Event.{arrives, delivers, happen}
use Rattle.world_model.specs.PageCalls.{page_bytes}
use Rattle.world_model.specs.Item.{Item, Left}
use Rattle.world_model.specs.Solo.{Store, Physical}
use Rattle.world_model.specs.Step.{Stores}
use Rattle.revocation_book.specs.declared.revocation.Taking.{Taking}
use Rattle.revocation_book.specs.Takings.{TakingsAreTakable}
use Rattle.world_model.specs.Deadlines.{takes}
use Rattle.world_model.specs.Tick.{phases_after, tick_phases}
use Rattle.world_model.specs.World.{World, Reply, after}
use Rattle.call_verdicts.specs.Granted.{AgainAsks, GrantedMay}
use Rattle.run_model.specs.Acting.{Acts}
use Rattle.run_model.specs.Licensed.{AtEvent, GivenIsLicensed, IsCopyLeft, IsLeft, IsRingLeft, LicensedAt, LicensedBehind, LicensedIn}
use Rattle.run_model.specs.Live.{HasLiveBinding, StoresAreLive}
use Rattle.run_model.specs.Run.{System, at_step, before_turn, given_by, happens_in, moment, next_phases, takings_in, world_after}
use Rattle.run_model.proofs.Phases.{next_moment, once_more}
use Rattle.sharing_law.specs.Right.{EachLeftIsLive, IsLeftByCopy, IsLeftByDelivery, LeftIsLive}
use Rattle.sharing_law.proofs.Delivering.{delivered_in, delivered_whole}
use Rattle.sharing_law.proofs.Listing.{ListsLess}
use Rattle.sharing_law.proofs.Moments.{turned_lists}
use Rattle.sharing_law.proofs.Repossessing.{copied_in, copy_in}
use Rattle.sharing_law.proofs.Agreeing.{Fine, all_fine, moment_fine}
use Rattle.sharing_law.proofs.Live.{each_is_live}
use Rattle.page_laws.proofs.Stores.{stores_go_through}

-- a store in a world whose book lists nothing but what it did before the tick
pub store_lives : GrantedMay → AgainAsks → TakingsAreTakable → (system : System) (t : ℕ) (m : World) → Fine m → ListsLess (world_after system t).book m.book → (e : ℕ) (x : Store) (page : ℕ) → Acts m e (Stores x) → x.key ≡ Physical page → HasLiveBinding system t e page
store_lives granted again takable system t m fine less e x page acts into =
    let it = stores_go_through (m.solos e) x page acts.comes into in
    let left = less.each e it.row it.binding (sym ((fine.sound.agreed e).binds it.row) ∙ it.found) in
    record { binding = it.binding; live = each_is_live granted again takable system t e it.row it.binding left.listed; its = it.its; writable = it.writable }

-- so it is in each step
pub stores_are_live : GrantedMay → AgainAsks → TakingsAreTakable → StoresAreLive
stores_are_live granted again takable system t e x page acts into =
    store_lives granted again takable system t (at_step system t) (moment_fine granted again takable system t (all_fine granted again takable system t) (before_turn system t + 1)) (turned_lists system t) e x page acts into

-- What is left is left in the step; or where a packet comes, or a page is taken.
data LeftSo (system : System) (t : ℕ) (m : World) (phase : Option (World → Reply)) (e page offset : ℕ) (bytes : List ℕ) : Type 0 where
  ByStore : IsLeft system t m e page offset bytes → LeftSo system t m phase e page offset bytes
  ByPacket : (packet : List ℕ) → phase ≡ Some (happen (outside.Packet packet)) → IsRingLeft m e packet page offset bytes → LeftSo system t m phase e page offset bytes
  ByTaking : (x : Taking) → phase ≡ Some (takes x) → IsCopyLeft m x e page offset bytes → LeftSo system t m phase e page offset bytes

module _ (system : System) (t : ℕ) where
  -- what happens from outside, kind by kind
  left_by_event : (what : Occurrence) (w : World) (e page offset : ℕ) (bytes : List ℕ) → AtEvent what w e (Left page offset bytes) → LeftSo system t w (Some (happen what)) e page offset bytes
  left_by_event (outside.Packet packet) w e page offset bytes its = ByPacket packet refl its
  left_by_event (outside.Line line) w e page offset bytes its = absurd its
  left_by_event (outside.Revoke env count grace) w e page offset bytes its = absurd its

  -- what comes behind the events
  left_behind : (xs : List Taking) (k : ℕ) (m : World) (e page offset : ℕ) (bytes : List ℕ) → LicensedBehind system t xs k m e (Left page offset bytes) → LeftSo system t m (slice_get (tick_phases xs) k) e page offset bytes
  left_behind [] (suc (suc zero)) m e page offset bytes its = ByStore its
  left_behind [] (suc (suc (suc (suc k)))) m e page offset bytes its = absurd its
  left_behind [] k m e page offset bytes its = absurd its
  left_behind (x ∷ xs) zero m e page offset bytes its = ByTaking x refl its
  left_behind (x ∷ xs) (suc k) m e page offset bytes its = left_behind xs k m e page offset bytes its

  left_in_phase : (happens : List Occurrence) (xs : List Taking) (k : ℕ) (m : World) (e page offset : ℕ) (bytes : List ℕ) → LicensedIn system t happens xs k m e (Left page offset bytes)
      → LeftSo system t m (slice_get (phases_after happens xs) k) e page offset bytes
  left_in_phase [] xs k m e page offset bytes its = left_behind xs k m e page offset bytes its
  left_in_phase (what ∷ happens) xs zero m e page offset bytes its = left_by_event what m e page offset bytes its
  left_in_phase (what ∷ happens) xs (suc k) m e page offset bytes its = left_in_phase happens xs k m e page offset bytes its

module _ (granted : GrantedMay) (again : AgainAsks) (takable : TakingsAreTakable) (system : System) (t k e page offset : ℕ) (bytes : List ℕ) where
  abbrev m : World
  m = moment system t k

  abbrev phase : Option (World → Reply)
  phase = slice_get (next_phases system.schedule (world_after system t)) k

  fine : Fine m
  fine = moment_fine granted again takable system t (all_fine granted again takable system t) k

  left_by_packet : (packet : List ℕ) → phase ≡ Some (happen (outside.Packet packet)) → IsRingLeft m e packet page offset bytes → IsLeftByDelivery system t k e page offset bytes
  left_by_packet packet is left =
      let c = left.lowest in
      let whole = delivered_whole m c packet fine.sound fine.claimed left.goes bytes left.filled in
      let next = next_moment system t k ∙ ap (once_more m) is ∙ ap (λ (o : Option ClaimValue). after m (arrives packet o m)) left.goes in
      let given = ap (λ (o : Option (World → Reply)). given_by m o c.env) is ∙ ap (λ (o : Option ClaimValue). (arrives packet o m).items c.env) left.goes in
      subst (λ (p : ℕ). IsLeftByDelivery system t k e p offset bytes) left.into (record {
        owner = c.env;
        another = left.another;
        owned = whole.2;
        delivered = delivered_in system t k c.page c.env (delivers c packet m) next given whole.0;
        whole = left.whole;
        its = whole.1 ∙ ap (λ (v : World). page_bytes v c.page) (sym next);
      })

  left_by_taking : (x : Taking) → phase ≡ Some (takes x) → IsCopyLeft m x e page offset bytes → IsLeftByCopy system t k e page offset bytes
  left_by_taking x is left =
      let next = next_moment system t k ∙ ap (once_more m) is in
      let given = ap (λ (o : Option (World → Reply)). given_by m o x.env) is in
      record {
        owner = x.env;
        another = left.another;
        copied = copied_in system t k page x.env (takes x m) next given (copy_in m x fine.sound fine.claimed fine.backed left.may page left.into);
        whole = left.whole;
        its = left.its;
      }

  left_so : LeftSo system t m phase e page offset bytes → LeftIsLive system t k e (Left page offset bytes)
  left_so (ByStore left) = inl left
  left_so (ByPacket packet is left) = inr (inl (left_by_packet packet is left))
  left_so (ByTaking x is left) = inr (inr (left_by_taking x is left))

licensed_lives : GrantedMay → AgainAsks → TakingsAreTakable → (system : System) (t k e : ℕ) (item : Item) → LicensedAt system t k e item → LeftIsLive system t k e item
licensed_lives granted again takable system t k e (Left page offset bytes) its =
    let w = world_after system t in
    left_so granted again takable system t k e page offset bytes (left_in_phase system t (happens_in system.schedule w) (takings_in system t) k (moment system t k) e page offset bytes its)
licensed_lives granted again takable system t k e item its = tt

pub each_left_is_live : GrantedMay → AgainAsks → TakingsAreTakable → GivenIsLicensed → EachLeftIsLive
each_left_is_live granted again takable licensed system t k e n d below = licensed_lives granted again takable system t k e _ (licensed system t k e n d below)
