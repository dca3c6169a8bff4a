-- Silent ticks: what a machine does in them, and that it is ahead of the others by them.
use Rattle.std.proofs.Common.{◌≡◌, ℕ, zero, suc, ◌+◌, ◌-◌, ◌<◌, ◌≤◌, true, List, [], ◌∷◌, ◌++◌, length, drop, refl, sym, ◌∙◌, ap, subst, arith, add-zero, add-suc}
use Rattle.std.specs.Prelude.{filter}
use Rattle.external_event.specs.declared.event.Occurrence.{Occurrence}
use Rattle.external_event.specs.Packet.{is_packet}
use Rattle.world_model.specs.Book.{is_idle_book}
use Rattle.world_model.specs.Event.{Schedule}
use Rattle.world_model.specs.World.{World}
use Rattle.run_model.specs.Run.{next_world, world_after_ticks}
use Rattle.board_model.specs.Shown.{Shown}
use Rattle.board_model.specs.Showing.{world_of}
use Rattle.board_model.specs.Stretch.{IsQuiet, IsSteady}
use Rattle.aegis_calls.specs.QuietTicks.{AreQuietTicks, AreSteadyTicks}
use Rattle.wire_model.specs.Laws.{BeginAtZero}
use Rattle.wire_model.specs.Wire.{Wire, arrivals, joined, sent_between, wired, world_on_wire}
use Rattle.wire_net.specs.Delivery.{arriving}
use Rattle.wire_net.specs.Station.{AreCounted, AreSilent}
use Rattle.wire_net.proofs.Wiring.{Laws, arrivals_are, coming_at, joined_alike, joined_none, sent_in_tick}

-- ---- ticks after ticks

run_further : (schedule : Schedule) (w : World) (t k : ℕ) → world_after_ticks schedule (world_after_ticks schedule w t) k ≡ world_after_ticks schedule w (t + k)
run_further schedule w t zero = rw add-zero refl
run_further schedule w t (suc k) = rw add-suc (ap (next_world schedule) (run_further schedule w t k))

next_idle : (schedule : Schedule) (w : World) → is_idle_book w.book ≡ true → next_world schedule w ≡ w
next_idle schedule w idle = rw idle refl

idle_stays : (schedule : Schedule) (w : World) (k : ℕ) → is_idle_book w.book ≡ true → world_after_ticks schedule w k ≡ w
idle_stays schedule w zero idle = refl
idle_stays schedule w (suc k) idle = ap (next_world schedule) (idle_stays schedule w k idle) ∙ next_idle schedule w idle

-- ---- silent ticks

pub steady_itself : (w : World) → IsSteady w w
steady_itself w = record { runner = refl; count = refl; sent = λ e. refl }

-- an idle machine stays as it is, and so does any for no tick
pub idle_is_silent : (from ticks : ℕ) (w : World) → is_idle_book w.book ≡ true → AreSilent from ticks w w
idle_is_silent from ticks w idle = record {
  world = λ schedule quiet. sym (idle_stays schedule w ticks idle);
  steady = λ schedule k quiet within. subst (IsSteady w) (sym (idle_stays schedule w k idle)) (steady_itself w);
}

pub none_are_silent : (from ticks : ℕ) (w : World) → ticks ≡ 0 → AreSilent from ticks w w
none_are_silent from ticks w none = record {
  world = λ schedule quiet. ap (world_after_ticks schedule w) (sym none);
  steady = λ schedule k quiet within.
      let first : 0 ≡ k = omega arith in
      subst (λ (n : ℕ). IsSteady w (world_after_ticks schedule w n)) first (steady_itself w);
}

-- so are those in which nothing happens but steps
pub stretch_is_silent : (ticks : ℕ) (b c : Shown) → AreQuietTicks b c ticks → AreSteadyTicks b ticks → AreSilent b.time ticks (world_of b) (world_of c)
stretch_is_silent ticks b c world steady = record { world = world; steady = λ schedule k quiet within. (steady schedule quiet).stays k within }

-- behind silent ticks nobody has sent more
pub steady_behind : (from ticks : ℕ) (w v : World) → AreSilent from ticks w v → IsSteady w v
steady_behind from ticks w v silent =
    let quiet : IsQuiet (λ (t : ℕ). []) from (from + ticks) = record { nothing = λ t later before. refl } in
    subst (IsSteady w) (sym (silent.world (λ (t : ℕ). []) quiet)) (silent.steady (λ (t : ℕ). []) ticks quiet (omega arith))

pub sent_by_then : (w u v : World) → IsSteady u v → sent_between w v ≡ sent_between w u
sent_by_then w u v steady =
    let f = λ (e : ℕ). drop (length (w.solos e).sent) (v.solos e).sent in
    let g = λ (e : ℕ). drop (length (w.solos e).sent) (u.solos e).sent in
    ap (filter is_packet)
    (joined_alike f g v.count (λ e within. ap (drop (length (w.solos e).sent)) (steady.sent e)) ∙ ap (joined g) steady.count)

drop_all : {A : Type 0} (xs : List A) → drop (length xs) xs ≡ []
drop_all [] = refl
drop_all (x ∷ xs) = drop_all xs

pub none_between : (w u v : World) → IsSteady w u → IsSteady w v → sent_between u v ≡ []
none_between w u v before behind =
    ap (filter is_packet)
    (joined_none (λ (e : ℕ). drop (length (u.solos e).sent) (v.solos e).sent) v.count
    (λ e within. ap (λ (n : ℕ). drop n (v.solos e).sent) (ap length (before.sent e ∙ sym (behind.sent e))) ∙ drop_all (v.solos e).sent))

pub counted_behind : (b c : Shown) (counts : List ℕ) → IsSteady (world_of b) (world_of c) → AreCounted b counts → AreCounted c counts
counted_behind b c counts steady are = record {
  count = are.count ∙ sym steady.count;
  each = λ e within. are.each e (subst (λ (n : ℕ). e < n) steady.count within) ∙ sym (ap length (steady.sent e));
}

-- ---- on the wire

-- A world is a machine's at a later tick, and until then it sends nothing.
pub record IsWorldAt (net : Wire) (i t later : ℕ) (w : World) : Type 0 where
  pub world : w ≡ world_on_wire net i later
  pub silent : (u : ℕ) → t ≤ u → u < later → sent_in_tick net u i ≡ []

-- so it is from a later time on
pub world_from : (net : Wire) (i t next later : ℕ) (w : World) → t ≤ next → IsWorldAt net i t later w → IsWorldAt net i next later w
world_from net i t next later w after at = record { world = at.world; silent = λ u from before. at.silent u (omega arith) before }

module _ (laws : Laws) (net : Wire) (i : ℕ) (zeros : BeginAtZero net) (inside : i < net.count) where
  -- where its schedule says nothing and nothing comes for it, nothing happens in it from outside
  pub quiet_on_wire : (t until : ℕ) → 1 ≤ net.delay → IsQuiet (net.machines i).schedule t until → ((u : ℕ) → t ≤ u → u < until → coming_at net u ≡ [])
      → IsQuiet (wired net until i) t until
  quiet_on_wire t until least own none = record {
    nothing = λ u from before.
        laws.happens net i u until before
        ∙ ap (λ (xs : List Occurrence). xs ++ arrivals net (wired net u) u i) (own.nothing u from before)
        ∙ sym (arrivals_are laws.frames net i u zeros least)
        ∙ ap (arriving i) (none u from before);
  }

  -- its worlds from a tick on
  worlds_from : (t k j : ℕ) (w : World) → w ≡ world_on_wire net i t → j ≤ k → world_on_wire net i (t + j) ≡ world_after_ticks (wired net (t + k) i) w j
  worlds_from t k j w is within =
      let schedule = wired net (t + k) i in
      sym (laws.worlds net i (t + j) (t + k) zeros inside (omega arith))
      ∙ sym (run_further schedule (net.machines i).start t j)
      ∙ ap (λ (v : World). world_after_ticks schedule v j) (laws.worlds net i t (t + k) zeros inside (omega arith) ∙ sym is)

  -- by silent ticks it is ahead
  pub ahead_by : (t k : ℕ) (w v : World) → w ≡ world_on_wire net i t → IsQuiet (wired net (t + k) i) t (t + k) → AreSilent t k w v → IsWorldAt net i t (t + k) v
  ahead_by t k w v is quiet are = record {
    world = are.world (wired net (t + k) i) quiet ∙ sym (worlds_from t k k w is (omega arith));
    silent = λ u from before.
        let j = u - t in
        let now : t + j ≡ u = omega arith in
        let next : t + (j + 1) ≡ u + 1 = omega arith in
        let one = worlds_from t k j w is (omega arith) in
        let other = worlds_from t k (j + 1) w is (omega arith) in
        none_between w (world_on_wire net i u) (world_on_wire net i (u + 1))
        (subst (IsSteady w) (sym one ∙ ap (world_on_wire net i) now) (are.steady (wired net (t + k) i) j quiet (omega arith)))
        (subst (IsSteady w) (sym other ∙ ap (world_on_wire net i) next) (are.steady (wired net (t + k) i) (j + 1) quiet (omega arith)));
  }
