-- What is put on a wire.
use Rattle.std.proofs.Common.{◌≡◌, ◌<◌, ◌-◌, ℕ, zero, suc, List, [], ◌∷◌, ◌++◌, length, map, drop, Bool, true, false, ◌&&◌, Some, refl, sym, ◌∙◌, ap, arith}
use Rattle.std.specs.Prelude.{◌==◌, filter, if◌then◌else◌, nat_le, nat_lt, slice_get}
use Rattle.std.specs.List.{list_all}
use Rattle.std.proofs.lemmas.Bool.{and_parts, cond_both, le-leb, leb-true}
use Rattle.std.proofs.lemmas.List.Folds.{list_all-append}
use Rattle.external_event.specs.Limits.{least_frame_size, most_packet_size}
use Rattle.external_event.specs.EventValue.{is_occurrence}
use Rattle.external_event.specs.Packet.{is_packet}
use Rattle.handler_rules.specs.Laws.{is_frame}
use Rattle.revocation_book.specs.Takings.{TakingsAreTakable}
use Rattle.call_verdicts.specs.Granted.{AgainAsks, GrantedMay}
use Rattle.world_model.specs.World.{World}
use Rattle.run_model.specs.Run.{System, world_after, world_after_ticks}
use Rattle.giving_law.specs.Origins.{SentHasOrigin}
use Rattle.sharing_law.specs.Whole.{AreEventsWithinLimits, GuaranteedAreWhole, PagesAreWhole}
use Rattle.wire_model.specs.Wire.{Frame, Wire, arrival, arrivals, framed, is_frame_for, joined, put_on_wire, sent_between, wired, world_in}
use Rattle.wire_law.specs.Systems.{system_on_wire}
use Rattle.limits_law.specs.Packets.{AllIsPutOnWire, SentAreFrames, all_sent_between}
use Rattle.limits_law.specs.Wired.{WireCarriesFrames, WiredAreWithin}
use Rattle.limits_law.proofs.Frames.{AreFrames, each_frames}
use Rattle.limits_law.proofs.Whole.{all_see_whole}

pub sent_are_frames : GrantedMay → AgainAsks → TakingsAreTakable → GuaranteedAreWhole → PagesAreWhole → SentHasOrigin → SentAreFrames
sent_are_frames granted again takable guaranteed whole origin system t k e within =
    each_frames granted origin system (all_see_whole granted again takable guaranteed whole system within) t k e

-- what holds of each of some things
all_both : {A : Type 0} (p : A → Bool) (xs ys : List A) → list_all p xs ≡ true → list_all p ys ≡ true → list_all p (xs ++ ys) ≡ true
all_both p xs ys first next = list_all-append p xs ys ∙ ap (λ (b : Bool). b && list_all p ys) first ∙ next

all_joined : {A : Type 0} (p : A → Bool) (f : ℕ → List A) (n : ℕ) → ((i : ℕ) → i < n → list_all p (f i) ≡ true) → list_all p (joined f n) ≡ true
all_joined p f zero each = refl
all_joined p f (suc n) each = all_both p (joined f n) (f n) (all_joined p f n (λ i below. each i (omega (arith, below)))) (each n (omega arith))

all_dropped : {A : Type 0} (p : A → Bool) (n : ℕ) (xs : List A) → list_all p xs ≡ true → list_all p (drop n xs) ≡ true
all_dropped p zero xs all = all
all_dropped p (suc n) [] all = refl
all_dropped p (suc n) (x ∷ xs) all = all_dropped p n xs (and_parts (p x) (list_all p xs) all).1

all_at : {A : Type 0} (p : A → Bool) (xs : List A) (k : ℕ) (x : A) → list_all p xs ≡ true → slice_get xs k ≡ Some x → p x ≡ true
all_at p [] k x all is = cc
all_at p (y ∷ xs) zero x all is = let same : y ≡ x = cc in ap p (sym same) ∙ (and_parts (p y) (list_all p xs) all).0
all_at p (y ∷ xs) (suc k) x all is = all_at p xs k x (and_parts (p y) (list_all p xs) all).1 is

-- nothing is left out of what passes
all_pass : {A : Type 0} (p q : A → Bool) → ((x : A) → p x ≡ true → q x ≡ true) → (xs : List A) → list_all p xs ≡ true → filter q xs ≡ xs
all_pass p q more [] all = refl
all_pass p q more (x ∷ xs) all =
    let parts = and_parts (p x) (list_all p xs) all in
    ap (λ (b : Bool). if b then x ∷ filter q xs else filter q xs) (more x parts.0) ∙ ap (λ ys. x ∷ ys) (all_pass p q more xs parts.1)

frame_is_packet : (packet : List ℕ) → is_frame packet ≡ true → is_packet packet ≡ true
frame_is_packet packet is =
    let parts = and_parts (nat_le least_frame_size (length packet)) (nat_le (length packet) most_packet_size) is in
    ap (λ (b : Bool). b && nat_le (length packet) most_packet_size) (le-leb 1 (length packet) (omega (arith, leb-true least_frame_size (length packet) parts.0))) ∙ parts.1

module _ (sent : SentAreFrames) where
  between : (system : System) (t : ℕ) → AreEventsWithinLimits system.schedule → AreFrames (all_sent_between (world_after system t) (world_after system (suc t)))
  between system t within =
      let old = world_after system t in
      let new = world_after system (suc t) in
      all_joined is_frame (λ e. drop (length (old.solos e).sent) (new.solos e).sent) new.count
      (λ e below. all_dropped is_frame (length (old.solos e).sent) (new.solos e).sent (sent system (suc t) 0 e within))

  pub all_is_put : AllIsPutOnWire
  all_is_put system t within = all_pass is_frame is_packet frame_is_packet (all_sent_between (world_after system t) (world_after system (suc t))) (between system t within)

-- ---- a wire

each_all : {A : Type 0} (p : A → Bool) (xs : List A) → ((k : ℕ) (x : A) → slice_get xs k ≡ Some x → p x ≡ true) → list_all p xs ≡ true
each_all p [] each = refl
each_all p (x ∷ xs) each = ap (λ (b : Bool). b && list_all p xs) (each 0 x refl) ∙ each_all p xs (λ k y is. each (suc k) y is)

all_filtered : {A : Type 0} (p q : A → Bool) (xs : List A) → list_all p xs ≡ true → list_all p (filter q xs) ≡ true
all_filtered p q [] all = refl
all_filtered p q (x ∷ xs) all =
    let parts = and_parts (p x) (list_all p xs) all in
    let rest = all_filtered p q xs parts.1 in
    cond_both (q x) (x ∷ filter q xs) (filter q xs) (λ ys. list_all p ys ≡ true) (λ yes. ap (λ (b : Bool). b && list_all p (filter q xs)) parts.0 ∙ rest) (λ no. rest)

passes : {A : Type 0} (q : A → Bool) (xs : List A) → list_all q (filter q xs) ≡ true
passes q [] = refl
passes q (x ∷ xs) = by_test (q x) refl (passes q xs)
  where
    by_test : (b : Bool) → q x ≡ b → list_all q (filter q xs) ≡ true → list_all q (if b then x ∷ filter q xs else filter q xs) ≡ true
    by_test true is rest = ap (λ (b : Bool). b && list_all q (filter q xs)) is ∙ rest
    by_test false is rest = rest

-- what a machine puts on the wire
abbrev has : (List ℕ → Bool) → Frame → Bool
has p frame = p frame.packet

all_framed : (p : List ℕ → Bool) (i : ℕ) (packets : List (List ℕ)) → list_all p packets ≡ true → list_all (has p) (map (framed i) packets) ≡ true
all_framed p i [] all = refl
all_framed p i (packet ∷ packets) all =
    let parts = and_parts (p packet) (list_all p packets) all in
    ap (λ (b : Bool). b && list_all (has p) (map (framed i) packets)) parts.0 ∙ all_framed p i packets parts.1

all_arrive : (frames : List Frame) → list_all (has is_packet) frames ≡ true → list_all is_occurrence (map arrival frames) ≡ true
all_arrive [] all = refl
all_arrive (frame ∷ frames) all =
    let parts = and_parts (is_packet frame.packet) (list_all (has is_packet) frames) all in
    ap (λ (b : Bool). b && list_all is_occurrence (map arrival frames)) parts.0 ∙ all_arrive frames parts.1

arrive_within : (wire : Wire) (t i : ℕ) → list_all is_occurrence (arrivals wire (wired wire t) t i) ≡ true
arrive_within wire t i =
    let happens = wired wire t in
    let frames = put_on_wire wire happens (t - wire.delay) in
    let put : list_all (has is_packet) frames ≡ true =
    all_joined (has is_packet) (λ j. map (framed j) (sent_between (world_in wire happens j (t - wire.delay)) (world_in wire happens j (suc (t - wire.delay))))) wire.count
    (λ j below. all_framed is_packet j (sent_between (world_in wire happens j (t - wire.delay)) (world_in wire happens j (suc (t - wire.delay)))) (passes is_packet (all_sent_between (world_in wire happens j (t - wire.delay)) (world_in wire happens j (suc (t - wire.delay)))))) in
    cond_both (nat_lt t wire.delay) [] (map arrival (filter (is_frame_for i) frames)) (λ xs. list_all is_occurrence xs ≡ true) (λ early. refl)
    (λ late. all_arrive (filter (is_frame_for i) frames) (all_filtered (has is_packet) (is_frame_for i) frames put))

happen_within : (wire : Wire) (i known : ℕ) → AreEventsWithinLimits (wire.machines i).schedule → (tick : ℕ) → list_all is_occurrence (wired wire known i tick) ≡ true
happen_within wire i zero within tick = refl
happen_within wire i (suc t) within tick =
    let own = (wire.machines i).schedule t in
    let come = arrivals wire (wired wire t) t i in
    cond_both (tick == t) (own ++ come) (wired wire t i tick) (λ xs. list_all is_occurrence xs ≡ true)
    (λ now. all_both is_occurrence own come (each_all is_occurrence own (within t)) (arrive_within wire t i)) (λ before. happen_within wire i t within tick)

pub wired_are_within : WiredAreWithin
wired_are_within wire i known within tick k what is = all_at is_occurrence (wired wire known i tick) k what (happen_within wire i known within tick) is

pub wire_carries_frames : SentAreFrames → WireCarriesFrames
wire_carries_frames sent wire images t known k frame boots own is = all_at (has is_frame) (put_on_wire wire (wired wire known) t) k frame put is
  where
    put_by : (i : ℕ) → i < wire.count → list_all (has is_frame) (map (framed i) (sent_between (world_in wire (wired wire known) i t) (world_in wire (wired wire known) i (suc t)))) ≡ true
    put_by i below =
        let system = system_on_wire wire images i known in
        let within = wired_are_within wire i known (own i below) in
        let same : (n : ℕ) → world_in wire (wired wire known) i n ≡ world_after system n = λ n. ap (λ (start : World). world_after_ticks (wired wire known i) start n) (boots i below) in
        all_framed is_frame i (sent_between (world_in wire (wired wire known) i t) (world_in wire (wired wire known) i (suc t)))
        (ap (λ (w : World). list_all is_frame (sent_between w (world_in wire (wired wire known) i (suc t)))) (same t)
        ∙ ap (λ (w : World). list_all is_frame (sent_between (world_after system t) w)) (same (suc t))
        ∙ all_filtered is_frame is_packet (all_sent_between (world_after system t) (world_after system (suc t))) (between sent system t within))

    put : list_all (has is_frame) (put_on_wire wire (wired wire known) t) ≡ true
    put = all_joined (has is_frame) (λ i. map (framed i) (sent_between (world_in wire (wired wire known) i t) (world_in wire (wired wire known) i (suc t)))) wire.count put_by
