-- The machines make a tick one after another.
use Rattle.std.proofs.Common.{◌≡◌, ℕ, suc, ◌+◌, ◌<◌, ◌≤◌, List, [], ◌∷◌, ◌++◌, map, length, get_or, set, refl, sym, ◌∙◌, ap, arith, inl, inr, append_assoc, subst, drop}
use Rattle.std.specs.Prelude.{filter}
use Rattle.std.proofs.lemmas.Bool.{cases_eq, cases_lt, cond_both}
use Rattle.std.proofs.lemmas.List.{get_or-set_other, get_or-set_same}
use Rattle.external_event.specs.Packet.{is_packet}
use Rattle.board_model.specs.Shown.{Shown}
use Rattle.external_event.specs.declared.event.Occurrence.{Occurrence}
use Rattle.world_model.specs.Book.{is_idle_book}
use Rattle.world_model.specs.Deadlines.{takings}
use Rattle.world_model.specs.Event.{happen}
use Rattle.world_model.specs.Tick.{tick_phases, tick_step}
use Rattle.world_model.specs.World.{World, Reply, after, run_phases}
use Rattle.wire_model.specs.Wire.{after_tick, joined, sent_between}
use Rattle.wire_net.specs.declared.delivery.Delivery.{Delivery}
use Rattle.wire_net.specs.declared.net.Station.{Station}
use Rattle.wire_net.specs.Sending.{sent_by, sent_by_first}
use Rattle.wire_net.specs.Station.{Happened, IsThrough, Partly}
use Rattle.wire_net.proofs.Wiring.{joined_alike}

-- what was counted of the board before is what is known to be sent
pub sent_since : (old new : World) (counts : List ℕ) → ((e : ℕ) → e < new.count → get_or counts e 0 ≡ length (old.solos e).sent)
    → filter is_packet (joined (λ e. drop (get_or counts e 0) (new.solos e).sent) new.count) ≡ sent_between old new
sent_since old new counts are =
    ap (filter is_packet) (joined_alike (λ e. drop (get_or counts e 0) (new.solos e).sent) (λ e. drop (length (old.solos e).sent) (new.solos e).sent) new.count
    (λ e within. ap (λ (n : ℕ). drop n (new.solos e).sent) (are e within)))

run_count : (phases : List (World → Reply)) (w : World) → (run_phases w phases).count ≡ w.count
run_count [] w = refl
run_count (phase ∷ phases) w = run_count phases (after w (phase w))

-- a tick leaves as many environments
pub same_count : (happens : List Occurrence) (w : World) → (after_tick happens w).count ≡ w.count
same_count happens w =
    let v = run_phases w (map happen happens) in
    cond_both (is_idle_book w.book) w (tick_step v) (λ (u : World). u.count ≡ w.count) (λ idle. refl)
    (λ busy. run_count (tick_phases (takings v)) v ∙ run_count (map happen happens) w)

-- one that is through with a tick made it, or is as it was
happened_through : (i t until : ℕ) (due : List Delivery) (b : Shown) (s : Station) (c : Shown) (r : Station) → IsThrough i t until due b s c r → Happened i t until due b s c
happened_through i t until due b s c r (inl ticked) = inl (inr ticked.went)
happened_through i t until due b s c r (inr ahead) = inr ahead.board

-- ---- one machine more

-- what holds of each of lower number, and of this one, holds of each of those
pub done_more : (P : ℕ → Shown → Station → Shown → Station → Type 0) (boards now : List Shown) (stations behind : List Station) (place : ℕ) (board : Shown) (station : Station)
    → place < length now → place < length behind
    → ((i : ℕ) (b : Shown) (s : Station) → i < place → P i (get_or boards i b) (get_or stations i s) (get_or now i b) (get_or behind i s))
    → ((b : Shown) (s : Station) → P place (get_or boards place b) (get_or stations place s) board station)
    → (i : ℕ) (b : Shown) (s : Station) → i < place + 1 → P i (get_or boards i b) (get_or stations i s) (get_or (set now place board) i b) (get_or (set behind place station) i s)
done_more P boards now stations behind place board station within inside so_far this i b s less =
    elim (cases_eq i place) [
      | inl here ↦
          subst (λ (k : ℕ). P k (get_or boards k b) (get_or stations k s) (get_or (set now place board) k b) (get_or (set behind place station) k s)) (sym here)
          (subst (λ (x : Shown). P place (get_or boards place b) (get_or stations place s) x (get_or (set behind place station) place s)) (sym (get_or-set_same now place board b within))
          (subst (λ (x : Station). P place (get_or boards place b) (get_or stations place s) board x) (sym (get_or-set_same behind place station s inside)) (this b s)))
      | inr other ↦
          subst (λ (x : Shown). P i (get_or boards i b) (get_or stations i s) x (get_or (set behind place station) i s)) (sym (get_or-set_other now place i board b other))
          (subst (λ (x : Station). P i (get_or boards i b) (get_or stations i s) (get_or now i b) x) (sym (get_or-set_other behind place i station s other)) (so_far i b s (omega arith)))
    ]

-- the others are as they were
pub left_more : {A : Type 0} (first now : List A) (place : ℕ) (x : A) → ((i : ℕ) (d : A) → place ≤ i → get_or now i d ≡ get_or first i d)
    → (i : ℕ) (d : A) → place + 1 ≤ i → get_or (set now place x) i d ≡ get_or first i d
left_more first now place x left i d later = get_or-set_other now place i x d (λ same. omega arith) ∙ left i d (omega arith)

pub out_more : (arrival : ℕ) (boards now : List Shown) (place : ℕ) (board b old : Shown) (first out new : List Delivery) → place < length now → old ≡ get_or boards place b
    → out ≡ first ++ sent_by_first place arrival boards now b → new ≡ out ++ sent_by place arrival old board
    → new ≡ first ++ sent_by_first (place + 1) arrival boards (set now place board) b
out_more arrival boards now place board b old first out new within was before more =
    let next : suc place ≡ place + 1 = omega arith in
    let late = λ (i : ℕ). sent_by i arrival (get_or boards i b) (get_or (set now place board) i b) in
    let one = sent_by place arrival old board in
    let here : one ≡ late place =
    ap (λ (x : Shown). sent_by place arrival x board) was
    ∙ ap (sent_by place arrival (get_or boards place b)) (sym (get_or-set_same now place board b within)) in
    let same : sent_by_first place arrival boards now b ≡ joined late place =
    joined_alike (λ (i : ℕ). sent_by i arrival (get_or boards i b) (get_or now i b)) late place
    (λ i less. ap (sent_by i arrival (get_or boards i b)) (sym (get_or-set_other now place i board b (λ same. omega arith)))) in
    more
    ∙ ap (λ (xs : List Delivery). xs ++ one) before
    ∙ append_assoc first (sent_by_first place arrival boards now b) one
    ∙ ap (λ (xs : List Delivery). first ++ (xs ++ one)) same
    ∙ ap (λ (xs : List Delivery). first ++ (joined late place ++ xs)) here
    ∙ ap (λ (n : ℕ). first ++ joined late n) next

-- where the tick of this machine was refused, each is through with it, came into it, or is as it was
pub refused_each : (t until : ℕ) (due : List Delivery) (boards now : List Shown) (stations behind : List Station) (place : ℕ) (board : Shown) → place < length now
    → ((i : ℕ) (b : Shown) (s : Station) → i < place → IsThrough i t until due (get_or boards i b) (get_or stations i s) (get_or now i b) (get_or behind i s))
    → ((i : ℕ) (b : Shown) → place ≤ i → get_or now i b ≡ get_or boards i b)
    → ((b : Shown) (s : Station) → Partly place t until due (get_or boards place b) (get_or stations place s) board)
    → (i : ℕ) (b : Shown) (s : Station) → Happened i t until due (get_or boards i b) (get_or stations i s) (get_or (set now place board) i b)
refused_each t until due boards now stations behind place board within done left part i b s =
    elim (cases_eq i place) [
      | inl here ↦
          subst (λ (k : ℕ). Happened k t until due (get_or boards k b) (get_or stations k s) (get_or (set now place board) k b)) (sym here)
          (subst (λ (x : Shown). Happened place t until due (get_or boards place b) (get_or stations place s) x) (sym (get_or-set_same now place board b within)) (inl (part b s)))
      | inr other ↦
          subst (λ (x : Shown). Happened i t until due (get_or boards i b) (get_or stations i s) x) (sym (get_or-set_other now place i board b other))
          (elim (cases_lt i place) [
            | inl below ↦ happened_through i t until due (get_or boards i b) (get_or stations i s) (get_or now i b) (get_or behind i s) (done i b s below)
            | inr later ↦ inr (left i b later)
          ])
    ]
