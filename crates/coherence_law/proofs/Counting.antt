-- The counts of refills are numbers: no count wraps within the ticks that there may be.
use Rattle.std.proofs.Common.{◌≡◌, ◌≢◌, ◌+◌, ◌*◌, ◌^◌, ◌<◌, ◌≤◌, ℕ, zero, suc, List, [], ◌∷◌, length, replicate, Bool, true, false, inl, inr, refl, sym, ◌∙◌, ap, subst, arith, get_or-set_same, get_or-set_other}
use Rattle.std.proofs.lemmas.Bool.{cases_eq, cases_lt}
use Rattle.std.specs.Prelude.{if◌then◌else◌, slice_index_or, slice_set}
use Rattle.aegis_limits.specs.Limits.{environment_numbers, most_ticks}
use Rattle.tlb_model.specs.declared.fills.Fills.{Fills}
use Rattle.tlb_model.specs.Cache.{fills_of, no_fills, one_more, with_fills, with_forward, with_refill}
use Rattle.tlb_course.specs.Course.{cache_after, cache_ticked}
use Rattle.tlb_course.specs.Fills.{AreFew, TicksFillFew, miss_counted, refills_counted}
use Rattle.world_model.specs.Book.{is_idle_book}
use Rattle.run_model.specs.Run.{System, once_happened, world_after}
use Rattle.coherence_law.specs.Counts.{CountsRiseByFew, IsRiseOfOne, Rise, fills_after}

stays : (f : Fills) → Rise 0 0 f f
stays f = record { guaranteed = omega arith; stripe = omega arith; refilled = omega arith; forwarded = omega arith; missed = omega arith }

then_rise : (a b c d : ℕ) (f g h : Fills) → Rise a b f g → Rise c d g h → Rise (a + c) (b + d) f h
then_rise a b c d f g h first next = record {
  guaranteed = omega (arith, first.guaranteed, next.guaranteed);
  stripe = omega (arith, first.stripe, next.stripe);
  refilled = omega (arith, first.refilled, next.refilled);
  forwarded = omega (arith, first.forwarded, next.forwarded);
  missed = omega (arith, first.missed, next.missed);
}

wider : (a b c d : ℕ) (f g : Fills) → a ≤ c → b ≤ d → Rise a b f g → Rise c d f g
wider a b c d f g more further rise = record {
  guaranteed = rise.guaranteed;
  stripe = rise.stripe;
  refilled = omega (arith, rise.refilled, more);
  forwarded = rise.forwarded;
  missed = omega (arith, rise.missed, further);
}

-- a count that is far from its end rises by one
one_more_is : (n : ℕ) → n + 1 < 2 ^ 32 → one_more n ≡ n + 1
one_more_is n less = omega (arith, less)

-- the counts are at most so many
record AreMost (refills misses : ℕ) (f : Fills) : Type 0 where
  refilled : f.guaranteed + f.stripe ≤ refills
  missed : f.forwarded ≤ misses

most_after : (a b r m : ℕ) (f g : Fills) → AreMost r m f → Rise a b f g → AreMost (r + a) (m + b) g
most_after a b r m f g most rise = record { refilled = omega (arith, most.refilled, rise.refilled); missed = omega (arith, most.missed, rise.missed) }

refill_rises : (kept : Bool) (f : Fills) (r m : ℕ) → AreMost r m f → r + 1 < 2 ^ 32 → Rise 1 0 f (with_refill kept f)
refill_rises true f r m most far =
    let is : one_more f.guaranteed ≡ f.guaranteed + 1 = one_more_is f.guaranteed (omega (arith, most.refilled, far)) in
    record { guaranteed = omega (arith, is); stripe = omega arith; refilled = omega (arith, is); forwarded = omega arith; missed = omega arith }
refill_rises false f r m most far =
    let is : one_more f.stripe ≡ f.stripe + 1 = one_more_is f.stripe (omega (arith, most.refilled, far)) in
    record { guaranteed = omega arith; stripe = omega (arith, is); refilled = omega (arith, is); forwarded = omega arith; missed = omega arith }

forward_rises : (f : Fills) (r m : ℕ) → AreMost r m f → m + 1 < 2 ^ 32 → Rise 0 1 f (with_forward f)
forward_rises f r m most far =
    let is : one_more f.forwarded ≡ f.forwarded + 1 = one_more_is f.forwarded (omega (arith, most.missed, far)) in
    record { guaranteed = omega arith; stripe = omega arith; refilled = omega arith; forwarded = omega (arith, is); missed = omega (arith, is) }

-- a number from the end on has no place
set_past : (fills : List Fills) (e : ℕ) (x : Fills) → length fills ≤ e → slice_set fills e x ≡ fills
set_past [] e x past = refl
set_past (f ∷ fills) zero x past = absurd (omega (arith, past))
set_past (f ∷ fills) (suc e) x past = ap (λ fs. f ∷ fs) (set_past fills e x (omega (arith, past)))

-- what becomes of an environment's counts, and of another's
own_fills : (P : Fills → Type 0) (f : Fills → Fills) (e : ℕ) (fills : List Fills) → P (fills_of fills e) → P (f (fills_of fills e)) → P (fills_of (with_fills f e fills) e)
own_fills P f e fills was will = elim (cases_lt e (length fills)) [
  | inl there ↦ subst P (sym (get_or-set_same fills e (f (fills_of fills e)) no_fills there)) will
  | inr past ↦ subst P (sym (ap (λ (fs : List Fills). fills_of fs e) (set_past fills e (f (fills_of fills e)) past))) was
]

other_fills : (f : Fills → Fills) (e i : ℕ) (fills : List Fills) → i ≢ e → fills_of (with_fills f e fills) i ≡ fills_of fills i
other_fills f e i fills other = get_or-set_other fills e i (f (fills_of fills e)) no_fills other

refills_rise : (e : ℕ) (gs : List Bool) (fills : List Fills) (r m : ℕ) → AreMost r m (fills_of fills e) → r + length gs < 2 ^ 32
    → Rise (length gs) 0 (fills_of fills e) (fills_of (refills_counted e gs fills) e)
refills_rise e [] fills r m most far = stays (fills_of fills e)
refills_rise e (g ∷ gs) fills r m most far =
    let old = fills_of fills e in
    let next = with_fills (with_refill g) e fills in
    let one : Rise 1 0 old (fills_of next e) =
    own_fills (Rise 1 0 old) (with_refill g) e fills (wider 0 0 1 0 old old (omega arith) (omega arith) (stays old)) (refill_rises g old r m most (omega (arith, far))) in
    let rest = refills_rise e gs next (r + 1) (m + 0) (most_after 1 0 r m old (fills_of next e) most one) (omega (arith, far)) in
    wider (1 + length gs) (0 + 0) (suc (length gs)) 0 old (fills_of (refills_counted e gs next) e) (omega arith) (omega arith)
    (then_rise 1 0 (length gs) 0 old (fills_of next e) (fills_of (refills_counted e gs next) e) one rest)

others_refilled : (e i : ℕ) (gs : List Bool) (fills : List Fills) → i ≢ e → fills_of (refills_counted e gs fills) i ≡ fills_of fills i
others_refilled e i [] fills other = refl
others_refilled e i (g ∷ gs) fills other = others_refilled e i gs (with_fills (with_refill g) e fills) other ∙ other_fills (with_refill g) e i fills other

miss_rises : (e : ℕ) (b : Bool) (fills : List Fills) (r m : ℕ) → AreMost r m (fills_of fills e) → m + 1 < 2 ^ 32 → Rise 0 1 (fills_of fills e) (fills_of (miss_counted e b fills) e)
miss_rises e true fills r m most far =
    let old = fills_of fills e in
    own_fills (Rise 0 1 old) with_forward e fills (wider 0 0 0 1 old old (omega arith) (omega arith) (stays old)) (forward_rises old r m most far)
miss_rises e false fills r m most far = let old = fills_of fills e in wider 0 0 0 1 old old (omega arith) (omega arith) (stays old)

others_missed : (e i : ℕ) (b : Bool) (fills : List Fills) → i ≢ e → fills_of (miss_counted e b fills) i ≡ fills_of fills i
others_missed e i true fills other = other_fills with_forward e i fills other
others_missed e i false fills other = refl

-- a tick
few_rise : (before after : List Fills) (r m : ℕ) → ((e : ℕ) → AreMost r m (fills_of before e)) → r + 2 < 2 ^ 32 → m + 1 < 2 ^ 32 → AreFew before after → IsRiseOfOne (fills_of before) (fills_of after)
few_rise before after r m most refills misses few =
    let e = few.env in
    let n = length few.guaranteed in
    let middle = refills_counted e few.guaranteed before in
    let one = refills_rise e few.guaranteed before r m (most e) (omega (arith, few.few, refills)) in
    let two = miss_rises e few.forwarded middle (r + n) (m + 0) (most_after n 0 r m (fills_of before e) (fills_of middle e) (most e) one) (omega (arith, misses)) in
    let last = miss_counted e few.forwarded middle in
    subst (λ (fs : List Fills). IsRiseOfOne (fills_of before) (fills_of fs)) (sym few.counted)
    (record {
      env = e;
      its = wider (n + 0) (0 + 1) 2 1 (fills_of before e) (fills_of last e) (omega (arith, few.few)) (omega arith)
          (then_rise n 0 0 1 (fills_of before e) (fills_of middle e) (fills_of last e) one two);
      others = λ i other. others_missed e i few.forwarded middle other ∙ others_refilled e i few.guaranteed before other;
    })

none_rise : (f : ℕ → Fills) → IsRiseOfOne f f
none_rise f = record { env = 0; its = wider 0 0 2 1 (f 0) (f 0) (omega arith) (omega arith) (stays (f 0)); others = λ e other. refl }

module _ (law : TicksFillFew) (system : System) where
  abbrev AllMost : ℕ → Type 0
  AllMost t = (e : ℕ) → AreMost (2 * t) t (fills_after system t e)

  tick_rise : (t : ℕ) → t < most_ticks → AllMost t → IsRiseOfOne (fills_after system t) (fills_after system (suc t))
  tick_rise t less most = by_idle (is_idle_book (world_after system t).book)
    where
      by_idle : (idle : Bool) → IsRiseOfOne (fills_after system t) (fills_of (if idle then cache_after system t else cache_ticked (once_happened system.schedule (world_after system t)) (cache_after system t)).fills)
      by_idle true = none_rise (fills_after system t)
      by_idle false =
          let c = cache_after system t in
          let w = once_happened system.schedule (world_after system t) in
          few_rise c.fills (cache_ticked w c).fills (2 * t) t most (omega (arith, less)) (omega (arith, less)) (law w c)

  boot_most : AllMost 0
  boot_most e = subst (AreMost 0 0) (sym (none_yet e)) (record { refilled = omega arith; missed = omega arith })
    where
      none_yet : (e : ℕ) → fills_of (replicate environment_numbers no_fills) e ≡ no_fills
      none_yet e = at_each environment_numbers e
        where
          at_each : (n i : ℕ) → slice_index_or (replicate n no_fills) i no_fills ≡ no_fills
          at_each zero i = refl
          at_each (suc n) zero = refl
          at_each (suc n) (suc i) = at_each n i

  next_most : (t : ℕ) → AllMost t → IsRiseOfOne (fills_after system t) (fills_after system (suc t)) → AllMost (suc t)
  next_most t most rise e = elim (cases_eq e rise.env) [
    | inl same ↦
        let its = most_after 2 1 (2 * t) t (fills_after system t rise.env) (fills_after system (suc t) rise.env) (most rise.env) rise.its in
        subst (λ (i : ℕ). AreMost (2 * suc t) (suc t) (fills_after system (suc t) i)) (sym same)
        (record { refilled = omega (arith, its.refilled); missed = omega (arith, its.missed) })
    | inr other ↦
        let its = most e in
        subst (AreMost (2 * suc t) (suc t)) (sym (rise.others e other)) (record { refilled = omega (arith, its.refilled); missed = omega (arith, its.missed) })
  ]

  all_most : (t : ℕ) → t ≤ most_ticks → AllMost t
  all_most zero within = boot_most
  all_most (suc t) within =
      let most = all_most t (omega (arith, within)) in
      next_most t most (tick_rise t (omega (arith, within)) most)

pub counts_rise : TicksFillFew → CountsRiseByFew
counts_rise law system t less = tick_rise law system t less (all_most law system t (omega (arith, less)))
