-- Feeds and slices as the ticks go on.
use Rattle.std.proofs.Common.{◌≡◌, ◌≤◌, ◌+◌, ◌∙◌, ℕ, zero, suc, List, [], ◌++◌, Bool, true, false, ap, append_assoc, arith, refl, sym, inl, inr}
use Rattle.std.specs.Prelude.{if◌then◌else◌, not, ◌&&◌, ◌||◌}
use Rattle.std.proofs.lemmas.Bool.{cases_lt}
use Rattle.std.proofs.lemmas.List.{append-nil}
use Rattle.world_model.specs.Book.{is_idle_book, is_runner}
use Rattle.world_model.specs.Item.{Item}
use Rattle.world_model.specs.World.{World, in_turn, run_phases}
use Rattle.run_model.specs.Run.{System, feed, items_in, next_phases, world_after}
use Rattle.std.specs.List.{list_any}
use Rattle.run_model.specs.Slices.{begins_in, begins_slice, ends_in, runs_after, slices}

-- a feed grows at its end
pub grows : (s : System) (e t u : ℕ) → t ≤ u → (more : List Item) × (feed s e u ≡ feed s e t ++ more)
grows s e t zero before =
    let first : t ≡ 0 = omega (arith, before) in
    ([], sym (append-nil (feed s e zero)) ∙ ap (λ v. feed s e v ++ []) (sym first))
grows s e t (suc u) before = elim (cases_lt t (suc u)) as (λ w. (more : List Item) × (feed s e (suc u) ≡ feed s e t ++ more)) [
  | inl less ↦
      let so_far = grows s e t u (omega (arith, less)) in
      let now = items_in s u e in
      (so_far.0 ++ now, ap (λ (xs : List Item). xs ++ now) so_far.1 ∙ append_assoc (feed s e t) so_far.0 now)
  | inr past ↦
      let last : t ≡ suc u = omega (arith, past, before) in
      ([], sym (append-nil (feed s e (suc u))) ∙ ap (λ v. feed s e v ++ []) (sym last))
]

-- slices end one after another
pub slices_by_one : (s : System) (e t : ℕ) → slices s e (suc t) ≤ slices s e t + 1
slices_by_one s e t = by_end (ends_in s e t)
  where
    by_end : (ended : Bool) → slices s e t + (if ended then 1 else 0) ≤ slices s e t + 1
    by_end true = omega arith
    by_end false = omega arith

pub slices_rise : (s : System) (e t u : ℕ) → t ≤ u → slices s e t ≤ slices s e u
slices_rise s e t zero before =
    let first : t ≡ 0 = omega (arith, before) in
    let same : slices s e t ≡ slices s e zero = ap (slices s e) first in
    omega (arith, same)
slices_rise s e t (suc u) before = elim (cases_lt t (suc u)) as (λ w. slices s e t ≤ slices s e (suc u)) [
  | inl less ↦ let so_far = slices_rise s e t u (omega (arith, less)) in omega (arith, so_far)
  | inr past ↦
      let last : t ≡ suc u = omega (arith, past, before) in
      let same : slices s e t ≡ slices s e (suc u) = ap (slices s e) last in
      omega (arith, same)
]

-- an idle board stays so, and no slice ends on it
abbrev Idles : System → ℕ → Type 0
Idles s t = is_idle_book (world_after s t).book ≡ true

idle_stays : (s : System) (t : ℕ) → Idles s t → world_after s (suc t) ≡ world_after s t
idle_stays s t idle =
    let w = world_after s t in
    ap (λ (b : Bool). if b then w else run_phases w (next_phases s.schedule w)) idle

idle_gives : (s : System) (e t : ℕ) → Idles s t → items_in s t e ≡ []
idle_gives s e t idle =
    let w = world_after s t in
    ap (λ (b : Bool). if b then [] else (in_turn (next_phases s.schedule w) w).items e) idle

none_ends : (runs begins runs_on : Bool) → begins ≡ false → runs_on ≡ runs → (runs || begins) && not runs_on ≡ false
none_ends true begins runs_on none same = rw same refl
none_ends false begins runs_on none same = rw none refl

idle_ends_none : (s : System) (e t : ℕ) → Idles s t → ends_in s e t ≡ false
idle_ends_none s e t idle =
    none_ends (runs_after s e t) (begins_in s e t) (runs_after s e (suc t))
    (ap (λ (items : List Item). list_any begins_slice items) (idle_gives s e t idle))
    (ap (λ (w : World). is_runner e w.book.runner) (idle_stays s t idle))

idle_on : (s : System) (e t u : ℕ) → Idles s t → t ≤ u → (world_after s u ≡ world_after s t) × (slices s e u ≡ slices s e t)
idle_on s e t zero idle before =
    let first : 0 ≡ t = omega (arith, before) in
    (ap (world_after s) first, ap (slices s e) first)
idle_on s e t (suc u) idle before = elim (cases_lt t (suc u)) as (λ w. (world_after s (suc u) ≡ world_after s t) × (slices s e (suc u) ≡ slices s e t)) [
  | inl less ↦
      let so_far = idle_on s e t u idle (omega (arith, less)) in
      let still : Idles s u = ap (λ (w : World). is_idle_book w.book) so_far.0 ∙ idle in
      let none : slices s e (suc u) ≡ slices s e u + 0 = ap (λ (b : Bool). slices s e u + (if b then 1 else 0)) (idle_ends_none s e u still) in
      let same : slices s e u ≡ slices s e t = so_far.1 in
      (idle_stays s u still ∙ so_far.0, omega (arith, none, same))
  | inr past ↦
      let last : suc u ≡ t = omega (arith, past, before) in
      (ap (world_after s) last, ap (slices s e) last)
]

pub idle_slices : (s : System) (e t u : ℕ) → Idles s t → t ≤ u → slices s e u ≡ slices s e t
idle_slices s e t u idle before = (idle_on s e t u idle before).1
