-- What happens from outside, one after another.
use Rattle.std.proofs.Common.{◌≡◌, ℕ, ◌+◌, ◌<◌, List, [], ◌∷◌, ◌++◌, length, map, take, drop, get_or, refl, sym, ◌∙◌, ap, rules}
use Rattle.std.specs.Prelude.{filter, Result, OnErr}
use Rattle.std.proofs.lemmas.List.{append-nil, append_assoc, map-append, take-append-drop, take_at, take_more}
use Rattle.std.proofs.lemmas.List.Elements.{filter-append}
use Rattle.external_event.specs.declared.event.Occurrence.{Occurrence}
use Rattle.world_model.specs.Book.{is_idle_book}
use Rattle.world_model.specs.Event.{happen}
use Rattle.world_model.specs.World.{World, after, run_phases}
use Rattle.run_model.proofs.Phases.{run_append}
use Rattle.aegis_tick.specs.Course.{HappenedInPart, world_with}
use Rattle.wire_net.specs.declared.delivery.Delivery.{Delivery}
use Rattle.wire_net.specs.Delivery.{arriving, is_delivery_for}

-- in two parts
pub in_two : (xs ys : List Occurrence) (w : World) → world_with (xs ++ ys) w ≡ world_with ys (world_with xs w)
in_two xs ys w = ap (run_phases w) (map-append happen xs ys) ∙ run_append w (map happen xs) (map happen ys)

-- nothing that happens takes or gives a turn
happen_idle : (what : Occurrence) (w : World) → is_idle_book (happen what w).book ≡ is_idle_book w.book
happen_idle what w = search rules

pub still_busy : (happens : List Occurrence) (w : World) → is_idle_book (world_with happens w).book ≡ is_idle_book w.book
still_busy [] w = refl
still_busy (what ∷ happens) w = still_busy happens (after w (happen what w)) ∙ happen_idle what w

-- some first ones of these happened
pub part_by : (all front back : List Occurrence) (w v : World) → all ≡ front ++ back → v ≡ world_with front w → HappenedInPart all w v
part_by all front back w v is now =
    (length front, now ∙ ap (λ (xs : List Occurrence). world_with xs w) (sym (ap (take (length front)) is ∙ take_at front back (length front) refl)))

-- of two parts the first in part, or the second behind the first
pub part_of_first : (xs ys : List Occurrence) (w v : World) → HappenedInPart xs w v → HappenedInPart (xs ++ ys) w v
part_of_first xs ys w v part =
    let front = take part.0 xs in
    let back = drop part.0 xs in
    part_by (xs ++ ys) front (back ++ ys) w v (ap (λ (zs : List Occurrence). zs ++ ys) (sym (take-append-drop part.0 xs)) ∙ append_assoc front back ys) part.1

pub part_of_second : (xs ys : List Occurrence) (w u v : World) → u ≡ world_with xs w → HappenedInPart ys u v → HappenedInPart (xs ++ ys) w v
part_of_second xs ys w u v first part =
    let front = take part.0 ys in
    let back = drop part.0 ys in
    part_by (xs ++ ys) (xs ++ front) back w v (ap (λ (zs : List Occurrence). xs ++ zs) (sym (take-append-drop part.0 ys)) ∙ sym (append_assoc xs front back))
    (part.1 ∙ ap (world_with front) first ∙ sym (in_two xs front w))

pub part_whole : (xs : List Occurrence) (w v : World) → v ≡ world_with xs w → HappenedInPart xs w v
part_whole xs w v now = part_by xs xs [] w v (sym (append-nil xs)) now

-- ---- arrivals

pub arriving_in_two : (machine : ℕ) (xs ys : List Delivery) → arriving machine (xs ++ ys) ≡ arriving machine xs ++ arriving machine ys
arriving_in_two machine xs ys =
    let what = λ (x : Delivery). x.event.what in
    ap (map what) (filter-append (is_delivery_for machine) xs ys) ∙ map-append what (filter (is_delivery_for machine) xs) (filter (is_delivery_for machine) ys)

module _ (machine : ℕ) (due : List Delivery) (i : ℕ) (d : Delivery) (within : i < length due) (is : d ≡ get_or due i d) where
  next : arriving machine (take (i + 1) due) ≡ arriving machine (take i due) ++ arriving machine (d ∷ [])
  next = ap (arriving machine) (take_more due i d within ∙ ap (λ (x : Delivery). take i due ++ x ∷ []) (sym is)) ∙ arriving_in_two machine (take i due) (d ∷ [])

  pub delivery_more : (w : World) → world_with (arriving machine (take (i + 1) due)) w ≡ world_with (arriving machine (d ∷ [])) (world_with (arriving machine (take i due)) w)
  delivery_more w = ap (λ (xs : List Occurrence). world_with xs w) next ∙ in_two (arriving machine (take i due)) (arriving machine (d ∷ [])) w

pub arrives_in_part : (machine : ℕ) (due : List Delivery) (i : ℕ) (w v : World) → v ≡ world_with (arriving machine (take i due)) w → HappenedInPart (arriving machine due) w v
arrives_in_part machine due i w v now =
    part_by (arriving machine due) (arriving machine (take i due)) (arriving machine (drop i due)) w v
    (ap (arriving machine) (sym (take-append-drop i due)) ∙ arriving_in_two machine (take i due) (drop i due)) now

pub on_err : {T E P : Type 0} (r : Result T E) → P → OnErr r P
on_err r p = search rules
