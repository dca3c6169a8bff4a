-- Items that stand in a row, of which the first are read.
use Rattle.std.proofs.Common.{◌≡◌, ◌<◌, ◌≤◌, ◌+◌, ◌-◌, ℕ, zero, suc, List, [], ◌∷◌, ◌++◌, length, take, drop, replicate, slice_index_or, slice_set, Bool, true, false, refl, sym, ◌∙◌, ap, arith}
use Rattle.std.specs.Prelude.{◌||◌}
use Rattle.std.specs.List.{flat_map, list_any}
use Rattle.std.proofs.Math.ListN.{drop_of_length-le}
use Rattle.std.proofs.lemmas.List.{append_assoc, drop-append-le, drop-drop, drop-replicate, length-replicate, take-append-drop}
use Rattle.feed_log.specs.Views.{ItemSeen}
use Rattle.feed_log.specs.Log.{Run, StandsFirst, begins_seen, is_empty, run_items}

-- a run of which the first are read
fewer : (most : ℕ) (r : Run) (items : List Run) → most < r.times
    → flat_map run_items (record r { times = r.times - most } ∷ items) ≡ drop most (flat_map run_items (r ∷ items))
fewer most r items less =
    let within : most ≤ length (run_items r) = omega (arith, less, length-replicate r.times r.item) in
    sym
    (drop-append-le most (run_items r) (flat_map run_items items) within
    ∙ ap (λ (x : List ItemSeen). x ++ flat_map run_items items) (drop-replicate most r.times r.item))

-- it stands at a place among others
pub lowered : (runs : List Run) (i most : ℕ) (r : Run) → i < length runs → r ≡ slice_index_or runs i r → most < r.times
    → flat_map run_items (drop i (slice_set runs i (record r { times = r.times - most })))
    ≡ drop most (flat_map run_items (drop i runs))
lowered [] i most r there is less = absurd (omega (arith, there))
lowered (x ∷ runs) zero most r there is less =
    fewer most r runs less ∙ ap (λ (y : Run). drop most (flat_map run_items (y ∷ runs))) is
lowered (x ∷ runs) (suc i) most r there is less = lowered runs i most r (omega (arith, there)) is less

-- where nothing is behind some items, nothing is behind more
pub none_behind : (items left : List ItemSeen) (i j : ℕ) → i ≤ j → left ≡ drop i items → is_empty left ≡ true
    → left ≡ drop j items
none_behind items [] i j within is none =
    let whole : i + (j - i) ≡ j = omega (arith, within) in
    sym (drop_of_length-le {A = ItemSeen} [] {i = j - i} (omega arith)) ∙ ap (λ (xs : List ItemSeen). drop (j - i) xs) is ∙ drop-drop (j - i) i items ∙ ap (λ (k : ℕ). drop k items) whole
none_behind items (x ∷ left) i j within is none = absurd (cc)

-- Of items the first stand in a row and are read, and the others are behind them.
or_twice : (a b : Bool) → a || (a || b) ≡ a || b
or_twice true b = refl
or_twice false b = refl

or_assoc : (a b c : Bool) → a || (b || c) ≡ (a || b) || c
or_assoc true b c = refl
or_assoc false b c = refl

any_row : (test : ItemSeen → Bool) (n : ℕ) (item : ItemSeen) (rest : List ItemSeen)
    → list_any test (replicate (suc n) item ++ rest) ≡ test item || list_any test rest
any_row test zero item rest = refl
any_row test (suc n) item rest =
    ap (λ (b : Bool). test item || b) (any_row test n item rest) ∙ or_twice (test item) (list_any test rest)

any_first : (n : ℕ) (item : ItemSeen) (rest : List ItemSeen) → 0 < n
    → list_any begins_seen (replicate n item ++ rest) ≡ begins_seen item || list_any begins_seen rest
any_first zero item rest some = absurd (omega (arith, some))
any_first (suc n) item rest some = any_row begins_seen n item rest

parted : (items : List ItemSeen) (item : ItemSeen) (times : ℕ) → StandsFirst items item times
    → items ≡ replicate times item ++ drop times items
parted items item times first =
    sym (take-append-drop times items) ∙ ap (λ (xs : List ItemSeen). xs ++ drop times items) first.row

pub received : (log other : List ItemSeen) (item : ItemSeen) (times : ℕ) → StandsFirst other item times
    → (log ++ replicate times item) ++ drop times other ≡ log ++ other
received log other item times first =
    append_assoc log (replicate times item) (drop times other)
    ∙ ap (λ (xs : List ItemSeen). log ++ xs) (sym (parted other item times first))

pub begun : (begins : Bool) (other : List ItemSeen) (item : ItemSeen) (times : ℕ) → StandsFirst other item times
    → begins || list_any begins_seen other ≡ (begins || begins_seen item) || list_any begins_seen (drop times other)
begun begins other item times first =
    ap (λ (b : Bool). begins || b)
    (ap (list_any begins_seen) (parted other item times first) ∙ any_first times item (drop times other) first.some)
    ∙ or_assoc begins (begins_seen item) (list_any begins_seen (drop times other))
