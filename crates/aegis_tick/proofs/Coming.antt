-- The events that are to come, in order: those of a time stand first.
use Rattle.std.proofs.Common.{◌≡◌, ℕ, suc, take, ◌+◌, ◌-◌, ◌<◌, ◌≤◌, Bool, true, List, [], ◌∷◌, drop, length, refl, sym, ◌∙◌, ap, subst, arith, inl, inr}
use Rattle.std.specs.Prelude.{◌==◌, nat_le, filter}
use Rattle.std.specs.List.{prefix_len}
use Rattle.std.proofs.lemmas.Bool.{and_from, and_parts, cases_eq, eq-eqb, le-leb, leb-true, ne_eqb}
use Rattle.external_event.specs.EventValue.{EventValue}
use Rattle.external_event.specs.Order.{are_in_order}
use Rattle.aegis_tick.specs.Agenda.{AgendasAreRight, first_at, next_time_of, occurrences}

abbrev is_at : ℕ → EventValue → Bool
is_at t x = x.time == t

-- how many they are
abbrev count_at : ℕ → List EventValue → ℕ
count_at t xs = prefix_len (is_at t) xs

one_more : (n : ℕ) → 1 + n ≡ suc n
one_more n = omega arith

-- none is of an earlier time
none_earlier : (t from : ℕ) (xs : List EventValue) → t < from → are_in_order from xs ≡ true → filter (is_at t) xs ≡ []
none_earlier t from [] earlier ordered = refl
none_earlier t from (x ∷ xs) earlier ordered =
    let parts = and_parts (nat_le from x.time) (are_in_order x.time xs) ordered in
    let least : from ≤ x.time = leb-true from x.time parts.0 in
    rw (ne_eqb x.time t (λ same. omega arith)) (none_earlier t x.time xs (omega arith) parts.1)

-- those of a time are the first
firsts : (t : ℕ) (xs : List EventValue) → are_in_order t xs ≡ true → filter (is_at t) xs ≡ first_at t xs
firsts t [] ordered = refl
firsts t (x ∷ xs) ordered =
    let parts = and_parts (nat_le t x.time) (are_in_order x.time xs) ordered in
    let least : t ≤ x.time = leb-true t x.time parts.0 in
    elim (cases_eq x.time t) [
      | inl here ↦
          let rest = firsts t xs (subst (λ (from : ℕ). are_in_order from xs ≡ true) here parts.1) in
          rw (eq-eqb x.time t here) (ap (λ (ys : List EventValue). x ∷ ys) rest ∙ ap (λ (m : ℕ). take m (x ∷ xs)) (sym (one_more (count_at t xs))))
      | inr other ↦ rw (ne_eqb x.time t other) (none_earlier t x.time xs (omega arith) parts.1)
    ]

-- those of a later time come after them
behind : (t later : ℕ) (xs : List EventValue) → t < later → filter (is_at later) xs ≡ filter (is_at later) (drop (length (first_at t xs)) xs)
behind t later [] after = refl
behind t later (x ∷ xs) after =
    elim (cases_eq x.time t) [
      | inl here ↦
          rw (eq-eqb x.time t here, ne_eqb x.time later (λ same. omega arith))
          (behind t later xs after ∙ ap (λ (m : ℕ). filter (is_at later) (drop (length (take m (x ∷ xs))) (x ∷ xs))) (sym (one_more (count_at t xs))))
      | inr other ↦ rw (ne_eqb x.time t other) refl
    ]

-- and they are in order from the next time on
rest_in_order : (t : ℕ) (xs : List EventValue) → are_in_order t xs ≡ true → are_in_order (t + 1) (drop (length (first_at t xs)) xs) ≡ true
rest_in_order t [] ordered = refl
rest_in_order t (x ∷ xs) ordered =
    let parts = and_parts (nat_le t x.time) (are_in_order x.time xs) ordered in
    let least : t ≤ x.time = leb-true t x.time parts.0 in
    elim (cases_eq x.time t) [
      | inl here ↦
          rw (eq-eqb x.time t here)
          (ap (λ (m : ℕ). are_in_order (t + 1) (drop (length (take m (x ∷ xs))) (x ∷ xs))) (one_more (count_at t xs))
          ∙ rest_in_order t xs (subst (λ (from : ℕ). are_in_order from xs ≡ true) here parts.1))
      | inr other ↦ rw (ne_eqb x.time t other) (and_from (nat_le (t + 1) x.time) (are_in_order x.time xs) (le-leb (t + 1) x.time (omega arith)) parts.1)
    ]

-- before the next of them nothing happens, and until then they are still to come
none_before : (from t : ℕ) (xs : List EventValue) → are_in_order from xs ≡ true → t < next_time_of xs → filter (is_at t) xs ≡ []
none_before from t [] ordered before = refl
none_before from t (x ∷ xs) ordered before =
    let parts = and_parts (nat_le from x.time) (are_in_order x.time xs) ordered in
    rw (ne_eqb x.time t (λ same. omega arith)) (none_earlier t x.time xs before parts.1)

order_on : (t k : ℕ) (xs : List EventValue) → are_in_order t xs ≡ true → k ≤ next_time_of xs - t → are_in_order (t + k) xs ≡ true
order_on t k [] ordered most = refl
order_on t k (x ∷ xs) ordered most =
    let parts = and_parts (nat_le t x.time) (are_in_order x.time xs) ordered in
    let least : t ≤ x.time = leb-true t x.time parts.0 in
    and_from (nat_le (t + k) x.time) (are_in_order x.time xs) (le-leb (t + k) x.time (omega arith)) parts.1

pub agendas_are_right : AgendasAreRight
agendas_are_right = record {
  now = λ events coming t are. ap occurrences (sym (firsts t coming are.order)) ∙ sym (are.same t (omega arith));
  later = λ events coming t are. record {
    order = rest_in_order t coming are.order;
    same = λ u from. are.same u (omega arith) ∙ ap occurrences (behind t u coming (omega arith));
  };
  still = λ events coming t k are most. record { order = order_on t k coming are.order most; same = λ u from. are.same u (omega arith) };
  quiet = λ events coming t k are most. record {
    nothing = λ u from below. are.same u from ∙ ap occurrences (none_before t u coming are.order (omega arith));
  };
}
