-- What is sent, one packet behind another.
use Rattle.std.proofs.Common.{◌≡◌, ℕ, suc, ◌+◌, ◌<◌, ◌≤◌, List, [], ◌∷◌, ◌++◌, length, drop, get_or, set, sym, ◌∙◌, ap, arith, inl, inr, append_assoc}
use Rattle.std.specs.Prelude.{filter}
use Rattle.std.proofs.lemmas.Bool.{cases_eq}
use Rattle.std.proofs.lemmas.List.{drop_more, get_or-set_other, get_or-set_same, map-append}
use Rattle.std.proofs.lemmas.List.Elements.{filter-append}
use Rattle.external_event.specs.Packet.{is_packet}
use Rattle.wire_model.specs.Wire.{framed, joined}
use Rattle.wire_net.specs.declared.delivery.Delivery.{Delivery}
use Rattle.wire_net.specs.declared.sending.Route.{Route}
use Rattle.wire_net.specs.Delivery.{delivered_at, deliveries_of}
use Rattle.wire_net.specs.Sending.{packets_sent}

module _ (route : Route) where
  abbrev sent : List (List ℕ) → List Delivery
  sent packets = packets_sent route packets

  sent_in_two : (xs ys : List (List ℕ)) → sent (xs ++ ys) ≡ sent xs ++ sent ys
  sent_in_two xs ys =
      ap (deliveries_of route.sender route.time) (filter-append is_packet xs ys)
      ∙ map-append (λ (packet : List ℕ). delivered_at route.time (framed route.sender packet)) (filter is_packet xs) (filter is_packet ys)

  -- one more is sent of those that are left
  pub one_sent : (packets : List (List ℕ)) (place : ℕ) (out new all : List Delivery) → place < length packets
      → out ++ sent (drop place packets) ≡ all → new ≡ out ++ sent (get_or packets place [] ∷ [])
      → new ++ sent (drop (place + 1) packets) ≡ all
  one_sent packets place out new all within before more =
      let one = get_or packets place [] in
      ap (λ (xs : List Delivery). xs ++ sent (drop (place + 1) packets)) more
      ∙ append_assoc out (sent (one ∷ [])) (sent (drop (place + 1) packets))
      ∙ ap (λ (xs : List Delivery). out ++ xs) (sym (sent_in_two (one ∷ []) (drop (place + 1) packets)) ∙ ap sent (sym (drop_more packets place [] within)))
      ∙ before

  -- what one more environment sent is sent
  pub env_sent : (f : ℕ → List (List ℕ)) (n : ℕ) (first out new : List Delivery) → out ≡ first ++ sent (joined f n) → new ≡ out ++ sent (f n)
      → new ≡ first ++ sent (joined f (n + 1))
  env_sent f n first out new before more =
      let next : suc n ≡ n + 1 = omega arith in
      more
      ∙ ap (λ (xs : List Delivery). xs ++ sent (f n)) before
      ∙ append_assoc first (sent (joined f n)) (sent (f n))
      ∙ ap (λ (xs : List Delivery). first ++ xs) (sym (sent_in_two (joined f n) (f n)) ∙ ap (λ (m : ℕ). sent (joined f m)) next)

  -- what the last sent is all
  pub all_sent : (f : ℕ → List (List ℕ)) (n m : ℕ) (first out : List Delivery) → n ≡ m → out ≡ first ++ sent (joined f n) → out ≡ first ++ sent (joined f m)
  all_sent f n m first out same before = before ∙ ap (λ (k : ℕ). first ++ sent (joined f k)) same

-- one more is counted
pub one_counted : (known : List ℕ) (n place count : ℕ) (f : ℕ → ℕ) → place ≡ n → n < length known → ((e : ℕ) → e < n → get_or known e 0 ≡ f e) → count ≡ f n
    → (e : ℕ) → e < n + 1 → get_or (set known place count) e 0 ≡ f e
one_counted known n place count f at within so_far is e less =
    elim (cases_eq e place) [
      | inl here ↦ ap (λ (k : ℕ). get_or (set known place count) k 0) here ∙ get_or-set_same known place count 0 (omega arith) ∙ is ∙ ap f (sym at ∙ sym here)
      | inr other ↦ get_or-set_other known place e count 0 other ∙ so_far e (omega arith)
    ]

pub others_left : (known first : List ℕ) (n place count : ℕ) → place ≡ n → ((e : ℕ) → n ≤ e → get_or known e 0 ≡ get_or first e 0)
    → (e : ℕ) → n + 1 ≤ e → get_or (set known place count) e 0 ≡ get_or first e 0
others_left known first n place count at left e later = get_or-set_other known place e count 0 (λ same. omega arith) ∙ left e (omega arith)
