-- What an event changes of what is pending for an environment, and what it gives to it.
use Rattle.std.proofs.Common.{arith, ◌≡◌, ◌<◌, ◌+◌, ℕ, List, [], ◌∷◌, Bool, true, false, Option, None, Some, refl, sym, ap, subst}
use Rattle.std.specs.Prelude.{◌==◌, if◌then◌else◌, min}
use Rattle.std.proofs.lemmas.Bool.{cond_both, eqb-false, eqb-true}
use Rattle.external_event.specs.declared.event.Occurrence.{Occurrence}
use Rattle.external_event.specs.declared.event.Occurrence.TheVariants as outside
use Rattle.filter_tree.specs.ClaimBook.{ClaimValue}
use Rattle.revocation_book.specs.declared.revocation.Pending.{Pending}
use Rattle.revocation_book.specs.Pending.{asked, most_outstanding, outstanding_in, pending_of}
use Rattle.world_model.specs.ClaimCalls.{claim_of}
use Rattle.world_model.specs.Event.{arrives, asks, happen, revokes, ring_bytes, ring_left, signals}
use Rattle.world_model.specs.Item.{Item, Asked, Line, Packet}
use Rattle.world_model.specs.Rings.{ring_of}
use Rattle.world_model.specs.World.{World, Reply, is_living, no_change}
use Rattle.revocation_law.proofs.Changes.{Leaves}
use Rattle.revocation_law.proofs.Plain.{plain_only, plain_set, ring_left_plain}
use Rattle.revocation_law.proofs.Requests.{AsksFor}

-- the environment is asked for pages by a revocation, with a deadline from now on
pub record Names (what : Occurrence) (w : World) (e : ℕ) (becomes : Option Pending) (items : List Item) : Type 0 where
  pub count : ℕ
  pub grace : ℕ
  pub named : what ≡ outside.Revoke e count grace
  pub p : Pending
  pub its : becomes ≡ Some p
  pub some : 0 < p.outstanding
  pub deadline : p.deadline ≡ w.book.time + grace
  pub told : AsksFor p.outstanding p.deadline items

pub data Happens (what : Occurrence) (w : World) (e : ℕ) (becomes : Option Pending) (items : List Item) : Type 0 where
  Passed : Leaves w e becomes items → Happens what w e becomes items
  Named : Names what w e becomes items → Happens what w e becomes items

abbrev HappensBy : Occurrence → World → ℕ → Reply → Type 0
HappensBy what w e r = Happens what w e (r.book.pending e) (r.items e)

packet_happens : (what : Occurrence) (w : World) (e : ℕ) (packet : List ℕ) (c : Option ClaimValue) → HappensBy what w e (arrives packet c w)
packet_happens what w e packet None = Passed (record { same = refl; plain = refl })
packet_happens what w e packet (Some c) =
    let s = w.solos c.env in
    let bytes = ring_bytes s (ring_of s.rings c.id) packet in
    Passed (record { same = refl; plain = plain_set c.env (Packet c.id packet ∷ []) (ring_left w.book c.env c.page bytes) e refl (ring_left_plain w.book c.env c.page bytes e) })

signal_happens : (what : Occurrence) (w : World) (e line : ℕ) (owner : Option ℕ) → HappensBy what w e (signals line owner w)
signal_happens what w e line None = Passed (record { same = refl; plain = refl })
signal_happens what w e line (Some owner) = Passed (record { same = refl; plain = plain_only owner (Line line ∷ []) e refl })

-- what is asked for has a page at least
record IsFresh (deadline : ℕ) (p : Pending) : Type 0 where
  some : 0 < p.outstanding
  its : p.deadline ≡ deadline

fresh : (outstanding deadline : ℕ) (p : Pending) → pending_of outstanding deadline ≡ Some p → IsFresh deadline p
fresh outstanding deadline p =
    cond_both (outstanding == 0) None (Some (record { outstanding = outstanding; deadline = deadline })) (λ (o : Option Pending). o ≡ Some p → IsFresh deadline p)
    (λ none is. cc)
    (λ more is. let same : record { outstanding = outstanding; deadline = deadline } ≡ p = cc in subst (IsFresh deadline) same (record { some = omega (arith, eqb-false outstanding 0 more); its = refl }))

module _ (w : World) (e env count grace : ℕ) where
  abbrev what : Occurrence
  what = outside.Revoke env count grace

  ask_happens : (o : Option Pending) → asked count (w.book.time + grace) (w.book.pending env) ≡ o → HappensBy what w e (asks env o w)
  ask_happens None is = Passed (record { same = refl; plain = refl })
  ask_happens (Some p) is = by_test (e == env) refl
    where
      by_test : (mine : Bool) → (e == env) ≡ mine → Happens what w e (if mine then Some p else w.book.pending e) (if mine then Asked p.outstanding p.deadline ∷ [] else [])
      by_test true own =
          let same : e ≡ env = eqb-true e env own in
          let new = fresh (min most_outstanding (outstanding_in (w.book.pending env) + count)) (w.book.time + grace) p is in
          Named (record {
            count = count;
            grace = grace;
            named = ap (λ (n : ℕ). outside.Revoke n count grace) (sym same);
            p = p;
            its = refl;
            some = new.some;
            deadline = new.its;
            told = record { before = []; behind = []; its = refl; first = refl; last = refl };
          })
      by_test false other = Passed (record { same = refl; plain = refl })

  revoke_happens : HappensBy what w e (revokes env count (w.book.time + grace) w)
  revoke_happens =
      let pending = asked count (w.book.time + grace) (w.book.pending env) in
      cond_both (is_living w env) (asks env pending w) (no_change w) (HappensBy what w e) (λ lives. ask_happens pending refl) (λ gone. Passed (record { same = refl; plain = refl }))

pub event_happens : (what : Occurrence) (w : World) (e : ℕ) → Happens what w e ((happen what w).book.pending e) ((happen what w).items e)
event_happens (outside.Packet packet) w e = packet_happens (outside.Packet packet) w e packet (claim_of w.book packet)
event_happens (outside.Line line) w e = signal_happens (outside.Line line) w e line (w.book.lines line)
event_happens (outside.Revoke env count grace) w e = revoke_happens w e env count grace
