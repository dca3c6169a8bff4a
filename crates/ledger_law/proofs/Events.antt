-- What comes before the turn: events, and pages that are taken.
use Rattle.std.proofs.Common.{arith, refl, ◌∙◌, ap, ◌≡◌, ◌+◌, ℕ, List, [], ◌∷◌, ◌++◌, map, Bool, false, Option, None, Some}
use Rattle.std.specs.Prelude.{◌*◌, ◌&&◌, is_none}
use Rattle.std.proofs.lemmas.Bool.{cond_both}
use Rattle.external_event.specs.declared.event.Occurrence.{Occurrence}
use Rattle.external_event.specs.declared.event.Occurrence.TheVariants as outside
use Rattle.filter_tree.specs.ClaimBook.{ClaimValue}
use Rattle.revocation_book.specs.declared.revocation.Pending.{Pending}
use Rattle.revocation_book.specs.declared.revocation.Taking.{Taking}
use Rattle.revocation_book.specs.Pending.{asked}
use Rattle.world_model.specs.ClaimCalls.{claim_of}
use Rattle.world_model.specs.Deadlines.{settles, takes}
use Rattle.world_model.specs.Book.{first_turn, is_idle_book}
use Rattle.world_model.specs.Event.{arrives, asks, happen, revokes, signals}
use Rattle.world_model.specs.Tick.{serve_phases}
use Rattle.world_model.specs.Verdict.{asks_one}
use Rattle.world_model.specs.World.{World, Reply, after, is_living, no_change, run_phases}
use Rattle.run_model.specs.Excess.{IsAccounted}
use Rattle.run_model.proofs.Balance.{happen_accounts, settling_accounts, taking_accounts}
use Rattle.ledger_law.proofs.Told.{Core, IsTold, core}
use Rattle.ledger_law.proofs.Mute.{IsMute, mute_told}

-- a reply that leaves what the book has of slices, with a row at most, which is mute
pub record Early (w : World) (r : Reply) : Type 0 where
  pub same : core r.book ≡ core w.book
  pub mute : IsMute w.book.time r.rows

packet_early : (packet : List ℕ) (claim : Option ClaimValue) (w : World) → Early w (arrives packet claim w)
packet_early packet None w = record { same = refl; mute = refl }
packet_early packet (Some c) w = record { same = refl; mute = tt }

signal_early : (line : ℕ) (owner : Option ℕ) (w : World) → Early w (signals line owner w)
signal_early line None w = record { same = refl; mute = tt }
signal_early line (Some owner) w = record { same = refl; mute = tt }

ask_early : (e : ℕ) (pending : Option Pending) (w : World) → Early w (asks e pending w)
ask_early e None w = record { same = refl; mute = tt }
ask_early e (Some p) w = record { same = refl; mute = refl }

revoke_early : (e count deadline : ℕ) (w : World) → Early w (revokes e count deadline w)
revoke_early e count deadline w =
    let pending = asked count deadline (w.book.pending e) in
    cond_both (is_living w e) (asks e pending w) (no_change w) (λ (r : Reply). Early w r) (λ lives. ask_early e pending w) (λ gone. record { same = refl; mute = tt })

-- so it is where a caller asks another environment for a page
pub asking_early : (who : ℕ) (w : World) → Early w (asks_one who w)
asking_early who w =
    let until = w.book.time + 2 * w.book.quantum in
    cond_both (is_none (w.book.pending who)) (revokes who 1 until w) (no_change w) (λ (r : Reply). Early w r) (λ nothing. revoke_early who 1 until w) (λ pending. record { same = refl; mute = tt })

pub happen_early : (what : Occurrence) (w : World) → Early w (happen what w)
happen_early (outside.Packet packet) w = packet_early packet (claim_of w.book packet) w
happen_early (outside.Line line) w = signal_early line (w.book.lines line) w
happen_early (outside.Revoke env count grace) w = revoke_early env count (w.book.time + grace) w

taking_early : (x : Taking) (w : World) → Early w (takes x w)
taking_early x w = record { same = refl; mute = refl }

settling_early : (w : World) → Early w (settles w)
settling_early w = record { same = refl; mute = tt }

-- A world in a tick, before its turn.
pub record Ready (q : ℕ) (w : World) : Type 0 where
  pub told : IsTold q 0 0 1 w
  pub busy : is_idle_book w.book ≡ false
  pub accounted : IsAccounted w

abbrev idle_core : Core → Bool
idle_core c = is_none c.runner && is_none (first_turn c.slots c.count c.cursor c.count)

early_ready : (q : ℕ) (w : World) (r : Reply) → Ready q w → Early w r → IsAccounted (after w r) → Ready q (after w r)
early_ready q w r ready early accounted = record {
  told = mute_told q 1 w r (omega arith) ready.told early.same early.mute;
  busy = ap idle_core early.same ∙ ready.busy;
  accounted = accounted;
}

-- takings, and then the end of their deadlines
serve_ready : (q : ℕ) (xs : List Taking) (w : World) → Ready q w → Ready q (run_phases w (serve_phases xs))
serve_ready q [] w ready = early_ready q w (settles w) ready (settling_early w) (settling_accounts w ready.accounted)
serve_ready q (x ∷ xs) w ready =
    serve_ready q xs (after w (takes x w)) (early_ready q w (takes x w) ready (taking_early x w) (taking_accounts x w ready.accounted))

-- what happens, and then what is taken
pub before_turn_ready : (q : ℕ) (happens : List Occurrence) (xs : List Taking) (w : World) → Ready q w → Ready q (run_phases w (map happen happens ++ serve_phases xs))
before_turn_ready q [] xs w ready = serve_ready q xs w ready
before_turn_ready q (what ∷ happens) xs w ready =
    before_turn_ready q happens xs (after w (happen what w)) (early_ready q w (happen what w) ready (happen_early what w) (happen_accounts what w ready.accounted))
