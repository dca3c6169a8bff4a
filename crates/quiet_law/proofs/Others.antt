-- What happens from outside, what is taken, and what another's step and slice bring, leave a clear environment aside.
use Rattle.std.proofs.Common.{◌≡◌, ◌≢◌, ◌+◌, ℕ, List, [], ◌∷◌, ◌++◌, Bool, true, false, Option, None, Some, refl, sym, ◌∙◌, ap, subst, rules, arith}
use Rattle.std.specs.Prelude.{◌==◌, not, filter}
use Rattle.std.proofs.lemmas.Bool.{cond_both, eq-eqb, ne_eqb}
use Rattle.filter_tree.specs.Claims.{is_claim, is_into}
use Rattle.bind_book.specs.declared.binding.Binding.{Binding}
use Rattle.bind_book.specs.Stripe.{goes_with, leads_to_page, without}
use Rattle.env_frames.specs.Transfer.{hands_slot}
use Rattle.external_event.specs.declared.event.Occurrence.{Occurrence}
use Rattle.external_event.specs.declared.event.Occurrence.TheVariants as outside
use Rattle.filter_tree.specs.ClaimBook.{ClaimValue, is_of_env}
use Rattle.revocation_book.specs.declared.revocation.Pending.{Pending}
use Rattle.revocation_book.specs.declared.revocation.Taking.{Taking}
use Rattle.revocation_book.specs.Pending.{asked}
use Rattle.page_book.specs.declared.row.PageRow.TheVariants.{Free, Owned}
use Rattle.page_book.specs.Row.{is_owned_by}
use Rattle.world_model.specs.declared.call.Deed.{Deed}
use Rattle.world_model.specs.declared.call.Deed.TheVariants.{Answers, Own, Stops, Gives, Allocates, Frees, Recaps, Binds, Unbinds, Transfers, TakesSlot, DropsSlot, TakesLine, DropsLine, Claims, Unclaims, Downloads, Loads}
use Rattle.world_model.specs.declared.slot.Runner.{Runner}
use Rattle.world_model.specs.Table.{set_at}
use Rattle.world_model.specs.Book.{is_runner}
use Rattle.world_model.specs.ClaimCalls.{atoms_or_none, claim_of, filter_at}
use Rattle.world_model.specs.Deadlines.{copy_left, takes}
use Rattle.world_model.specs.Death.{death, lost_with}
use Rattle.world_model.specs.Event.{arrives, asks, happen, revokes, ring_bytes, ring_left, signals}
use Rattle.world_model.specs.Item.{Item, Line, Lost, Packet, Start, Taken}
use Rattle.world_model.specs.LineCalls.{is_line_of}
use Rattle.world_model.specs.May.{May, MayReach}
use Rattle.world_model.specs.PageCalls.{lost_bindings, page_bytes}
use Rattle.world_model.specs.Rings.{page_store, ring_of}
use Rattle.world_model.specs.SlotCalls.{accepts, handed}
use Rattle.world_model.specs.Solo.{sight}
use Rattle.world_model.specs.Verdict.{done}
use Rattle.world_model.specs.World.{World, Reply, is_living, no_change, only}
use Rattle.quiet_law.specs.Quiet.{is_asking}
use Rattle.quiet_law.proofs.Clear.{IsClear, broken_bound, claim_more, fewer_claims, found_other, left_none, loses_none, loses_none_with, others_page, release_line, release_owned, set_line, set_other, set_owned}

-- The environment is given nothing, stays clear, and owes what it owed.
pub record IsAside (e : ℕ) (w : World) (r : Reply) : Type 0 where
  pub nothing : r.items e ≡ []
  pub clear : IsClear e r.book
  pub excess : r.book.excess e ≡ w.book.excess e
  pub quantum : r.book.quantum ≡ w.book.quantum

-- And who runs, runs on.
pub record Waits (e : ℕ) (w : World) (r : Reply) : Type 0 where
  pub aside : IsAside e w r
  pub runner : r.book.runner ≡ w.book.runner

-- others are given something
pub only_other : (e other : ℕ) (items : List Item) → e ≢ other → only other items e ≡ []
only_other e other items ne = set_other e other items (λ i. []) ne

module _ (e : ℕ) (w : World) (clear : IsClear e w.book) where
  nothing_happens : Waits e w (no_change w)
  nothing_happens = record { aside = record { nothing = refl; clear = clear; excess = refl; quantum = refl }; runner = refl }

  -- From outside: a packet goes to another,
  ring_left_none : (owner page : ℕ) (bytes : Option (List ℕ)) → ring_left w.book owner page bytes e ≡ []
  ring_left_none owner page None = refl
  ring_left_none owner page (Some bytes) = left_none e w.book clear owner (page_store page bytes)

  packet_waits : (packet : List ℕ) (o : Option ClaimValue) → claim_of w.book packet ≡ o → Waits e w (arrives packet o w)
  packet_waits packet None is = record { aside = record { nothing = refl; clear = clear; excess = refl; quantum = refl }; runner = refl }
  packet_waits packet (Some c) is =
      let s = w.solos c.env in
      let bytes = ring_bytes s (ring_of s.rings c.id) packet in
      record {
        aside = record {
          nothing = set_other e c.env (Packet c.id packet ∷ []) (ring_left w.book c.env c.page bytes) (found_other e w.book clear _ c is) ∙ ring_left_none c.env c.page bytes;
          clear = clear;
          excess = refl;
          quantum = refl;
        };
        runner = refl;
      }

  -- and so does a signal,
  signal_waits : (line : ℕ) (o : Option ℕ) → w.book.lines line ≡ o → Waits e w (signals line o w)
  signal_waits line None is = nothing_happens
  signal_waits line (Some owner) is =
      let other : is_line_of e (Some owner) ≡ false = ap (is_line_of e) (sym is) ∙ clear.lines line in
      record {
        aside = record { nothing = only_other e owner (Line line ∷ []) (λ same. (let clash : true ≡ false = sym (eq-eqb owner e (sym same)) ∙ other in cc)); clear = clear; excess = refl; quantum = refl };
        runner = refl;
      }

  -- and another is asked.
  clear_pending : (pending : ℕ → Option Pending) → IsClear e (record w.book { pending = pending })
  clear_pending pending = record { owned = clear.owned; bound = clear.bound; claims = clear.claims; lines = clear.lines }

  asks_waits : (who : ℕ) (o : Option Pending) → e ≢ who → Waits e w (asks who o w)
  asks_waits who None other = nothing_happens
  asks_waits who (Some p) other = record {
    aside = record { nothing = only_other e who _ other; clear = clear_pending (set_at who (Some p) w.book.pending); excess = refl; quantum = refl };
    runner = refl;
  }

  pub revokes_waits : (who count until : ℕ) → e ≢ who → Waits e w (revokes who count until w)
  revokes_waits who count until other =
      let pending = asked count until (w.book.pending who) in
      cond_both (is_living w who) (asks who pending w) (no_change w) (Waits e w) (λ lives. asks_waits who pending other) (λ gone. nothing_happens)

  pub event_waits : (what : Occurrence) → is_asking e what ≡ false → Waits e w (happen what w)
  event_waits (outside.Packet packet) other = packet_waits packet (claim_of w.book packet) refl
  event_waits (outside.Line line) other = signal_waits line (w.book.lines line) refl
  event_waits (outside.Revoke env count grace) other = revokes_waits env count (w.book.time + grace) (λ same. (let clash : true ≡ false = sym (eq-eqb env e (sym same)) ∙ other in cc))

  -- Someone dies, who may be the environment itself.
  pub death_clear : (gone : ℕ) → IsClear e (death w gone).book
  death_clear gone = record {
    owned = λ page. release_owned e gone (w.book.pages page) (clear.owned page);
    bound = λ row. broken_bound (goes_with w.book.pages gone e) (w.book.binds e row) (clear.bound row);
    claims = fewer_claims e (λ (c : ClaimValue). not (is_of_env gone c)) w.book.claims clear.claims;
    lines = λ line. release_line e gone (w.book.lines line) (clear.lines line);
  }

  -- A page is taken from another.
  freed_clear : (page : ℕ) (pending : ℕ → Option Pending) (backups : ℕ → List ℕ)
      → IsClear e (record w.book {
        pages = set_at page Free w.book.pages;
        binds = λ i row. without (leads_to_page page None i) (w.book.binds i row);
        claims = filter (λ (c : ClaimValue). not (is_into page c)) w.book.claims;
        pending = pending;
        backups = backups;
      })
  freed_clear page pending backups = record {
    owned = set_owned e page Free w.book.pages refl clear.owned;
    bound = λ row. broken_bound (leads_to_page page None e) (w.book.binds e row) (clear.bound row);
    claims = fewer_claims e (λ (c : ClaimValue). not (is_into page c)) w.book.claims clear.claims;
    lines = clear.lines;
  }

  copy_none : (x : Taking) (backup : Option ℕ) → copy_left w x backup e ≡ []
  copy_none x None = refl
  copy_none x (Some backup) = left_none e w.book clear x.env (page_store backup (page_bytes w x.page))

  pub taking_waits : (x : Taking) → is_owned_by x.env (w.book.pages x.page) ≡ true → Waits e w (takes x w)
  taking_waits x owned =
      let other : e ≢ x.env = λ same. (let clash : true ≡ false = sym owned ∙ subst (λ (n : ℕ). is_owned_by n (w.book.pages x.page) ≡ false) same (clear.owned x.page) in cc) in
      record {
        aside = record {
          nothing = set_other e x.env (Taken x.page x.backup ∷ []) (λ i. copy_left w x x.backup i ++ lost_bindings w.book x.page i) other ∙ ap (λ (xs : List Item). xs ++ lost_bindings w.book x.page e) (copy_none x x.backup) ∙ loses_none e w.book clear x.page;
          clear = freed_clear x.page w.book.pending _;
          excess = refl;
          quantum = refl;
        };
        runner = refl;
      }

-- Another's step. What runs then isn't the environment.
pub record Passes (e : ℕ) (w : World) (r : Reply) : Type 0 where
  pub aside : IsAside e w r
  pub out : is_runner e r.book.runner ≡ false

pub handed_other : (e target : ℕ) (runner : Option Runner) → e ≢ target → is_runner e (handed target runner) ≡ false
handed_other e target None other = refl
handed_other e target (Some r) other = ne_eqb target e (λ same. other (sym same))

accepts_nobody : (mask by : ℕ) → mask ≡ 0 → accepts mask by ≡ false
accepts_nobody mask by none = rw none (search (rules, arith))

module _ (e : ℕ) (w : World) (clear : IsClear e w.book) (deaf : (w.solos e).mask ≡ 0) (by : ℕ) (other : e ≢ by) (out : is_runner e w.book.runner ≡ false) where
  -- what changes neither pages, bindings, claims nor lines
  still : (r : Reply) → r.items e ≡ [] → IsClear e r.book → r.book.excess e ≡ w.book.excess e → r.book.quantum ≡ w.book.quantum → is_runner e r.book.runner ≡ false → Passes e w r
  still r nothing clear excess quantum out = record { aside = record { nothing = nothing; clear = clear; excess = excess; quantum = quantum }; out = out }

  not_reached : (target : ℕ) (later : Bool) → MayReach w by target later → e ≢ target
  not_reached target later may same =
      let clash : true ≡ false = sym may.accepted ∙ accepts_nobody (w.solos target).mask by (subst (λ (n : ℕ). (w.solos n).mask ≡ 0) same deaf) in cc

  abbrev Keeps : Deed → Type 0
  Keeps d = Passes e w (done w by d)

  pub deed_passes : (d : Deed) → May w by d → Keeps d
  deed_passes Answers may = still (no_change w) refl clear refl refl out
  deed_passes (Own own) may = still (no_change w) refl clear refl refl out
  deed_passes Stops may = still (done w by Stops) refl (record { owned = clear.owned; bound = clear.bound; claims = clear.claims; lines = clear.lines }) refl refl refl
  deed_passes (Gives target) may =
      let away = not_reached target false may in
      still (done w by (Gives target)) (only_other e target (Start ∷ []) away) (record { owned = clear.owned; bound = clear.bound; claims = clear.claims; lines = clear.lines }) refl refl (handed_other e target w.book.runner away)
  deed_passes (Allocates page words) may =
      still (done w by (Allocates page words)) (only_other e by _ other)
      (record { owned = set_owned e page (Owned by words) w.book.pages (others_page e by words other) clear.owned; bound = clear.bound; claims = clear.claims; lines = clear.lines })
      refl refl out
  deed_passes (Frees page) may =
      still (done w by (Frees page)) (set_other e by (Lost page ∷ []) (lost_bindings w.book page) other ∙ loses_none e w.book clear page)
      (freed_clear e w clear page _ _) refl refl out
  deed_passes (Recaps page words) may =
      still (done w by (Recaps page words)) (set_other e by [] (lost_bindings w.book page) other ∙ loses_none e w.book clear page)
      (record {
        owned = set_owned e page (Owned by words) w.book.pages (others_page e by words other) clear.owned;
        bound = λ row. broken_bound (leads_to_page page (Some by) e) (w.book.binds e row) (clear.bound row);
        claims = clear.claims;
        lines = clear.lines;
      })
      refl refl out
  deed_passes (Binds b word) may =
      still (done w by (Binds b word)) (only_other e by _ other)
      (record { owned = clear.owned; bound = λ row. ap (λ (f : ℕ → Option Binding). f row) (set_other e by _ w.book.binds other) ∙ clear.bound row; claims = clear.claims; lines = clear.lines })
      refl refl out
  deed_passes (Unbinds vpn) may =
      still (done w by (Unbinds vpn)) refl
      (record { owned = clear.owned; bound = λ row. ap (λ (f : ℕ → Option Binding). f row) (set_other e by _ w.book.binds other) ∙ clear.bound row; claims = clear.claims; lines = clear.lines })
      refl refl out
  deed_passes (Transfers target kind) may =
      let away = not_reached target (hands_slot kind) may.reach in
      still (done w by (Transfers target kind)) (only_other e target _ away) (record { owned = clear.owned; bound = clear.bound; claims = clear.claims; lines = clear.lines }) refl refl (handed_other e target w.book.runner away)
  deed_passes (TakesSlot k) may = still (done w by (TakesSlot k)) refl (record { owned = clear.owned; bound = clear.bound; claims = clear.claims; lines = clear.lines }) refl refl out
  deed_passes (DropsSlot k) may = still (done w by (DropsSlot k)) refl (record { owned = clear.owned; bound = clear.bound; claims = clear.claims; lines = clear.lines }) refl refl out
  deed_passes (TakesLine line) may =
      still (done w by (TakesLine line)) refl
      (record { owned = clear.owned; bound = clear.bound; claims = clear.claims; lines = set_line e line (Some by) w.book.lines (ne_eqb by e (λ same. other (sym same))) clear.lines })
      refl refl out
  deed_passes (DropsLine line) may =
      still (done w by (DropsLine line)) refl
      (record { owned = clear.owned; bound = clear.bound; claims = clear.claims; lines = set_line e line None w.book.lines refl clear.lines })
      refl refl out
  deed_passes (Claims claim address atoms page) may =
      still (done w by (Claims claim address atoms page)) refl
      (record {
        owned = clear.owned;
        bound = clear.bound;
        claims = claim_more e w.book.claims (record { id = claim; env = by; filter = atoms_or_none (filter_at (sight (w.solos by)) address atoms); page = page }) clear.claims (ne_eqb by e (λ same. other (sym same)));
        lines = clear.lines;
      })
      refl refl out
  deed_passes (Unclaims claim) may =
      still (done w by (Unclaims claim)) refl
      (record { owned = clear.owned; bound = clear.bound; claims = fewer_claims e (λ (c : ClaimValue). not (is_claim by claim c)) w.book.claims clear.claims; lines = clear.lines })
      refl refl out
  deed_passes (Downloads claim address words) may = still (no_change w) refl clear refl refl out
  deed_passes (Loads page) may = still (done w by (Loads page)) refl (record { owned = clear.owned; bound = clear.bound; claims = clear.claims; lines = clear.lines }) refl refl out

  -- who dies
  pub death_passes : Passes e w (death w by)
  death_passes =
      still (death w by)
      (cond_both (e == by) [] (lost_with w.book by e w.book.page_count) (λ (xs : List Item). xs ≡ []) (λ own. refl) (λ its. loses_none_with e w.book clear by w.book.page_count))
      (death_clear e w clear by) (set_other e by 0 w.book.excess other) refl refl
