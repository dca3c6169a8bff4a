-- What the runner does to its bindings, on the world that is shown.
use Rattle.std.proofs.Common.{◌≡◌, ◌≢◌, ℕ, ◌+◌, List, [], ◌∷◌, length, Option, Some, refl, sym, ◌∙◌, ap, arith, subst, rules}
use Rattle.std.specs.Prelude.{slice_set}
use Rattle.std.proofs.lemmas.Bool.{eq-eqb}
use Rattle.std.proofs.lemmas.Option.{slice_get_within}
use Rattle.std.proofs.lemmas.List.{append-nil}
use Rattle.frame_store.specs.Pages.{page_at}
use Rattle.page_book.specs.declared.row.PageRow.{PageRow}
use Rattle.page_book.specs.declared.row.PageRow.TheVariants.{Free, Guaranteed, Owned}
use Rattle.page_book.specs.Row.{is_owned_by, owner_of}
use Rattle.page_book.specs.Rows.{row_in}
use Rattle.bind_book.specs.declared.binding.Binding.{Binding}
use Rattle.bind_book.specs.Stripe.{HasStripe, is_bound, stripe_place, row_of, stripes}
use Rattle.bind_book.proofs.Rows.{row_within}
use Rattle.page_laws.specs.Sight.{Sees, seen_if, seen_in}
use Rattle.page_laws.proofs.Sights.{binder_sees, unbinder_loses}
use Rattle.world_model.specs.declared.call.Deed.TheVariants.{Binds, Unbinds}
use Rattle.world_model.specs.declared.verdict.Verdict.TheVariants.{Grant}
use Rattle.world_model.specs.Holding.{bound, gained, after_unbind}
use Rattle.world_model.specs.Item.{Gained, absorb_all, answered_cpu}
use Rattle.world_model.specs.PageCalls as calls
use Rattle.world_model.specs.Solo.{Solo, bytes_seen}
use Rattle.world_model.specs.May.{MayBind}
use Rattle.world_model.specs.Table.{set_at}
use Rattle.world_model.specs.Verdict.{done}
use Rattle.board_model.specs.declared.roster.Environment.{Environment}
use Rattle.board_model.specs.Shown.{Shown}
use Rattle.board_model.specs.Showing.{world_of, book_of, solo_of, solo_or_absent}
use Rattle.board_model.specs.Sound.{IsSoundBoard, IsOwned}
use Rattle.board_model.specs.Doing as doing
use Rattle.board_model.proofs.Booked.{has_stripe}
use Rattle.board_model.proofs.Losing.{resighted}
use Rattle.board_model.proofs.PageServing.{own_sees}
use Rattle.board_model.proofs.Parts.{one_given, set_here, set_else}
use Rattle.board_model.proofs.Replying.{Serves, deeded, deeded_seen, changes_one}
use Rattle.board_model.proofs.Seen.{same_solo, Runs, runner_solo, runner_seen, live_record, stripe_of}
use Rattle.board_model.proofs.Tables.{stripe_set, stripe_without}

-- who unbinds_number a VPN keeps all but its bindings and what it sees
unbound_keeps : (vpn : ℕ) (s : Solo) → after_unbind vpn s ≡ resighted s (after_unbind vpn s)
unbound_keeps vpn s = search rules

-- the bytes of a page that is owned are those that its owner sees
bytes_owned : (b : Shown) (page : ℕ) → IsSoundBoard b → IsOwned (row_in b.pages page) → calls.page_bytes (world_of b) page ≡ page_at b.frames page
bytes_owned b page sound owned = by_row (row_in b.pages page) refl owned
  where
    by_row : (row : PageRow) → row_in b.pages page ≡ row → IsOwned row → calls.bytes_owned (world_of b) page row ≡ page_at b.frames page
    by_row Free is owned = absurd owned
    by_row (Guaranteed owner) is owned = absurd owned
    by_row (Owned owner words) is owned =
        let live = sound.books.owners page owner (ap owner_of is) in
        let x = live_record b.roster.list owner live.1 in
        (λ k. bytes_seen ((solo_or_absent b owner (x.1.0 k)).seen page))
        ∙ (λ k. bytes_seen (seen_if (is_owned_by owner (is k)) (is_bound page (stripe_of b owner)) (page_at b.frames page)))
        ∙ (λ k. bytes_seen (seen_if (eq-eqb owner owner refl k) (is_bound page (stripe_of b owner)) (page_at b.frames page)))

module _ (b : Shown) (e : ℕ) (x : Environment) (r : Runs b e x) (sound : IsSoundBoard b) where
  striped : HasStripe b.binds e
  striped =
      let there = slice_get_within b.roster.list e x r.at in
      has_stripe b.binds (length b.roster.list + b.roster.spare) e sound.books.striped (omega (arith, there))

  its_version : (solo_of b e).version ≡ b.binds.version
  its_version = ap (λ (o : Option Environment). (solo_or_absent b e o).version) r.at

  -- Where the runner has other bindings, and is answered.
  module _ (rows : List (Option Binding)) (mine : ℕ → Option Binding) (v : ℕ) (is : (i n : ℕ) → stripes (record b.binds { rows = rows }) i n ≡ set_at e mine (stripes b.binds) i n) where
    abbrev rebound : Shown
    rebound = doing.after_answer (record b { binds = record b.binds { rows = rows } }) (Grant v)

    own_stripe : (n : ℕ) → stripe_of rebound e n ≡ mine n
    own_stripe n = is e n ∙ (λ k. set_here e mine (stripes b.binds) k n)

    other_stripe : (i n : ℕ) → i ≢ e → stripe_of rebound i n ≡ stripe_of b i n
    other_stripe i n ne = is i n ∙ (λ k. set_else e i mine (stripes b.binds) ne k n)

    rebound_book : book_of rebound ≡ record (book_of b) { binds = set_at e mine (stripes b.binds) }
    rebound_book = λ k. record (book_of b) { binds = λ i n. is i n k }

    rebound_others : (i : ℕ) → i ≢ e → solo_of rebound i ≡ solo_of b i
    rebound_others i ne =
        same_solo i rebound b (record { version = refl; record_is = refl; rings = refl; idles = r.runs.others i ne; idled = r.runs.others i ne; pages = refl; binds = λ k n. other_stripe i n ne k; sights = λ k p. seen_in i (row_in b.pages) (λ n. other_stripe i n ne k) (page_at b.frames) p })

    rebound_seen : (s : Solo) → Sees e (row_in b.pages) mine (page_at b.frames) s → solo_of rebound e ≡ record (resighted (runner_solo b e x) s) { cpu = answered_cpu (Grant v) b.cpu }
    rebound_seen s seen =
        let still : Runs rebound e x = record { at = r.at; lives = r.lives; runs = r.runs } in
        runner_seen rebound e x still
        ∙ (λ k. record (runner_solo b e x) {
          cpu = answered_cpu (Grant v) b.cpu;
          binds = λ n. (own_stripe n ∙ sym (seen.binds n)) k;
          seen = λ p. ((λ j. seen_if (is_owned_by e (row_in b.pages p)) (is_bound p (λ n. own_stripe n j)) (page_at b.frames p)) ∙ sym (seen.seen p)) k;
        })

  -- Bind.
  pub binds : (y : Binding) (word v : ℕ) → MayBind (world_of b) e y word → Serves b e (deeded (Binds y word) v (solo_of b e)) (done (world_of b) e (Binds y word)) (doing.after_grant b e v (Binds y word))
  binds y word v may =
      let row = row_of b.binds.version y.vpn in
      let mine = set_at row (Some y) (stripes b.binds e) in
      let rows = slice_set b.binds.rows (stripe_place b.binds.version e row) (Some y) in
      let set = stripe_set b.binds e row (Some y) striped (row_within b.binds.version y.vpn) in
      let sees = binder_sees e y (row_in b.pages) (stripe_of b e) (page_at b.frames) (runner_solo b e x) (own_sees b e x) in
      let owned : IsOwned (row_in b.pages y.page) = subst IsOwned (sym may.right.owned) tt in
      let theirs = calls.page_bytes (world_of b) y.page in
      record {
        book = rebound_book rows mine v set ∙ (λ k. record (book_of b) { binds = calls.with_binding (sym its_version k) e y (stripes b.binds) });
        count = refl;
        solos = one_given (solo_of b) (solo_of (doing.after_grant b e v (Binds y word))) e (deeded (Binds y word) v (solo_of b e)) (Gained y.page y.writable theirs ∷ [])
            (rebound_seen rows mine v set (gained y.page (page_at b.frames y.page) (bound y (runner_solo b e x))) sees
            ∙ (λ k. absorb_all (record (bound y (runner_solo b e x)) { cpu = answered_cpu (Grant v) b.cpu }) (Gained y.page y.writable (sym (bytes_owned b y.page sound owned) k) ∷ []))
            ∙ ap (λ s. absorb_all s (Gained y.page y.writable theirs ∷ [])) (deeded_seen b e x r (Binds y word) v))
            (rebound_others rows mine v set);
        rows = sym (append-nil b.ledger.rows);
        room = omega arith;
        spare = refl;
        time = refl;
      }

  -- Unbind.
  pub unbinds : (vpn v : ℕ) → Serves b e (deeded (Unbinds vpn) v (solo_of b e)) (done (world_of b) e (Unbinds vpn)) (doing.after_grant b e v (Unbinds vpn))
  unbinds vpn v =
      let mine = calls.without_number b.binds.version vpn (stripes b.binds e) in
      let rows = (doing.with_unbound b e vpn).binds.rows in
      let set = stripe_without b.binds e vpn striped (row_within b.binds.version vpn) in
      let sees = unbinder_loses e vpn (row_in b.pages) (stripe_of b e) (page_at b.frames) (runner_solo b e x) (own_sees b e x) in
      changes_one refl (rebound_book rows mine v set ∙ (λ k. record (book_of b) { binds = set_at e (calls.without_number (sym its_version k) vpn (stripes b.binds e)) (stripes b.binds) })) refl
      (rebound_seen rows mine v set (after_unbind vpn (runner_solo b e x)) sees
      ∙ (λ k. record (sym (unbound_keeps vpn (runner_solo b e x)) k) { cpu = answered_cpu (Grant v) b.cpu })
      ∙ deeded_seen b e x r (Unbinds vpn) v)
      (rebound_others rows mine v set)
