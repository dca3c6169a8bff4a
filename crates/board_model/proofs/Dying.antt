-- The runner's death, on the world that is shown.
use Rattle.std.proofs.Common.{◌≡◌, ◌≢◌, ◌≤◌, ◌<◌, ℕ, [], ◌∷◌, length, suc, zero, true, false, Option, Some, None, refl, sym, ◌∙◌, ap, arith, append_assoc, rules}
use Rattle.std.proofs.lemmas.Bool.{ne_eqb, eq-eqb, eqb-true}
use Rattle.std.proofs.lemmas.List.{length-map, length-append}
use Rattle.std.specs.Prelude.{if◌then◌else◌, slice_get}
use Rattle.std.specs.Option.{option_map}
use Rattle.std.specs.List.{list_all}
use Rattle.std.proofs.lemmas.Option.{slice_get_within}
use Rattle.filter_tree.specs.ClaimBook.{RowValue, is_of_env}
use Rattle.frame_store.specs.Pages.{page_at}
use Rattle.aegis_limits.specs.Limits.{most_slots}
use Rattle.kernel_journal.specs.declared.row.Row.TheVariants as row
use Rattle.page_book.specs.declared.row.PageRow.{PageRow}
use Rattle.page_book.specs.Row.{belongs_to, is_owned_by, released as released_page}
use Rattle.page_book.specs.Rows.{row_in}
use Rattle.page_book.proofs.Owners.{released_none, released_own}
use Rattle.bind_book.specs.Stripe.{goes_with, without}
use Rattle.bind_book.proofs.Swept.{swept_row, own_goes}
use Rattle.page_laws.proofs.Mourning.{mourners_lose}
use Rattle.page_laws.proofs.Stripes.{stripes_end}
use Rattle.page_laws.proofs.Sights.{HasNone, nothing_seen}
use Rattle.slot_vector.specs.Slices.{excess_of, hold_at, without_env}
use Rattle.slot_vector.proofs.Owed.{excess_set}
use Rattle.world_model.specs.declared.hold.Hold.{Hold}
use Rattle.world_model.specs.declared.life.Cause.{Cause}
use Rattle.world_model.specs.Book.{hold_without, has_part, is_runner}
use Rattle.world_model.specs.Item.{absorb_all}
use Rattle.world_model.specs.Solo.{dead}
use Rattle.world_model.specs.Death.{death, death_items, lost_with, released_row, released_rows}
use Rattle.world_model.specs.SlotCalls.{slot_row}
use Rattle.world_model.specs.Table.{set_at}
use Rattle.board_model.specs.declared.roster.Environment.{Environment}
use Rattle.board_model.specs.Shown.{Shown}
use Rattle.board_model.specs.Showing.{world_of, book_of, solo_of, solo_or_absent, solo_seen}
use Rattle.board_model.specs.Sound.{BooksAgree, IsSoundBoard, has_own_page}
use Rattle.revocation_book.specs.RevocationBook.{with_pending}
use Rattle.board_model.proofs.Asked.{backups_set, pending_set}
use Rattle.board_model.proofs.Claimed.{claims_without, no_ring, rings_gone, rings_gone_else}
use Rattle.board_model.specs.Doing as doing
use Rattle.board_model.proofs.Lists.{changed_here, changed_else, length-changed}
use Rattle.board_model.proofs.Losing.{dropped, losses_keep, no_losses, rings_but, sees_by}
use Rattle.board_model.proofs.Mappings.{dead_mappings}
use Rattle.board_model.proofs.Parts.{by_env, set_here, set_else}
use Rattle.board_model.proofs.Replying.{Serves}
use Rattle.board_model.proofs.Seen.{Runs, runner_seen, stripe_of}
use Rattle.board_model.proofs.Tables.{row_past, row_released}
use Rattle.board_model.proofs.Wired.{line_freed}
use Rattle.board_model.proofs.Sound.{hold_at-released}

one_row : (t e k : ℕ) (hold : Option Hold) → length (released_row t e k hold) ≤ 1
one_row t e k hold = elim (has_part e hold) as (λ part. length (if part then slot_row t k (hold_without e hold) ∷ [] else []) ≤ 1) [ true ↦ omega arith | false ↦ omega arith ]

pub few_rows : (t e : ℕ) (slots : ℕ → Option Hold) (k : ℕ) → length (released_rows t e slots k) ≤ k
few_rows t e slots zero = omega arith
few_rows t e slots (suc k) = let so_far = few_rows t e slots k in let row = one_row t e k (slots k) in omega (arith, so_far, row, length-append (released_rows t e slots k) (released_row t e k (slots k)))

-- a page that belongs to one no other owns
not_its : (i e : ℕ) (row : PageRow) → i ≢ e → belongs_to e row ≡ true → is_owned_by i row ≡ false
not_its i e row ne its = search (rules, ne_eqb, eqb-true)

-- What a death reads of a sound board.
pub record MayDie (b : Shown) (e : ℕ) : Type 0 where
  pub numbered : e < length b.slots.excess
  pub count : length b.slots.slots ≤ most_slots
  pub books : BooksAgree b.pages b.binds b.roster
  pub claims : list_all (λ (c : RowValue). has_own_page b.pages c.claim) b.claims.rows ≡ true
  pub pending : e < length b.revocations.pending
  pub backups : e < length b.revocations.backups

-- each environment of the board has an excess
pub numbered_within : (b : Shown) (e : ℕ) (x : Environment) → slice_get b.roster.list e ≡ Some x → IsSoundBoard b → e < length b.slots.excess
numbered_within b e x at sound = omega (arith, slice_get_within b.roster.list e x at, sound.few, sound.book.numbered)

pub may_die : (b : Shown) (e : ℕ) (x : Environment) → slice_get b.roster.list e ≡ Some x → IsSoundBoard b → MayDie b e
may_die b e x at sound = search (rules, slice_get_within, numbered_within)

module _ (b : Shown) (e : ℕ) (x : Environment) (r : Runs b e x) (may : MayDie b e) (cause : Cause) where
  abbrev after_death : Shown
  after_death = doing.after_death b e cause

  swept_stripe : (i row : ℕ) → stripe_of after_death i row ≡ without (goes_with (row_in b.pages) e i) (stripe_of b i row)
  swept_stripe i row = swept_row (goes_with (row_in b.pages) e) b.binds i row

  has_nothing : HasNone e (row_in after_death.pages) (stripe_of after_death e)
  has_nothing = search (rules, own_goes, row_released, released_own, swept_stripe)

  dead_solo : solo_of after_death e ≡ dead cause (solo_of b e)
  dead_solo =
      ap (solo_or_absent after_death e) (changed_here (doing.dead_frame cause) b.roster.list e ∙ ap (option_map (doing.dead_frame cause)) r.at)
      ∙ rw r.runs.its (λ k. record (dead cause (solo_seen b e x)) {
        binds = λ row. has_nothing.binds row k;
        seen = λ page. nothing_seen e (row_in after_death.pages) (stripe_of after_death e) (page_at b.frames) has_nothing page k;
        rings = rings_gone b.claims e k;
      })
      ∙ ap (dead cause) (sym (runner_seen b e x r))

  dead_others : (i : ℕ) → i ≢ e → solo_of after_death i ≡ absorb_all (solo_of b i) (lost_with (book_of b) e i (length b.pages))
  dead_others i ne = dropped i b after_death (lost_with (book_of b) e i (length b.pages)) (record {
    version = refl;
    record_is = changed_else (doing.dead_frame cause) b.roster.list e i ne;
    rings = rings_gone_else b.claims e i ne;
    cpu = λ kept. let idles : is_runner i after_death.slots.runner ≡ false = rw r.runs.its refl in rw (idles, r.runs.others i ne) refl;
    pages = refl;
    sees = λ s lives seen.
        sees_by i (λ page. released_page e (row_in b.pages page)) (row_in after_death.pages) (λ row. without (goes_with (row_in b.pages) e i) (stripe_of b i row)) (stripe_of after_death i) (page_at b.frames) (page_at b.frames)
        (absorb_all s (lost_with (book_of b) e i (length b.pages))) (row_released e b.pages) (swept_stripe i) (λ page. refl)
        (mourners_lose e i (book_of b) (page_at b.frames) s seen lives ne (row_past b.pages) (stripes_end b.binds i));
    keeps = λ s same. losses_keep (book_of b) e i (length b.pages) s (λ page its. ap (rings_but page) same ∙ no_ring b.claims b.pages i page may.claims (not_its i e (row_in b.pages page) ne its) ∙ sym same);
    none = λ none. record {
      binds = λ row. swept_stripe i row ∙ ap (without (goes_with (row_in b.pages) e i)) (none.binds row);
      owns = λ page. ap (is_owned_by i) (row_released e b.pages page) ∙ released_none e i (row_in b.pages page) (none.owns page);
    };
    nothing = λ none. no_losses (book_of b) e i (length b.pages) none.binds;
  }) may.books

  pub dies : Serves b e (dead cause (solo_of b e)) (death (world_of b) e) after_death
  dies = record {
    book =
        let ended : (without_env e b.slots).runner ≡ None = rw r.runs.its refl in
        let forgiven : excess_of (without_env e b.slots).excess ≡ set_at e 0 (excess_of b.slots.excess) = excess_set b.slots.excess e 0 may.numbered in
        λ k. record {
          version = b.binds.version;
          slot_count = length-map b.slots.slots (hold_without e) k;
          slots = λ n. hold_at-released e b.slots.slots n k;
          quantum = b.slots.quantum;
          cursor = b.slots.cursor;
          runner = ended k;
          excess = forgiven k;
          page_count = length-map b.pages (released_page e) k;
          pages = λ page. row_released e b.pages page k;
          kept = λ i. dead_mappings cause b.roster.list e i k;
          binds = λ i row. swept_stripe i row k;
          lines = λ line. line_freed e b.lines line k;
          claims = claims_without (is_of_env e) b.claims k;
          next_claim = b.claims.next;
          pending = λ i. pending_set b.revocations e None may.pending i k;
          backups = λ i. backups_set (with_pending b.revocations e None) e [] may.backups i k;
          time = b.time;
        };
    count = length-changed (doing.dead_frame cause) b.roster.list e;
    solos =
        by_env (solo_of after_death) (λ i. absorb_all (set_at e (dead cause (solo_of b e)) (solo_of b) i) (death_items (book_of b) e i)) e
        (dead_solo
        ∙ (λ k. absorb_all (sym (set_here e (dead cause (solo_of b e)) (solo_of b)) k) (if sym (eq-eqb e e refl) k then [] else lost_with (book_of b) e e (length b.pages))))
        (λ i ne. dead_others i ne
        ∙ (λ k. absorb_all (sym (set_else e i (dead cause (solo_of b e)) (solo_of b) ne) k) (if sym (ne_eqb i e ne) k then [] else lost_with (book_of b) e i (length b.pages))));
    rows = append_assoc b.ledger.rows (row.Dead b.time b.slots.cursor e ∷ []) (released_rows b.time e (hold_at b.slots.slots) (length b.slots.slots));
    room = omega (arith, few_rows b.time e (hold_at b.slots.slots) (length b.slots.slots), may.count);
    spare = refl;
    time = refl;
  }

pub died_serves : (b : Shown) (e : ℕ) (x : Environment) → Runs b e x → IsSoundBoard b → (cause : Cause) → Serves b e (dead cause (solo_of b e)) (death (world_of b) e) (doing.after_death b e cause)
died_serves b e x r sound cause = dies b e x r (may_die b e x r.at sound) cause
