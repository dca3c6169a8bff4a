-- The runner's transfers of control, on the world that is shown.
use Rattle.std.proofs.Common.{◌≡◌, ◌≢◌, ◌≤◌, ℕ, ◌+◌, List, [], ◌∷◌, ◌++◌, length, Bool, Some, refl, sym, ◌∙◌, ap, append_assoc, length-set, rules}
use Rattle.std.specs.Prelude.{slice_get}
use Rattle.std.specs.Option.{option_map}
use Rattle.aegis_limits.specs.Limits.{page_size}
use Rattle.mips_exec.specs.declared.registers.Cpu.{Cpu}
use Rattle.mips_exec.specs.Access.{Write}
use Rattle.env_frames.specs.declared.transfer.TransferKind.{TransferKind}
use Rattle.env_frames.specs.Transfer.{carried, entry_area, entry_bytes, hands_slot}
use Rattle.slot_vector.specs.Slices.{Slices, hold_at, slots_given}
use Rattle.world_model.specs.declared.call.Deed.TheVariants.{Transfers}
use Rattle.world_model.specs.declared.verdict.Verdict.TheVariants.{Grant}
use Rattle.world_model.specs.May.{MayEnter}
use Rattle.world_model.specs.Upcalls.{enter}
use Rattle.world_model.specs.Item.{Transfer, absorb_all, answered_cpu}
use Rattle.world_model.specs.Solo.{Solo, kept_after}
use Rattle.world_model.specs.Transfers.{slots_handed, transfer_rows}
use Rattle.world_model.specs.Verdict.{done}
use Rattle.board_model.specs.declared.roster.Environment.{Environment}
use Rattle.board_model.specs.Shown.{Shown, with_record, mappings_in, mappings_of, registers_in, registers_of}
use Rattle.board_model.specs.Showing.{world_of, book_of, solo_of, solo_or_absent, solo_seen, cpu_seen, pages_seen}
use Rattle.board_model.specs.Sound.{IsSoundBoard}
use Rattle.board_model.specs.Doing as doing
use Rattle.board_model.proofs.Contexts.{left_others, left_own, left_sights, left_store, waiting}
use Rattle.board_model.proofs.GiftServing.{IsThere, handed_named, other_given, other_in, waiting_seen}
use Rattle.board_model.proofs.Lists.{changed_here, changed_else, length-changed}
use Rattle.board_model.proofs.Mappings.{kept_mappings}
use Rattle.board_model.proofs.Replying.{Serves, deeded, deeded_seen}
use Rattle.board_model.proofs.Seen.{same_solo, Runs, runner_seen, runner_solo}
use Rattle.board_model.proofs.Slots.{hold_changed}
use Rattle.board_model.proofs.Sound.{keeps_accepting, keeps_registers}

-- The book: there are as many slots, and the cursor's has another holder, where it is handed on.
given_count : (later : Bool) (target : ℕ) (v : Slices) → length (slots_given later target v) ≡ length v.slots
given_count later target v = search (rules, length-set)

given_holds : (later : Bool) (target : ℕ) (b : Shown) (k : ℕ) → hold_at (slots_given later target b.slots) k ≡ slots_handed later target (book_of b) k
given_holds later target b k = search (rules, hold_changed)

-- The ledger: a row, or two.
entered_rows : (b : Shown) (e t : ℕ) (kind : TransferKind) → (doing.ledger_after_hand_on b e t kind).rows ≡ b.ledger.rows ++ transfer_rows (book_of b) e t kind
entered_rows b e t kind = search (rules, append_assoc)

pub entered_room : (b : Shown) (e t : ℕ) (kind : TransferKind) → b.ledger.spare ≤ (doing.ledger_after_hand_on b e t kind).spare + 128
entered_room b e t kind = search rules

-- what a transfer stores to the context page of its target, of whom these registers were kept
abbrev entry_write : ℕ → TransferKind → Cpu → Write
entry_write e kind cpu = record { address = page_size + entry_area; bytes = entry_bytes e kind cpu }

module _ (b : Shown) (e : ℕ) (x : Environment) (r : Runs b e x) (sound : IsSoundBoard b) where
  -- The target is entered.
  module _ (t : ℕ) (y : Environment) (there : IsThere b.roster.list t y) (other : t ≢ e) (kind : TransferKind) (v : ℕ) where
    abbrev new : Shown
    new = doing.after_transfer b e v t kind

    abbrev keeping : Environment → Environment
    keeping = doing.with_registers (answered_cpu (Grant v) b.cpu)

    abbrev closed_list : List Environment
    closed_list = with_record (doing.with_mask 0) b.roster.list t

    abbrev write : Write
    write = entry_write e kind (registers_of b.roster.list t)

    not_target : e ≢ t
    not_target same = other (sym same)

    target_at : slice_get new.roster.list t ≡ Some (doing.with_mask 0 y)
    target_at = changed_else keeping closed_list e t other ∙ changed_here (doing.with_mask 0) b.roster.list t ∙ ap (option_map (doing.with_mask 0)) there.at

    caller_at : slice_get new.roster.list e ≡ Some (keeping x)
    caller_at = changed_here keeping closed_list e ∙ ap (option_map keeping) (changed_else (doing.with_mask 0) b.roster.list t e not_target ∙ r.at)

    other_at : (i : ℕ) → i ≢ e → i ≢ t → slice_get new.roster.list i ≡ slice_get b.roster.list i
    other_at i ne ne_t = changed_else keeping closed_list e i ne ∙ changed_else (doing.with_mask 0) b.roster.list t i ne_t

    runs_next : Runs new t (doing.with_mask 0 y)
    runs_next = record { at = target_at; lives = there.lives; runs = handed_named e t b.slots.runner r.runs.its }

    -- in its context page it finds where it stood, and who calls it
    maps : mappings_of b.roster.list t ≡ y.env.mappings
    maps = ap mappings_in there.at

    entered_kept : pages_seen new.frames y.env.mappings ≡ kept_after (pages_seen b.frames y.env.mappings) (left_store (entry_write e kind y.env.cpu))
    entered_kept =
        ap (pages_seen new.frames) (sym maps)
        ∙ left_own b sound t write refl
        ∙ (λ k. kept_after (pages_seen b.frames (maps k)) (left_store (entry_write e kind (registers_in (there.at k)))))

    entered : record (waiting b t y) { cpu = doing.entry_registers b t kind; mask = 0; kept = pages_seen new.frames y.env.mappings } ≡ enter e kind (carried b.cpu) (waiting b t y)
    entered = search (rules, entered_kept)

    target_solo : solo_of new t ≡ absorb_all (solo_of b t) (Transfer e kind (carried (solo_of b e).cpu) ∷ [])
    target_solo =
        runner_seen new t (doing.with_mask 0 y) runs_next
        ∙ (λ k. record (runner_solo new t (doing.with_mask 0 y)) { seen = λ p. left_sights b sound t write refl t p k })
        ∙ entered
        ∙ ap (λ s. absorb_all s (Transfer e kind (carried b.cpu) ∷ [])) (sym (waiting_seen b e x r sound t y there other v))
        ∙ ap (λ (s : Solo). absorb_all (solo_of b t) (Transfer e kind (carried s.cpu) ∷ [])) (sym (runner_seen b e x r))

    -- The caller keeps its registers behind its call, and its pages are as they were.
    caller_pages : pages_seen new.frames x.env.mappings ≡ pages_seen b.frames x.env.mappings
    caller_pages =
        (λ k. pages_seen new.frames (mappings_in (sym r.at k)))
        ∙ left_others b sound t write refl e not_target
        ∙ (λ k. pages_seen b.frames (mappings_in (r.at k)))

    caller_solo : solo_of new e ≡ record (runner_solo b e x) { cpu = answered_cpu (Grant v) b.cpu }
    caller_solo =
        let after : cpu_seen new e (answered_cpu (Grant v) b.cpu) ≡ answered_cpu (Grant v) b.cpu = rw (runs_next.runs.others e not_target) refl in
        ap (solo_or_absent new e) caller_at
        ∙ (λ k. record (solo_seen b e x) { life = r.lives k; cpu = after k; kept = caller_pages k; seen = λ p. left_sights b sound t write refl e p k })

    others : (i : ℕ) → i ≢ e → i ≢ t → solo_of new i ≡ solo_of b i
    others i ne ne_t =
        same_solo i new b (search (rules, (other_at i ne ne_t), (runs_next.runs.others i ne_t), (r.runs.others i ne), (left_others b sound t write refl i ne_t), (left_sights b sound t write refl i)))

    entered_mappings : (i : ℕ) → mappings_of new.roster.list i ≡ mappings_of b.roster.list i
    entered_mappings i = search (rules, kept_mappings, keeps_registers, keeps_accepting)

    transfers_to : Serves b e (deeded (Transfers t kind) v (solo_of b e)) (done (world_of b) e (Transfers t kind)) new
    transfers_to = record {
      book = λ k. record (book_of new) { slot_count = given_count (hands_slot kind) t b.slots k; slots = λ i. given_holds (hands_slot kind) t b i k; kept = λ i. entered_mappings i k };
      count = length-changed keeping closed_list e ∙ length-changed (doing.with_mask 0) b.roster.list t;
      solos = other_given (solo_of b) (solo_of new) e t (deeded (Transfers t kind) v (solo_of b e)) (Transfer e kind (carried (solo_of b e).cpu) ∷ []) other
          (caller_solo ∙ deeded_seen b e x r (Transfers t kind) v)
          target_solo
          others;
      rows = entered_rows b e t kind;
      room = entered_room b e t kind;
      spare = refl;
      time = refl;
    }

  pub transfers : (t : ℕ) (kind : TransferKind) (v : ℕ) → MayEnter (world_of b) e t kind → Serves b e (deeded (Transfers t kind) v (solo_of b e)) (done (world_of b) e (Transfers t kind)) (doing.after_grant b e v (Transfers t kind))
  transfers t kind v may = let target = other_in b e t may.reach.other in transfers_to t target.its target.there target.other kind v
