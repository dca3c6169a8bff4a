-- A revocation, on the world that is shown.
use Rattle.std.proofs.Common.{◌≡◌, ◌<◌, ℕ, List, [], ◌∷◌, length, Bool, true, false, Option, Some, None, refl, sym, ◌∙◌, ap, arith, rules}
use Rattle.std.specs.Prelude.{slice_get, if◌then◌else◌}
use Rattle.std.proofs.lemmas.Option.{slice_get_within}
use Rattle.env_frames.specs.declared.post.PostWord.TheVariants as post
use Rattle.env_frames.specs.Post.{asked_in}
use Rattle.revocation_book.specs.declared.revocation.Pending.{Pending}
use Rattle.revocation_book.specs.Pending.{asked}
use Rattle.revocation_book.specs.RevocationBook.{pending_at}
use Rattle.world_model.specs.declared.life.Life.TheVariants.{Live}
use Rattle.world_model.specs.Event.{asks, revokes}
use Rattle.world_model.specs.Item.{Asked, absorb_all}
use Rattle.world_model.specs.Post.{asked_for}
use Rattle.world_model.specs.Solo.{Solo}
use Rattle.world_model.specs.Table.{set_at}
use Rattle.world_model.specs.World.{after, is_living, no_change}
use Rattle.page_laws.proofs.Tables.{set_same}
use Rattle.board_model.specs.declared.roster.Environment.{Environment}
use Rattle.board_model.specs.Shown.{Shown}
use Rattle.board_model.specs.Showing.{book_of, solo_of, world_of}
use Rattle.board_model.specs.Sound.{IsSoundBoard}
use Rattle.board_model.specs.Doing.{with_asked, after_revocation, context_of}
use Rattle.board_model.proofs.Asked.{nothing_pending, pending_set}
use Rattle.board_model.proofs.Parts.{one_absorbed, worlds}
use Rattle.board_model.proofs.Phases.{quiet_world}
use Rattle.board_model.proofs.Posting.{changed_in, same_size, with_word, worded, worded_others, worded_seen}
use Rattle.board_model.proofs.Seen.{like_solo, live_shown, living_record}
use Rattle.board_model.proofs.Staying.{sound_frames}

-- A revocation that leaves pages outstanding
asked_changed : (outstanding deadline : ℕ) (page : Option ℕ) (frames : List (List ℕ)) → asked_in outstanding deadline page frames ≡ changed_in post.Deadline (λ n. deadline) page (changed_in post.Outstanding (λ n. outstanding) page frames)
asked_changed outstanding deadline page frames = search rules

module _ (b : Shown) (sound : IsSoundBoard b) (e : ℕ) (x : Environment) (at : slice_get b.roster.list e ≡ Some x) (lives : x.life ≡ Live) (p : Pending) where
  abbrev asked_board : Shown
  asked_board = with_asked b e (Some p)

  abbrev told : Shown
  told = with_word b e post.Outstanding (λ n. p.outstanding)

  told_sound : IsSoundBoard told
  told_sound = sound_frames told.frames (same_size post.Outstanding (λ n. p.outstanding) (context_of b e) b.frames) sound

  like_told : (i : ℕ) → solo_of asked_board i ≡ solo_of (with_word told e post.Deadline (λ n. p.deadline)) i
  like_told i = search (rules, like_solo, asked_changed)

  asked_here : solo_of asked_board e ≡ absorb_all (solo_of b e) (Asked p.outstanding p.deadline ∷ [])
  asked_here =
      like_told e
      ∙ worded_seen told told_sound e x at lives (λ n. p.deadline) post.Deadline
      ∙ ap (worded post.Deadline (λ n. p.deadline)) (worded_seen b sound e x at lives (λ n. p.outstanding) post.Outstanding)
      ∙ ap (asked_for p.outstanding p.deadline) (live_shown b e x at lives)
      ∙ ap (λ (s : Solo). absorb_all s (Asked p.outstanding p.deadline ∷ [])) (sym (live_shown b e x at lives))

  asked_place : e < length b.revocations.pending
  asked_place = omega (arith, slice_get_within b.roster.list e x at, sound.few, sound.revocations.pending)

  asked_world : world_of asked_board ≡ after (world_of b) (asks e (Some p) (world_of b))
  asked_world =
      worlds (world_of asked_board) (after (world_of b) (asks e (Some p) (world_of b)))
      (λ k. record (book_of b) { pending = λ i. pending_set b.revocations e (Some p) asked_place i k })
      refl
      (one_absorbed (solo_of b) (solo_of asked_board) e (Asked p.outstanding p.deadline ∷ []) asked_here
      (λ i ne. like_told i
      ∙ worded_others told told_sound e x at lives (λ n. p.deadline) post.Deadline i ne
      ∙ worded_others b sound e x at lives (λ n. p.outstanding) post.Outstanding i ne))
      refl

pub revoked_world : (b : Shown) (e count deadline : ℕ) → IsSoundBoard b → world_of (after_revocation b e count deadline) ≡ after (world_of b) (revokes e count deadline (world_of b))
revoked_world b e count deadline sound = by_living (is_living (world_of b) e) refl
  where
    -- nothing was pending, and nothing is
    quiet : (x : Environment) → slice_get b.roster.list e ≡ Some x → pending_at b.revocations e ≡ None → world_of (with_asked b e None) ≡ world_of b
    quiet x at none =
        worlds (world_of (with_asked b e None)) (world_of b)
        (λ k. record (book_of b) {
          pending = λ i. (pending_set b.revocations e None (omega (arith, slice_get_within b.roster.list e x at, sound.few, sound.revocations.pending)) i
              ∙ (λ j. set_at e (sym none j) (pending_at b.revocations) i)
              ∙ set_same e (pending_at b.revocations) i) k;
        })
        refl
        (λ i. like_solo i (with_asked b e None) b (record { version = refl; record_is = refl; rings = refl; cpu = λ kept. refl; pages = refl; binds = refl; sights = refl }))
        refl

    by_pending : (x : Environment) → slice_get b.roster.list e ≡ Some x → x.life ≡ Live → (o : Option Pending) → asked count deadline (pending_at b.revocations e) ≡ o → world_of (with_asked b e o) ≡ after (world_of b) (asks e o (world_of b))
    by_pending x at lives None is = quiet x at (nothing_pending count deadline (pending_at b.revocations e) (sound.revocations.some e) is) ∙ quiet_world (world_of b)
    by_pending x at lives (Some p) is = asked_world b sound e x at lives p

    by_living : (t : Bool) → is_living (world_of b) e ≡ t → world_of (if t then with_asked b e (asked count deadline (pending_at b.revocations e)) else b) ≡ after (world_of b) (if t then asks e (asked count deadline (pending_at b.revocations e)) (world_of b) else no_change (world_of b))
    by_living true living = let x = living_record b e living in by_pending x.0 x.1.0 x.1.1 (asked count deadline (pending_at b.revocations e)) refl
    by_living false gone = quiet_world (world_of b)
