-- What is taken at deadlines, on the world that is shown.
use Rattle.std.proofs.Common.{◌≡◌, ◌≢◌, ◌<◌, ◌≤◌, ℕ, zero, suc, ◌+◌, ◌/◌, ◌%◌, List, [], ◌∷◌, ◌++◌, length, map, drop, fold, Bool, true, false, Option, Some, None, IfSome, IsSome, refl, sym, ◌∙◌, ap, subst, arith, length-set, rules}
use Rattle.std.specs.Prelude.{◌||◌, if◌then◌else◌, nat_lt, slice_get, slice_index_or}
use Rattle.std.proofs.lemmas.Bool.{eq-eqb, eqb-true, ltb-true, or_parts}
use Rattle.std.proofs.lemmas.List.Sums.{fold-append}
use Rattle.aegis_limits.specs.Limits.{most_pages, page_size}
use Rattle.frame_store.specs.Pages.{page_at, word_at}
use Rattle.env_frames.specs.declared.post.PostWord.TheVariants as post
use Rattle.env_frames.specs.Context.{context_number}
use Rattle.env_frames.specs.Post.{most_records, post_offset, record_bytes, record_offset, taken_in}
use Rattle.page_book.specs.declared.row.PageRow.TheVariants.{Free}
use Rattle.page_book.specs.Row.{is_owned_by, owner_of}
use Rattle.page_book.specs.Rows.{row_in}
use Rattle.page_book.proofs.Owners.{owner_is}
use Rattle.revocation_book.specs.declared.revocation.Pending.{Pending}
use Rattle.revocation_book.specs.declared.revocation.Taking.{Taking}
use Rattle.revocation_book.specs.Backups.{is_loaded}
use Rattle.revocation_book.specs.Pending.{is_due, unless_due}
use Rattle.revocation_book.specs.RevocationBook.{backups_at, books_of, is_any_due}
use Rattle.revocation_book.specs.Takings.{AreTakable, Books, IsTakable, TakingsAreFew, TakingsAreTakable, taken as books_taken, paired, takings_below, takings_of, victims}
use Rattle.std.specs.List.{list_any}
use Rattle.std.proofs.lemmas.List.{append-nil}
use Rattle.std.proofs.lemmas.Grind.{common_steps}
use Rattle.world_model.specs.declared.life.Life.TheVariants.{Live}
use Rattle.world_model.specs.Deadlines.{copy_left, settles, takes}
use Rattle.world_model.specs.Item.{Taken, absorb, absorb_all}
use Rattle.world_model.specs.PageCalls as calls
use Rattle.world_model.specs.PageCalls.{lost_bindings, page_bytes}
use Rattle.world_model.specs.Post.{post_word}
use Rattle.world_model.specs.Repossession.{copied, counted_taking, recorded, with_page_taken}
use Rattle.world_model.specs.Rings.{page_store}
use Rattle.world_model.specs.Solo.{Physical, bytes_of, with_store}
use Rattle.world_model.specs.World.{World, Reply, after, run_phases}
use Rattle.board_model.specs.declared.roster.Environment.{Environment}
use Rattle.board_model.specs.Shown.{Shown}
use Rattle.board_model.specs.Showing.{book_of, solo_of, solo_or_absent, world_of}
use Rattle.board_model.specs.Sound.{IsLiving, IsSoundBoard}
use Rattle.board_model.specs.Laws.{ServingShowsModel}
use Rattle.board_model.specs.Doing.{context_of, frames_after_copy, with_deadlines_over, after_deadlines, after_taking, board_takings, with_freed}
use Rattle.board_model.proofs.Asked.{backups_set, pending_served, taken_asked}
use Rattle.board_model.proofs.Booked.{free_booked}
use Rattle.board_model.proofs.Breaking.{freed_book, freed_else, freed_own}
use Rattle.board_model.proofs.Claiming.{freed_claimed}
use Rattle.board_model.proofs.Copying as copying
use Rattle.board_model.proofs.Happening.{counted_changed, counts}
use Rattle.board_model.proofs.Pages.{seen_kept}
use Rattle.board_model.proofs.Parted.{row_parted}
use Rattle.board_model.proofs.Allowed.{owned_by_none}
use Rattle.board_model.proofs.Parts.{by_env, set_here, set_else, worlds}
use Rattle.board_model.proofs.Posting.{context_bytes, left_else, left_here, left_with, same_size, with_left, with_word, worded, worded_others, worded_seen}
use Rattle.board_model.proofs.Seen.{like_solo, live_record, row_there, live_shown}
use Rattle.board_model.proofs.Rows.{broken_rows}
use Rattle.board_model.proofs.Staying.{sound_frames, sound_machine, sound_memory}
use Rattle.board_model.proofs.Tables.{table_set}
use Rattle.world_model.specs.Holding.{lost}

-- The record of a page that is taken, which lies in the context page.
record_number : (n : ℕ) → n < most_records → (page_size + record_offset n) / page_size ≡ context_number
record_number n room = omega (arith, room)

record_place : (n : ℕ) → n < most_records → (page_size + record_offset n) % page_size ≡ record_offset n
record_place n room = omega (arith, room)

-- the board with the record of this number, if there is room for it
abbrev recorded_if : Bool → Shown → ℕ → ℕ → ℕ → Option ℕ → Shown
recorded_if true b e n page backup = with_left b e (record_offset n) (λ old. record_bytes page backup)
recorded_if false b e n page backup = b

-- how many records there are
abbrev records : Shown → ℕ → ℕ
records b e = word_at (context_bytes b e) (post_offset post.Takings)

abbrev with_record : Shown → ℕ → ℕ → Option ℕ → Shown
with_record b e page backup = let n = records b e in recorded_if (nat_lt n most_records) b e n page backup

frames_if : (t : Bool) (b : Shown) (e n page : ℕ) (backup : Option ℕ) → length (recorded_if t b e n page backup).frames ≡ length b.frames
frames_if true b e n page backup = grind (arith, length-set)
frames_if false b e n page backup = refl

module _ (b : Shown) (sound : IsSoundBoard b) (e : ℕ) (x : Environment) (at : slice_get b.roster.list e ≡ Some x) (lives : x.life ≡ Live) (page : ℕ) (backup : Option ℕ) where
  abbrev n : ℕ
  n = records b e

  -- as many records as the environment sees
  same_records : n ≡ post_word post.Takings (solo_of b e)
  same_records = search (rules, seen_kept)

  recorded_here : (t : Bool) → nat_lt n most_records ≡ t → solo_of (recorded_if t b e n page backup) e ≡ recorded n page backup (solo_of b e)
  recorded_here true room =
      let within = ltb-true n most_records room in
      left_here b sound e x at lives (record_offset n) (λ old. record_bytes page backup) (record_number n within) (record_place n within)
      ∙ ap (λ t. if t then left_with (record_offset n) (λ old. record_bytes page backup) (solo_of b e) else solo_of b e) (sym room)
  recorded_here false full = ap (λ t. if t then left_with (record_offset n) (λ old. record_bytes page backup) (solo_of b e) else solo_of b e) (sym full)

  recorded_else : (t : Bool) → nat_lt n most_records ≡ t → (i : ℕ) → i ≢ e → solo_of (recorded_if t b e n page backup) i ≡ solo_of b i
  recorded_else true room i ne =
      let within = ltb-true n most_records room in
      left_else b sound e x at lives (record_offset n) (λ old. record_bytes page backup) (record_number n within) (record_place n within) i ne
  recorded_else false full i ne = refl

  abbrev now : Shown
  now = with_record b e page backup

  now_sound : IsSoundBoard now
  now_sound = by_test (nat_lt n most_records)
    where
      by_test : (t : Bool) → IsSoundBoard (recorded_if t b e n page backup)
      by_test true = sound_frames _ (frames_if true b e n page backup) sound
      by_test false = sound

  now_at : (t : Bool) → slice_get (recorded_if t b e n page backup).roster.list e ≡ Some x
  now_at t = search rules

  pub written_is : record b { frames = taken_in page backup (context_of b e) b.frames } ≡ with_word now e post.Takings counts
  written_is = grind (arith, common_steps, counted_changed)

  -- for the environment, and for the others
  pub written_here : solo_of (record b { frames = taken_in page backup (context_of b e) b.frames }) e ≡ counted_taking page backup (solo_of b e)
  written_here =
      ap (λ y. solo_of y e) written_is
      ∙ worded_seen now now_sound e x (now_at (nat_lt n most_records)) lives counts post.Takings
      ∙ ap (worded post.Takings counts) (recorded_here (nat_lt n most_records) refl)
      ∙ ap (λ k. worded post.Takings counts (recorded k page backup (solo_of b e))) same_records

  pub written_else : (i : ℕ) → i ≢ e → solo_of (record b { frames = taken_in page backup (context_of b e) b.frames }) i ≡ solo_of b i
  written_else i ne = search (rules, worded_others, written_is, now_sound, now_at, recorded_else)

  pub written_size : length (taken_in page backup (context_of b e) b.frames) ≡ length b.frames
  written_size = search (rules, same_size, frames_if, written_is)

-- A page that may be taken is its owner's, who lives, and so is the backup.
module _ (b : Shown) (sound : IsSoundBoard b) (x : Taking) (may : IsTakable (books_of b.pages b.revocations) b.time x) where
  abbrev e : ℕ
  e = x.env

  pub owner_live : IsLiving b.roster.list x.env
  owner_live = sound.books.owners x.page x.env (owner_is x.env (row_in b.pages x.page) may.owned)

  not_free : (page : ℕ) → is_owned_by e (row_in b.pages page) ≡ true → row_in b.pages page ≢ Free
  not_free page own free = let none : true ≡ false = sym own ∙ ap (is_owned_by e) free in cc

  pub page_there : x.page < length b.pages
  page_there = row_there b.pages x.page (not_free x.page may.owned)

  -- the backup is the first of those that are loaded
  first_loaded : (backups : List ℕ) (backup : ℕ) → Some backup ≡ slice_get backups 0 → is_loaded backups backup ≡ true
  first_loaded [] backup is = cc
  first_loaded (one ∷ backups) backup is = let same : backup ≡ one = cc in subst (λ n. is_loaded (one ∷ backups) n ≡ true) (sym same) (ap (λ t. t || is_loaded backups one) (eq-eqb one one refl))

  pub backup_own : (backup : ℕ) → x.backup ≡ Some backup → is_owned_by e (row_in b.pages backup) ≡ true
  backup_own backup is = sound.revocations.owned e backup (first_loaded (backups_at b.revocations e) backup (sym is ∙ may.first))

  -- the environment's place in the book of revocations
  pub its_place : e < length b.revocations.backups
  its_place = omega (arith, owner_live.0, sound.few, sound.revocations.backups)

  abbrev lived : (y : Environment) × ((slice_get b.roster.list e ≡ Some y) × (y.life ≡ Live))
  lived = live_record b.roster.list e owner_live.1

  abbrev its : Environment
  its = lived.0

  -- Page, backup and owner are there.
  pub frame_there : x.page < length b.frames
  frame_there = omega (arith, sound.memory.same, page_there)

  pub backup_there : IfSome x.backup (λ n. n < length b.frames)
  backup_there = by_backup x.backup refl
    where
      by_backup : (o : Option ℕ) → x.backup ≡ o → IfSome o (λ n. n < length b.frames)
      by_backup None is = tt
      by_backup (Some backup) is = omega (arith, sound.memory.same, row_there b.pages backup (not_free backup (backup_own backup is)))

  pub owner_there : IsSome (owner_of (row_in b.pages x.page))
  owner_there = subst IsSome (sym (owner_is x.env (row_in b.pages x.page) may.owned)) refl

  -- First the copy,
  abbrev copied_board : Shown
  copied_board = record b { frames = frames_after_copy x.page x.backup b.frames }

  pub copy_size : length (frames_after_copy x.page x.backup b.frames) ≡ length b.frames
  copy_size = grind (arith, length-set)

  copied_sound : IsSoundBoard copied_board
  copied_sound = sound_frames (frames_after_copy x.page x.backup b.frames) copy_size sound

  -- the page, as its owner sees it
  page_is : bytes_of (solo_of b e) (Physical x.page) ≡ page_at b.frames x.page
  page_is = ap (λ o. bytes_of (solo_or_absent b e o) (Physical x.page)) lived.1.0 ∙ (let owned = may.owned in rw owned refl)

  page_seen_is : page_bytes (world_of b) x.page ≡ page_at b.frames x.page
  page_seen_is = grind (arith, eqb-true, page_is)

  copied_here : (o : Option ℕ) → x.backup ≡ o → solo_of (record b { frames = frames_after_copy x.page o b.frames }) e ≡ copied x.page o (solo_of b e)
  copied_here None is = refl
  copied_here (Some backup) is =
      copying.stored_here b sound e backup (backup_own backup is) its lived.1.0 lived.1.1 (page_at b.frames x.page)
      ∙ ap (λ bytes. with_store (page_store backup bytes) (solo_of b e)) (sym page_is)

  copied_else : (o : Option ℕ) → x.backup ≡ o → (i : ℕ) → i ≢ e → solo_of (record b { frames = frames_after_copy x.page o b.frames }) i ≡ absorb_all (solo_of b i) (copy_left (world_of b) x o i)
  copied_else None is i ne = refl
  copied_else (Some backup) is i ne =
      copying.stored_else b sound e backup (backup_own backup is) its lived.1.0 lived.1.1 (page_at b.frames x.page) i ne
      ∙ ap (λ bytes. absorb_all (solo_of b i) (calls.left_by (book_of b) e (page_store backup bytes) i)) (sym page_seen_is)

  -- then the record,
  abbrev recorded_board : Shown
  recorded_board = record copied_board { frames = taken_in x.page x.backup (context_of copied_board e) copied_board.frames }

  recorded_sound : IsSoundBoard recorded_board
  recorded_sound = sound_frames _ (written_size copied_board copied_sound e its lived.1.0 lived.1.1 x.page x.backup) copied_sound

  -- and then the page goes
  abbrev gone : Shown
  gone = after_taking b x

  gone_like : (i : ℕ) → solo_of gone i ≡ solo_of (with_freed recorded_board x.page) i
  gone_like i = like_solo i gone (with_freed recorded_board x.page) (search rules)

  gone_here : solo_of gone e ≡ absorb_all (solo_of b e) (Taken x.page x.backup ∷ [])
  gone_here =
      gone_like e
      ∙ freed_own recorded_board x.page page_there e its lived.1.0
      ∙ ap (lost x.page) (written_here copied_board copied_sound e its lived.1.0 lived.1.1 x.page x.backup ∙ ap (counted_taking x.page x.backup) (copied_here x.backup refl))
      ∙ ap (with_page_taken x.page x.backup) (live_shown b e its lived.1.0 lived.1.1)
      ∙ ap (λ s. absorb_all s (Taken x.page x.backup ∷ [])) (sym (live_shown b e its lived.1.0 lived.1.1))

  gone_else : (i : ℕ) → i ≢ e → solo_of gone i ≡ absorb_all (solo_of b i) (copy_left (world_of b) x x.backup i ++ lost_bindings (book_of b) x.page i)
  gone_else i ne =
      gone_like i
      ∙ freed_else recorded_board x.page page_there recorded_sound e may.owned i ne
      ∙ ap (λ s. absorb_all s (lost_bindings (book_of b) x.page i)) (written_else copied_board copied_sound e its lived.1.0 lived.1.1 x.page x.backup i ne ∙ copied_else x.backup refl i ne)
      ∙ sym (fold-append absorb (solo_of b i) (copy_left (world_of b) x x.backup i) (lost_bindings (book_of b) x.page i))

  pub taken_world : world_of gone ≡ after (world_of b) (takes x (world_of b))
  taken_world =
      worlds (world_of gone) (after (world_of b) (takes x (world_of b)))
      (λ k. record (freed_book b x.page page_there k) { backups = λ i. backups_set b.revocations e (drop 1 (backups_at b.revocations e)) its_place i k })
      refl
      (by_env (solo_of gone) (λ i. absorb_all (solo_of b i) ((takes x (world_of b)).items i)) e
      (gone_here ∙ ap (absorb_all (solo_of b e)) (sym (set_here e (Taken x.page x.backup ∷ []) (λ i. copy_left (world_of b) x x.backup i ++ lost_bindings (book_of b) x.page i))))
      (λ i ne. gone_else i ne ∙ ap (absorb_all (solo_of b i)) (sym (set_else e i (Taken x.page x.backup ∷ []) (λ i. copy_left (world_of b) x x.backup i ++ lost_bindings (book_of b) x.page i) ne))))
      refl

  pub taken_sound : IsSoundBoard gone
  taken_sound =
      sound_memory _ _ _ _ _ _
      (row_parted gone.frames b.pages b.roster.list x.page Free (owned_by_none e (row_in b.pages x.page) may.owned) recorded_sound.memory)
      (free_booked b.pages b.binds b.roster x.page page_there sound.books)
      (freed_claimed b.claims b.pages b.roster x.page page_there sound.claims)
      (taken_asked b.revocations b.pages e x.page (omega (arith, owner_live.0, sound.few)) page_there may.owned may.spared sound.revocations)
      (broken_rows gone.frames b.roster.list b.binds b.tlb.rows x.page None recorded_sound.rows)
      (sound_machine recorded_sound)

-- What is taken is taken one after another.
pub taken_books : (b : Shown) (x : Taking) → x.page < length b.pages → x.env < length b.revocations.backups → books_of (after_taking b x).pages (after_taking b x).revocations ≡ books_taken x (books_of b.pages b.revocations)
taken_books b x there place = search (rules, table_set, length-set, backups_set)

all_taken : (b : Shown) (xs : List Taking) → IsSoundBoard b → AreTakable (books_of b.pages b.revocations) b.time xs → (world_of (fold after_taking b xs) ≡ run_phases (world_of b) (map takes xs)) × IsSoundBoard (fold after_taking b xs)
all_taken b [] sound may = (refl, sound)
all_taken b (x ∷ xs) sound may =
    let there = page_there b sound x may.0 in
    let rest = all_taken (after_taking b x) xs (taken_sound b sound x may.0) (subst (λ books. AreTakable books b.time xs) (sym (taken_books b x there (its_place b sound x may.0))) may.1) in
    (rest.0 ∙ ap (λ w. run_phases w (map takes xs)) (taken_world b sound x may.0), rest.1)

-- the deadlines are over
pub over_world : (b : Shown) → world_of (with_deadlines_over b) ≡ after (world_of b) (settles (world_of b))
over_world b = search (rules, pending_served, like_solo, append-nil)

run_last : (w : World) (xs : List (World → Reply)) (phase : World → Reply) → run_phases w (xs ++ phase ∷ []) ≡ (let v = run_phases w xs in after v (phase v))
run_last w [] phase = refl
run_last w (x ∷ xs) phase = run_last (after w (x w)) xs phase

pub served_world : TakingsAreTakable → ServingShowsModel
served_world law b sound = search (rules, all_taken, over_world, run_last)

-- Where no deadline has come nothing is taken, and none is over.
not_due : (list : List (Option Pending)) (time e : ℕ) → list_any (is_due time) list ≡ false → is_due time (slice_index_or list e None) ≡ false
not_due list time e none = grind (arith, common_steps, or_parts)

none_taken : (books : Books) (time n : ℕ) → ((e : ℕ) → is_due time (books.pending e) ≡ false) → takings_below books time n ≡ []
none_taken books time zero none = refl
none_taken books time (suc e) none =
    (λ k. none_taken books time e none k ++ takings_of books time e)
    ∙ ap (λ t. if t then paired e (victims books e) (books.backups e) else []) (none e)

none_over : (list : List (Option Pending)) (time : ℕ) → list_any (is_due time) list ≡ false → map (unless_due time) list ≡ list
none_over [] time none = refl
none_over (pending ∷ list) time none =
    let both = or_parts (is_due time pending) (list_any (is_due time) list) none in
    λ k. ap (λ t. if t then None else pending) both.0 k ∷ none_over list time both.1 k

pub nothing_due : (b : Shown) → is_any_due b.revocations b.time ≡ false → b ≡ after_deadlines b
nothing_due b none = search (rules, none_taken, not_due, none_over)

-- What is left as it was, and how many rows are written.
pub record IsServed (b new : Shown) (rows : ℕ) : Type 0 where
  pub slots : new.slots ≡ b.slots
  pub time : new.time ≡ b.time
  pub numbers : new.claims.next ≡ b.claims.next
  pub whole : new.roster.spare ≡ b.roster.spare
  pub room : b.ledger.spare ≤ new.ledger.spare + rows

taken_leaves : (b : Shown) (xs : List Taking) → IsServed b (fold after_taking b xs) (length xs)
taken_leaves b [] = record { slots = refl; time = refl; numbers = refl; whole = refl; room = omega arith }
taken_leaves b (x ∷ xs) = search (rules, (taken_leaves (after_taking b x) xs))

pub served_leaves : TakingsAreFew → (b : Shown) → IsSoundBoard b → IsServed b (after_deadlines b) most_pages
served_leaves few b sound = search (rules, taken_leaves)

-- nothing more is taken than there are rows for
pub takings_few : TakingsAreFew → (b : Shown) → length (board_takings b) ≤ length b.pages
takings_few few b = omega (arith, few (books_of b.pages b.revocations) b.time (length b.roster.list))
