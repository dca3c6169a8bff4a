-- What the kernel leaves in the context page of an environment from outside: bytes at a place, and a post word that is changed.
use Rattle.std.proofs.Common.{◌≡◌, ◌≢◌, ℕ, ◌+◌, ◌/◌, ◌%◌, List, length, Option, Some, None, sym, ◌∙◌, ap, length-set, rules}
use Rattle.std.specs.Prelude.{slice_get}
use Rattle.std.specs.Option.{option_map}
use Rattle.aegis_limits.specs.Limits.{page_size}
use Rattle.frame_store.specs.Pages.{word_at, word_bytes}
use Rattle.mips_exec.specs.Access.{Write}
use Rattle.env_frames.specs.declared.mapping.Mapping.{Mapping}
use Rattle.env_frames.specs.declared.post.PostWord.{PostWord}
use Rattle.env_frames.specs.Context.{context_number}
use Rattle.env_frames.specs.Frame.{left_in, mapping_at, page_of}
use Rattle.env_frames.specs.Post.{post_at, post_offset, posted}
use Rattle.world_model.specs.declared.life.Life.TheVariants.{Live}
use Rattle.world_model.specs.Post.{post_word, with_post}
use Rattle.world_model.specs.Solo.{Solo, bytes_in, kept_after, kept_at}
use Rattle.world_model.specs.Upcalls.{with_context}
use Rattle.board_model.specs.declared.roster.Environment.{Environment}
use Rattle.board_model.specs.Shown.{Shown, mappings_in, mappings_of}
use Rattle.board_model.specs.Showing.{page_seen, pages_seen, solo_of, solo_or_absent, solo_seen}
use Rattle.board_model.specs.Sound.{IsSoundBoard}
use Rattle.board_model.specs.Doing.{context_of}
use Rattle.board_model.proofs.Contexts.{left_by, left_others, left_own, left_sights, left_store}
use Rattle.board_model.proofs.Pages.{seen_kept}
use Rattle.board_model.proofs.Seen.{like_solo, live_shown}

-- physical memory with a post word of a context page changed
abbrev pub changed_in : PostWord → (ℕ → ℕ) → Option ℕ → List (List ℕ) → List (List ℕ)
changed_in word f None frames = frames
changed_in word f (Some page) frames = posted frames page word (f (post_at frames page word))

-- the board with a post word of an environment's changed, and the environment
abbrev pub with_word : Shown → ℕ → PostWord → (ℕ → ℕ) → Shown
with_word b e word f = record b { frames = changed_in word f (context_of b e) b.frames }

abbrev pub worded : PostWord → (ℕ → ℕ) → Solo → Solo
worded word f s = with_post word (f (post_word word s)) s

-- as many pages are left
pub same_size : (word : PostWord) (f : ℕ → ℕ) (page : Option ℕ) (frames : List (List ℕ)) → length (changed_in word f page frames) ≡ length frames
same_size word f page frames = search (rules, length-set)

-- the bytes of an environment's context page
abbrev pub context_bytes : Shown → ℕ → List ℕ
context_bytes b e = bytes_in (option_map (page_seen b.frames) (mapping_at (mappings_of b.roster.list e) context_number))

-- the board with bytes left at a place of an environment's context page, by the bytes of the page
abbrev pub with_left : Shown → ℕ → ℕ → (List ℕ → List ℕ) → Shown
with_left b e place leave = record b { frames = left_in place (leave (context_bytes b e)) (context_of b e) b.frames }

-- the environment with these bytes there
abbrev pub left_with : ℕ → (List ℕ → List ℕ) → Solo → Solo
left_with place leave s = with_context place (leave (bytes_in (kept_at s.kept context_number))) s

module _ (b : Shown) (sound : IsSoundBoard b) (e : ℕ) (x : Environment) (at : slice_get b.roster.list e ≡ Some x) (lives : x.life ≡ Live) (place : ℕ) (leave : List ℕ → List ℕ)
    (number : (page_size + place) / page_size ≡ context_number) (same_place : (page_size + place) % page_size ≡ place) where
  abbrev owner : Solo
  owner = record (solo_seen b e x) { life = Live }

  its_maps : mappings_of b.roster.list e ≡ x.env.mappings
  its_maps = ap mappings_in at

  abbrev write : Write
  write = record { address = page_size + place; bytes = leave (bytes_in (kept_at (pages_seen b.frames x.env.mappings) context_number)) }

  abbrev now : Shown
  now = record b { frames = left_by b e write }

  page_bytes : context_bytes b e ≡ bytes_in (kept_at (pages_seen b.frames x.env.mappings) context_number)
  page_bytes = search (rules, seen_kept, its_maps)

  its_pages : pages_seen now.frames x.env.mappings ≡ kept_after (pages_seen b.frames x.env.mappings) (left_store write)
  its_pages =
      ap (pages_seen (left_by b e write)) (sym its_maps)
      ∙ left_own b sound e write number
      ∙ ap (λ ms. kept_after (pages_seen b.frames ms) (left_store write)) its_maps

  -- the same bytes, as they are written
  written : with_left b e place leave ≡ now
  written = λ k. record b { frames = left_in (sym same_place k) (leave (page_bytes k)) (page_of (mappings_of b.roster.list e) context_number) b.frames }

  pub left_here : solo_of (with_left b e place leave) e ≡ left_with place leave (solo_of b e)
  left_here =
      ap (λ y. solo_of y e) written
      ∙ ap (solo_or_absent now e) at
      ∙ (λ k. record (solo_seen b e x) { life = lives k; kept = its_pages k; seen = λ p. left_sights b sound e write number e p k })
      ∙ (λ k. with_context (same_place k) write.bytes owner)
      ∙ ap (left_with place leave) (sym (live_shown b e x at lives))

  pub left_else : (i : ℕ) → i ≢ e → solo_of (with_left b e place leave) i ≡ solo_of b i
  left_else i ne =
      ap (λ y. solo_of y i) written
      ∙ like_solo i now b (search (rules, (left_others b sound e write number i ne), (left_sights b sound e write number i)))

-- A post word lies within the page.
post_number : (word : PostWord) → (page_size + post_offset word) / page_size ≡ context_number
post_number word = search rules

post_place : (word : PostWord) → (page_size + post_offset word) % page_size ≡ post_offset word
post_place word = search rules

-- how it is changed
abbrev new_word : PostWord → (ℕ → ℕ) → List ℕ → List ℕ
new_word word f page = word_bytes (f (word_at page (post_offset word)))

changed_left : (word : PostWord) (f : ℕ → ℕ) (frames : List (List ℕ)) (m : Option Mapping) →
    changed_in word f (option_map (λ (m : Mapping). m.page) m) frames ≡ left_in (post_offset word) (new_word word f (bytes_in (option_map (page_seen frames) m))) (option_map (λ (m : Mapping). m.page) m) frames
changed_left word f frames m = search rules

module _ (b : Shown) (sound : IsSoundBoard b) (e : ℕ) (x : Environment) (at : slice_get b.roster.list e ≡ Some x) (lives : x.life ≡ Live) (f : ℕ → ℕ) where
  board_is : (word : PostWord) → with_word b e word f ≡ with_left b e (post_offset word) (new_word word f)
  board_is word = λ k. record b { frames = changed_left word f b.frames (mapping_at (mappings_of b.roster.list e) context_number) k }

  pub worded_seen : (word : PostWord) → solo_of (with_word b e word f) e ≡ worded word f (solo_of b e)
  worded_seen word = ap (λ y. solo_of y e) (board_is word) ∙ left_here b sound e x at lives (post_offset word) (new_word word f) (post_number word) (post_place word)

  pub worded_others : (word : PostWord) (i : ℕ) → i ≢ e → solo_of (with_word b e word f) i ≡ solo_of b i
  worded_others word i ne = ap (λ y. solo_of y i) (board_is word) ∙ left_else b sound e x at lives (post_offset word) (new_word word f) (post_number word) (post_place word) i ne
