-- The post words of an environment's context page, by which it learns of what comes from outside.
use Rattle.std.specs.Prelude.{ℕ, ◌+◌, ◌^◌, bit_or}
use Rattle.mips_exec.specs.Word.{low_word}
use Rattle.frame_store.specs.Pages.{word_at, word_bytes}
use Rattle.env_frames.specs.declared.post.PostWord.{PostWord}
use Rattle.env_frames.specs.declared.post.PostWord.TheVariants as post
use Rattle.env_frames.specs.Context.{context_number}
use Rattle.env_frames.specs.Post.{post_offset}
use Rattle.world_model.specs.Solo.{Solo, Kept, bytes_of}
use Rattle.world_model.specs.Upcalls.{with_context}

-- a post word as it stands
abbrev pub post_word : PostWord → Solo → ℕ
post_word word s = word_at (bytes_of s (Kept context_number)) (post_offset word)

-- the environment with another value in a post word
abbrev pub with_post : PostWord → ℕ → Solo → Solo
with_post word value s = with_context (post_offset word) (word_bytes value) s

-- a post word counts up, and wraps at 2 ^ 32
abbrev pub counted : PostWord → Solo → Solo
counted word s = with_post word (low_word (post_word word s + 1)) s

-- A signal on an interrupt line sets the line's bit.
abbrev pub signalled : ℕ → Solo → Solo
signalled line s = with_post post.Lines (bit_or (post_word post.Lines s) (2 ^ line)) s

-- An environment that is asked for pages is told how many are outstanding, and until when.
abbrev pub asked_for : ℕ → ℕ → Solo → Solo
asked_for outstanding deadline s = with_post post.Deadline deadline (with_post post.Outstanding outstanding s)
