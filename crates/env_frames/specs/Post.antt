-- The post words of the context page, by which an environment learns of what comes from outside.
use Rattle.std.specs.Prelude.{ℕ, ◌+◌, ◌*◌, ◌^◌, ◌++◌, nat_lt, if◌then◌else◌, unwrap_or, List, Option, Some, None, bit_or}
use Rattle.frame_store.specs.Pages.{after_put, page_at, word_at, word_bytes}
use Rattle.mips_exec.specs.Word.{low_word}
use Rattle.env_frames.specs.declared.post.PostWord.{PostWord}
use Rattle.env_frames.specs.declared.post.PostWord.TheVariants as post

-- where each stands in the context page
abbrev pub post_offset : PostWord → ℕ
post_offset post.Packets = 0x140
post_offset post.Lost = 0x144
post_offset post.Lines = 0x148
post_offset post.Outstanding = 0x14C
post_offset post.Deadline = 0x150
post_offset post.Takings = 0x17C

-- a post word of a context page
abbrev pub post_at : List (List ℕ) → ℕ → PostWord → ℕ
post_at frames page word = word_at (page_at frames page) (post_offset word)

-- physical memory with another value in a post word of a context page
abbrev pub posted : List (List ℕ) → ℕ → PostWord → ℕ → List (List ℕ)
posted frames page word value = after_put frames page (post_offset word) (word_bytes value)

-- a post word counts up, and wraps at 2 ^ 32
abbrev pub counted_in : PostWord → Option ℕ → List (List ℕ) → List (List ℕ)
counted_in word None frames = frames
counted_in word (Some page) frames = posted frames page word (low_word (post_at frames page word + 1))

-- a signal on an interrupt line sets the line's bit
abbrev pub signalled_in : ℕ → Option ℕ → List (List ℕ) → List (List ℕ)
signalled_in line None frames = frames
signalled_in line (Some page) frames =
    posted frames page post.Lines (bit_or (post_at frames page post.Lines) (2 ^ line))

-- who is asked for pages is told how many are outstanding, and until when
abbrev pub asked_in : ℕ → ℕ → Option ℕ → List (List ℕ) → List (List ℕ)
asked_in outstanding deadline None frames = frames
asked_in outstanding deadline (Some page) frames =
    posted (posted frames page post.Outstanding outstanding) page post.Deadline deadline

-- The repossession vector: records of the pages that were taken, two words each, as many as there is room for.
abbrev pub most_records : ℕ
most_records = 64

-- what stands in place of a backup where there was none
abbrev pub no_backup : ℕ
no_backup = 0xFFFFFFFF

abbrev pub record_offset : ℕ → ℕ
record_offset n = 0x180 + 8 * n

-- a page that was taken, and the backup that got a copy of it
abbrev pub record_bytes : ℕ → Option ℕ → List ℕ
record_bytes page backup = word_bytes page ++ word_bytes (unwrap_or backup no_backup)

-- the record of this number, if there is room for it
abbrev pub recorded_in : ℕ → ℕ → Option ℕ → ℕ → List (List ℕ) → List (List ℕ)
recorded_in n taken backup page frames =
    if nat_lt n most_records then after_put frames page (record_offset n) (record_bytes taken backup) else frames

-- a page that was taken is recorded, and counted
abbrev pub taken_in : ℕ → Option ℕ → Option ℕ → List (List ℕ) → List (List ℕ)
taken_in taken backup None frames = frames
taken_in taken backup (Some page) frames =
    counted_in post.Takings (Some page) (recorded_in (post_at frames page post.Takings) taken backup page frames)
