-- A page that is taken from an environment: the copy, the record, and the loss.
use Rattle.std.specs.Prelude.{ℕ, nat_lt, if◌then◌else◌, Option, Some, None}
use Rattle.env_frames.specs.declared.post.PostWord.TheVariants as post
use Rattle.env_frames.specs.Post.{most_records, record_bytes, record_offset}
use Rattle.world_model.specs.Holding.{lost}
use Rattle.world_model.specs.Post.{counted, post_word}
use Rattle.world_model.specs.Rings.{page_store}
use Rattle.world_model.specs.Solo.{Solo, Physical, bytes_of, with_store}
use Rattle.world_model.specs.Upcalls.{with_context}

-- a backup gets a copy of the page
abbrev pub copied : ℕ → Option ℕ → Solo → Solo
copied page None s = s
copied page (Some backup) s = with_store (page_store backup (bytes_of s (Physical page))) s

-- the page and the backup are recorded in the context page, as the record of this number, if there is room for it
abbrev pub recorded : ℕ → ℕ → Option ℕ → Solo → Solo
recorded n page backup s =
    if nat_lt n most_records then with_context (record_offset n) (record_bytes page backup) s else s

-- one record more
abbrev pub counted_taking : ℕ → Option ℕ → Solo → Solo
counted_taking page backup s = counted post.Takings (recorded (post_word post.Takings s) page backup s)

-- A page that is taken is copied to the backup, if there is one, recorded, and then lost.
abbrev pub with_page_taken : ℕ → Option ℕ → Solo → Solo
with_page_taken page backup s = lost page (counted_taking page backup (copied page backup s))
