-- What holds of the words of handlers, and of their runs.
use Rattle.std.specs.Prelude.{◌≡◌, ◌<◌, ◌≤◌, ℕ, ◌+◌, ◌&&◌, nat_le, Bool, true, false, Option, None, Some, List, length}
use Rattle.std.specs.List.{list_all}
use Rattle.aegis_limits.specs.Limits.{page_size}
use Rattle.external_event.specs.Limits.{least_frame_size, most_packet_size}
use Rattle.handler_rules.specs.Verification.{first_bad, is_bad_word, most_words}
use Rattle.handler_rules.specs.Running.{HandlerRun, entry_state, handler_run, most_replies, run_on}

-- no word below this number is bad
abbrev pub AreGood : List ℕ → ℕ → Type 0
AreGood words count = (i : ℕ) → i < count → is_bad_word words i ≡ false

-- the word is bad, and none before it is
pub record IsFirst (words : List ℕ) (at : ℕ) : Type 0 where
  pub within : at < length words
  pub bad : is_bad_word words at ≡ true
  pub first : AreGood words at

-- what the first bad word is, without a search; there is none where no word is bad
abbrev pub IsFirstBad : List ℕ → Option ℕ → Type 0
IsFirstBad words None = AreGood words (length words)
IsFirstBad words (Some at) = IsFirst words at

-- of words that aren't too many the first bad one is the first that is bad
abbrev pub FirstBadIsFirst : Type 0
FirstBadIsFirst = (words : List ℕ) → length words ≤ most_words → IsFirstBad words (first_bad words)

-- A verified handler ends in as many instructions as it has words: however many more it is given, its run is the same.
abbrev pub HandlersEnd : Type 0
HandlersEnd = (words packet page : List ℕ) (id more : ℕ) → first_bad words ≡ None
    → run_on (length words + more) words packet (entry_state packet id page) ≡ handler_run words packet id page

-- the bytes of a frame, 14 to 1,514
abbrev pub is_frame : List ℕ → Bool
is_frame bytes = nat_le least_frame_size (length bytes) && nat_le (length bytes) most_packet_size

-- the ring page keeps its size, and there are at most four replies, each a frame
pub record IsWithinLimits (page : List ℕ) (run : HandlerRun) : Type 0 where
  pub size : length run.page ≡ length page
  pub count : length run.replies ≤ most_replies
  pub frames : list_all is_frame run.replies ≡ true

-- each run of a handler, verified or not, keeps within these limits
abbrev pub RunsKeepLimits : Type 0
RunsKeepLimits =
    (words packet page : List ℕ) (id : ℕ) → length page ≡ page_size
    → IsWithinLimits page (handler_run words packet id page)
