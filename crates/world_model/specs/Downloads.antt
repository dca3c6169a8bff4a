-- The call that downloads a handler: code that the kernel runs over the packets of a claim.
use Rattle.std.specs.Prelude.{◌≡◌, ℕ, ◌*◌, ◌==◌, nat_lt, List, [], ◌∷◌, if◌then◌else◌, is_some, Option, Some, None, Result, Ok, Err, true}
use Rattle.mips_exec.specs.Cpu.{reg}
use Rattle.handler_rules.specs.declared.outcome.HandlerFault.{HandlerFault}
use Rattle.handler_rules.specs.Verification.{most_words, verified, word_size, words_in}
use Rattle.world_model.specs.declared.code.Code.TheVariants as code
use Rattle.world_model.specs.declared.verdict.HandlerNo.{HandlerNo}
use Rattle.world_model.specs.declared.verdict.HandlerNo.TheVariants as no
use Rattle.world_model.specs.declared.verdict.Verdict.{Verdict}
use Rattle.world_model.specs.declared.verdict.Verdict.TheVariants.{Refuse, Grant}
use Rattle.world_model.specs.Call.{good_range}
use Rattle.world_model.specs.Page.{Mapped}
use Rattle.world_model.specs.Rings.{ring_of, with_ring_handler}
use Rattle.world_model.specs.Solo.{Solo, sight}

-- the words, unless one is bad
abbrev pub words_or_no : Result (List ℕ) HandlerFault → Result (List ℕ) HandlerNo
words_or_no (Ok words) = Ok words
words_or_no (Err fault) = Err (no.BadWord fault.at)

-- the handler that bytes spell, where their range is good
abbrev pub handler_in : Option (List ℕ) → Result (List ℕ) HandlerNo
handler_in None = Err no.BadPointer
handler_in (Some bytes) = words_or_no (verified (words_in bytes))

-- Handler: the words that are named, of which none need no range.
abbrev pub handler_bytes : (ℕ → Option Mapped) → ℕ → ℕ → Option (List ℕ)
handler_bytes look address words = if words == 0 then Some [] else good_range look address (words * word_size)

-- the handler that is named, of at most 64 words that stand in the caller's memory
abbrev pub handler_at : (ℕ → Option Mapped) → ℕ → ℕ → Result (List ℕ) HandlerNo
handler_at look address words =
    if nat_lt most_words words then Err (no.BadWord most_words) else handler_in (handler_bytes look address words)

-- for a bad word the value is its number
abbrev pub download_verdict : Result (List ℕ) HandlerNo → Verdict
download_verdict (Ok words) = Grant 0
download_verdict (Err no.BadPointer) = Refuse code.BadPointer 0
download_verdict (Err (no.BadWord at)) = Refuse code.BadHandler at

-- It is for a claim of the caller's own.
abbrev pub download : Solo → Verdict
download s =
    if is_some (ring_of s.rings (reg s.cpu 4)) then download_verdict (handler_at (sight s) (reg s.cpu 5) (reg s.cpu 6))
    else Refuse code.NoFilter 0

-- no words are no handler, nor is one that is refused; where a download is granted it isn't
abbrev pub handler_of_words : List ℕ → Option (List ℕ)
handler_of_words [] = None
handler_of_words (word ∷ words) = Some (word ∷ words)

abbrev pub handler_or_none : Result (List ℕ) HandlerNo → Option (List ℕ)
handler_or_none (Ok words) = handler_of_words words
handler_or_none (Err why) = None

-- the caller's claim has the handler that is named from now on, in place of the one that it has
abbrev pub after_download : ℕ → ℕ → ℕ → Solo → Solo
after_download claim address words s = with_ring_handler claim (handler_or_none (handler_at (sight s) address words)) s

-- the claim is the caller's, and a handler is named, of no word or of words of which none is bad
pub record MayDownload (s : Solo) (claim address words : ℕ) : Type 0 where
  pub own : is_some (ring_of s.rings claim) ≡ true
  pub handler : List ℕ
  pub named : handler_at (sight s) address words ≡ Ok handler
