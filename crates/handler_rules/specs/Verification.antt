-- Which words are bad in a handler. Words are numbered from 0, and a branch's target is counted in words.
use Rattle.std.specs.Prelude.{ℕ, zero, suc, ◌+◌, ◌-◌, ◌/◌, ◌^◌, Bool, false, not, ◌&&◌, ◌||◌, ◌==◌, nat_lt, if◌then◌else◌, List, [], ◌∷◌, length, slice_index, Option, Some, None, Result, Ok, Err}
use Rattle.std.specs.Option.{option_or}
use Rattle.byte_numbers.specs.Numbers.{word_at}
use Rattle.mips_isa.specs.declared.insn.Insn.{Insn}
use Rattle.mips_isa.specs.Encoding.{insn_of}
use Rattle.handler_rules.specs.declared.outcome.HandlerFault.{HandlerFault}
use Rattle.handler_rules.specs.Instructions.{branch_offset, is_allowed, is_barred_from_slots, branches}

-- how many words the longest handler has
abbrev pub most_words : ℕ
most_words = 64

-- the instruction that word i spells
abbrev pub insn_at : List ℕ → ℕ → Insn
insn_at words i = insn_of (slice_index words i)

-- the word before word i is a branch
abbrev pub follows_branch : List ℕ → ℕ → Bool
follows_branch words zero = false
follows_branch words (suc i) = branches (insn_at words i)

-- the target of a branch that is word i: its offset, with its sign, from the word behind it on (0 where that lies
-- before the first word)
abbrev pub target_word : ℕ → ℕ → ℕ
target_word i offset = if nat_lt offset (2 ^ 15) then i + 1 + offset else i + 1 - (2 ^ 16 - offset)

-- A branch is bad as the last word, with a target below i + 2, and with a target above the number of words.
abbrev pub is_bad_branch : List ℕ → ℕ → Option ℕ → Bool
is_bad_branch words i None = false
is_bad_branch words i (Some offset) =
    i + 1 == length words
    || nat_lt (target_word i offset) (i + 2)
    || nat_lt (length words) (target_word i offset)

-- Word i is bad if it isn't allowed, if it may not stand behind a branch and does, and as a bad branch.
unfoldable pub is_bad_word : List ℕ → ℕ → Bool
is_bad_word words i =
    not (is_allowed (insn_at words i))
    || (is_barred_from_slots (insn_at words i) && follows_branch words i)
    || is_bad_branch words i (branch_offset (insn_at words i))

-- word i, if it is bad
abbrev pub if_bad : List ℕ → ℕ → Option ℕ
if_bad words i = if is_bad_word words i then Some i else None

-- the first bad word of those below a number
abbrev pub first_bad_below : List ℕ → ℕ → Option ℕ
first_bad_below words zero = None
first_bad_below words (suc i) = option_or (first_bad_below words i) (if_bad words i)

-- the first bad word, and 64 of more words than a handler may have
abbrev pub first_bad : List ℕ → Option ℕ
first_bad words = if nat_lt most_words (length words) then Some most_words else first_bad_below words (length words)

-- words without a bad one are a handler
abbrev pub unless_bad : List ℕ → Option ℕ → Result (List ℕ) HandlerFault
unless_bad words None = Ok words
unless_bad words (Some i) = Err (record { at = i })

abbrev pub verified : List ℕ → Result (List ℕ) HandlerFault
verified words = unless_bad words (first_bad words)

-- the bytes of a word
abbrev pub word_size : ℕ
word_size = 4

-- so many words that stand in bytes from a place on
abbrev pub words_from : List ℕ → ℕ → ℕ → List ℕ
words_from bytes place zero = []
words_from bytes place (suc n) = word_at bytes place ∷ words_from bytes (place + word_size) n

-- the words that bytes spell, four each, the lowest byte first
abbrev pub words_in : List ℕ → List ℕ
words_in bytes = words_from bytes 0 (length bytes / word_size)
