-- From the clauses of the top call to what holds in memory.
use Rattle.std.proofs.Common.{◌≡◌, ◌≢◌, ◌<◌, ◌≤◌, ℕ, zero, suc, ◌+◌, List, [], ◌∷◌, ◌++◌, Option, Some, IfSome, length, take, inl, inr, refl, sym, ◌∙◌, ap, subst, arith}
use Rattle.std.specs.Prelude.{◌⊎◌, IsSomeAnd, slice_get, true}
use Rattle.std.specs.List.{AllByRecursion}
use Rattle.std.proofs.lemmas.Bool.{cases_lt}
use Rattle.edge_io.specs.Limits.{file_limit}
use Rattle.std.specs.Io.KnownBytes.{Appends}
use Rattle.memory_runs.specs.Files.{IsSureOf, file_named, is_set_to_fail}
use Rattle.memory_runs.specs.Room.{HasRoomFor}
use Rattle.memory_runs.specs.declared.shelf.MemoryShelf.{MemoryShelf}
use Rattle.memory_runs.specs.declared.sink.MemorySink.{MemorySink}
use Rattle.commands.specs.declared.status.Status.{Status}
use Rattle.commands.specs.declared.status.Status.TheVariants as status
use Rattle.commands.specs.Command.{CommandValue, names_of}
use Rattle.commands.specs.Due.{Due, status_of, due_text}
use Rattle.commands.specs.Edges.{ShelfEdge, SinkEdge}
use Rattle.commands.specs.Files.{AreRead, AreTold, IsServed, names_so_far, next_name}
use Rattle.commands.specs.Outcome.{IsOutcome, Outcome, Wrote}
use Rattle.aegis_command.specs.Headline.{IsDenied, IsGiven, TakesAll, IsWanting, IsWritten}
use Rattle.aegis_command.proofs.Completeness.{told_due}
use Rattle.memory_runs.specs.InMemory.{IsRefusedInMemory, IsSureInMemory, IsWithinLimit, IsWantingInMemory as IsWantingInMemory, IsWrittenInMemory as IsWrittenInMemory}

-- A shelf that has a command's files is sure to serve them.

sure_of : (shelf : MemoryShelf) (name bytes : List ℕ) → shelf.fails.items ≡ [] → file_named shelf.files.items name ≡ Some bytes → length bytes ≤ file_limit → IsSureOf shelf name
sure_of shelf name bytes calm is short = (calm, subst (λ (o : Option (List ℕ)). IsSomeAnd o (λ (b : List ℕ). length b ≤ file_limit)) (sym is) short)

-- each name of files that are there
sure_at : (shelf : MemoryShelf) (names contents : List (List ℕ)) (i : ℕ) → shelf.fails.items ≡ [] → AreRead (Some (file_named shelf.files.items)) names contents → AllByRecursion IsWithinLimit contents
    → IfSome (slice_get names i) (IsSureOf shelf)
sure_at shelf [] contents i calm told short = tt
sure_at shelf (n ∷ names) [] i calm told short = absurd told
sure_at shelf (n ∷ names) (b ∷ contents) zero calm told short = sure_of shelf n b calm told.0 short.0
sure_at shelf (n ∷ names) (b ∷ contents) (suc i) calm told short = sure_at shelf names contents i calm told.1 short.1

-- a name among the first is the same, whatever names follow
at_first : (names a b : List (List ℕ)) (i : ℕ) → i < length names → slice_get (names ++ a) i ≡ slice_get (names ++ b) i
at_first [] a b i within = absurd (omega arith)
at_first (n ∷ names) a b zero within = refl
at_first (n ∷ names) a b (suc i) within = at_first names a b i (omega (arith, within))

-- the first of what was read, and the first of what is told, are the same
taken_first : (files : List ℕ → Option (List ℕ)) (names a b xs ys : List (List ℕ)) → length names ≤ length xs → AreRead (Some files) (take (length xs) (names ++ a)) xs → AreRead (Some files) (names ++ b) ys
    → take (length names) xs ≡ take (length names) ys
taken_first files [] a b xs ys within p q = refl
taken_first files (n ∷ names) a b [] ys within p q = absurd (omega arith)
taken_first files (n ∷ names) a b (x ∷ xs) [] within p q = absurd q
taken_first files (n ∷ names) a b (x ∷ xs) (y ∷ ys) within p q =
    let heads : Some x ≡ Some y = sym p.0 ∙ q.0 in
    let tails = taken_first files names a b xs ys (omega (arith, within)) p.1 q.1 in
    cc

-- the next name after some that were read is that of the told contents
pub served : (c : CommandValue) (shelf : MemoryShelf) (s : ShelfEdge) (contents : List (List ℕ)) → s.told ≡ Some (file_named shelf.files.items) → s.Serves ≡ IsSureOf shelf → shelf.fails.items ≡ []
    → AreRead (Some (file_named shelf.files.items)) (names_of c contents) contents → AllByRecursion IsWithinLimit contents → IsServed (names_of c) s
served c shelf s contents is_told is_sure calm told short = λ read are.
    let files = file_named shelf.files.items in
    let first : AreRead (Some files) (names_so_far (names_of c) read) read = subst (λ (t : Option (List ℕ → Option (List ℕ))). AreRead t (names_so_far (names_of c) read) read) is_told are in
    let all : IfSome (slice_get (names_of c contents) (length read)) (IsSureOf shelf) = sure_at shelf (names_of c contents) contents (length read) calm told short in
    let a = c.further (take (length c.names) read) in
    let b = c.further (take (length c.names) contents) in
    let same : slice_get (c.names ++ b) (length read) ≡ slice_get (c.names ++ a) (length read)
    = elim (cases_lt (length read) (length c.names)) as (λ w. slice_get (c.names ++ b) (length read) ≡ slice_get (c.names ++ a) (length read)) [
      | inl within ↦ at_first c.names b a (length read) within
      | inr beyond ↦ ap (λ (zs : List (List ℕ)). slice_get (c.names ++ c.further zs) (length read)) (sym (taken_first files c.names a b read contents beyond first told))
    ] in
    subst (λ (P : List ℕ → Type 0). IfSome (next_name (names_of c) read) P) (sym is_sure) (subst (λ (o : Option (List ℕ)). IfSome o (IsSureOf shelf)) same all)

-- what was written whole is what is due
written : (c : CommandValue) (s : ShelfEdge) (k : SinkEdge) (result : Status) (contents : List (List ℕ)) (due : Due) → AreTold s.told (names_of c contents) contents → c.due contents ≡ Some due → Wrote c s k result
    → IsWritten (status_of due) (due_text due) k result ⊎ IsWanting k result
written c s k result contents due told is w =
    let decided = told_due c s w.0 contents told in
    let one : w.0.due ≡ due = cc in
    inl (sym w.1 ∙ ap status_of one, subst (λ (d : Due). Appends k.written_before k.written_after (due_text d)) one w.2.appended)

-- what is due was written, or memory was wanting, where neither fault can be
pub ends_sure : (c : CommandValue) (s : ShelfEdge) (k : SinkEdge) (result : Status) (contents : List (List ℕ)) (due : Due) → Outcome c s k result → AreTold s.told (names_of c contents) contents → c.due contents ≡ Some due
    → result ≢ status.ReadFault → result ≢ status.WriteFault → IsWritten (status_of due) (due_text due) k result ⊎ IsWanting k result
ends_sure c s k status.Done contents due w told is no_read no_write = written c s k status.Done contents due told is w
ends_sure c s k status.Found contents due w told is no_read no_write = written c s k status.Found contents due told is w
ends_sure c s k status.Usage contents due w told is no_read no_write = absurd w
ends_sure c s k status.Refused contents due w told is no_read no_write = written c s k status.Refused contents due told is w
ends_sure c s k status.ReadFault contents due w told is no_read no_write = absurd (no_read refl)
ends_sure c s k status.WriteFault contents due w told is no_read no_write = absurd (no_write refl)
ends_sure c s k status.OutOfMemory contents due w told is no_read no_write = inr (refl, w.1.nothing)

-- what is said of an option of words, where they are a command
of_words : (P : CommandValue → Type 0) (words : Option CommandValue) (c : CommandValue) → words ≡ Some c → IfSome words P → P c
of_words P words c is holds = subst (λ (o : Option CommandValue). IfSome o P) is holds

-- what the edge of the sink says of what was written, of the bytes in memory
in_memory : (k : SinkEdge) (before after : MemorySink) (result intended : Status) (text : List ℕ) → k.written_before ≡ Some before.bytes.items → k.written_after ≡ Some after.bytes.items
    → IsWritten intended text k result ⊎ IsWanting k result → IsWrittenInMemory intended text before after result ⊎ IsWantingInMemory before after result
in_memory k before after result intended text was is (inl w) =
    let from_before = subst (λ (o : Option (List ℕ)). Appends o k.written_after text) was w.1 in
    inl (w.0, subst (λ (o : Option (List ℕ)). Appends (Some before.bytes.items) o text) is from_before)
in_memory k before after result intended text was is (inr w) =
    let same : Some after.bytes.items ≡ Some before.bytes.items = sym is ∙ w.1 ∙ was in
    inr (w.0, cc)

-- Where the files are there and there is room, what is due is written.
pub sure : (words : Option CommandValue) (s : ShelfEdge) (k : SinkEdge) (shelf : MemoryShelf) (before after : MemorySink) (result : Status) → s.told ≡ Some (file_named shelf.files.items) → s.Serves ≡ IsSureOf shelf → k.Takes ≡ HasRoomFor before
    → k.written_before ≡ Some before.bytes.items → k.written_after ≡ Some after.bytes.items → IsOutcome words s k result → IsGiven words s result → TakesAll words s k result → IsSureInMemory words shelf before after result
sure words s k shelf before after result is_told is_sure takes was is outcome given taken = λ c contents due named calm there is_due room.
    let told : AreTold s.told (names_of c contents) contents = subst (λ (t : Option (List ℕ → Option (List ℕ))). AreTold t (names_of c contents) contents) (sym is_told) there.told in
    let all = served c shelf s contents is_told is_sure calm there.told there.short in
    let no_read = of_words (λ d. IsServed (names_of d) s → result ≢ status.ReadFault) words c named given all in
    let takes_all : k.Takes (length (due_text due)) = subst (λ (P : ℕ → Type 0). P (length (due_text due))) (sym takes) room in
    let no_write = subst (λ (o : Option CommandValue). TakesAll o s k result) named taken contents due told is_due takes_all in
    in_memory k before after result (status_of due) (due_text due) was is (ends_sure c s k result contents due (of_words (λ d. Outcome d s k result) words c named outcome) told is_due no_read no_write)

-- a call that ends by a fault of reading, or for want of memory, wrote nothing
unwritten : (c : CommandValue) (s : ShelfEdge) (k : SinkEdge) (result : Status) → Outcome c s k result → (result ≡ status.ReadFault) ⊎ (result ≡ status.OutOfMemory) → k.written_after ≡ k.written_before
unwritten c s k result outcome (inl is) = let w : Outcome c s k status.ReadFault = subst (Outcome c s k) is outcome in w.1.nothing
unwritten c s k result outcome (inr is) = let w : Outcome c s k status.OutOfMemory = subst (Outcome c s k) is outcome in w.1.nothing

-- Where the first read is set to fail, nothing is written.
pub refused : (words : Option CommandValue) (s : ShelfEdge) (k : SinkEdge) (shelf : MemoryShelf) (before after : MemorySink) (result : Status) → (is_set_to_fail shelf ≡ true → s.Refuses)
    → k.written_before ≡ Some before.bytes.items → k.written_after ≡ Some after.bytes.items → IsOutcome words s k result → IsDenied words s result → IsRefusedInMemory words shelf before after result
refused words s k shelf before after result refuses was is outcome denied = λ c named some set.
    let ended = of_words (λ d. s.Refuses → 1 ≤ length d.names → (result ≡ status.ReadFault) ⊎ (result ≡ status.OutOfMemory)) words c named denied (refuses set) some in
    let nothing = unwritten c s k result (of_words (λ d. Outcome d s k result) words c named outcome) ended in
    (ended, (let same : Some after.bytes.items ≡ Some before.bytes.items = sym is ∙ nothing ∙ was in cc))
