-- From what holds by the status to what is written where no fault is met.
use Rattle.std.proofs.Common.{◌≡◌, ◌≢◌, length, ℕ, List, [], ◌∷◌, ◌++◌, Option, Some, None, ◌⊎◌, inl, inr, sym, ◌∙◌, ap, refl, subst, take, IfSome, arith}
use Rattle.std.specs.Prelude.{codes, slice_get, zero, suc}
use Rattle.line_text.specs.declared.failure.LineFault.{LineFault}
use Rattle.boot_image.specs.declared.fault.ImageFault.{ImageFault}
use Rattle.boot_image.specs.Names.{image_why_text}
use Rattle.boot_image.specs.ImageFaults.{image_fault}
use Rattle.boot_image.specs.ImageValue.{image_of}
use Rattle.boot_schedule.specs.declared.fault.ScheduleWhy.{ScheduleWhy}
use Rattle.boot_schedule.specs.Names.{schedule_why_text}
use Rattle.boot_schedule.specs.Schedule.{events_of, schedule_fault}
use Rattle.commands.specs.declared.status.Status.{Status}
use Rattle.commands.specs.declared.status.Status.TheVariants as status
use Rattle.commands.specs.declared.work.Answer.{Answer}
use Rattle.commands.specs.Edges.{ShelfEdge, SinkEdge}
use Rattle.commands.specs.Command.{CommandValue, names_of}
use Rattle.commands.specs.Files.{AreRead, AreTold}
use Rattle.commands.specs.Due.{Due, Refusal, Whole, Found, due_text, refusal_text, status_of}
use Rattle.commands.specs.Outcome.{Decided, IsWhole, IsPart, Outcome, Finished, Wrote}
use Rattle.commands.specs.Work.{Performed}
use Rattle.aegis_command.specs.Headline.{AsksRun, NoFault, Ends, IsComplete, IsHeadline, IsLoad, TakesAll, IsWanting, BothRead, RunEnds, WroteReport, WroteRefusal, WrotePart, FailedToRead, due_of_both}
use Rattle.std.specs.Io.KnownBytes.{Appends}
use Rattle.std.specs.Option.{option_map}
use Rattle.aegis_command.specs.Words.{command_of}
use Rattle.aegis_command.specs.LoadSeed.{load_seed}
use Rattle.aegis_command.specs.RunImage.{report_after, run_due, run_image, run_writing}
use Rattle.aegis_command.specs.SystemDue.{FileNames, system_command}

-- what is read of told files is what is told
same_contents : (files : List ℕ → Option (List ℕ)) (names xs ys : List (List ℕ)) → AreRead (Some files) names xs → AreRead (Some files) names ys → xs ≡ ys
same_contents files [] [] [] a b = refl
same_contents files [] (x ∷ xs) ys a b = absurd a
same_contents files [] [] (y ∷ ys) a b = absurd b
same_contents files (n ∷ names) [] ys a b = absurd a
same_contents files (n ∷ names) (x ∷ xs) [] a b = absurd b
same_contents files (n ∷ names) (x ∷ xs) (y ∷ ys) a b =
    let heads : Some x ≡ Some y = sym a.0 ∙ b.0 in
    let tails = same_contents files names xs ys a.1 b.1 in
    cc

-- and so it is of the first of them, whatever names follow
pub same_first : (files : List ℕ → Option (List ℕ)) (names a b xs ys : List (List ℕ)) → AreRead (Some files) (names ++ a) xs → AreRead (Some files) (names ++ b) ys → take (length names) xs ≡ take (length names) ys
same_first files [] a b xs ys p q = refl
same_first files (n ∷ names) a b [] ys p q = absurd p
same_first files (n ∷ names) a b (x ∷ xs) [] p q = absurd q
same_first files (n ∷ names) a b (x ∷ xs) (y ∷ ys) p q =
    let heads : Some x ≡ Some y = sym p.0 ∙ q.0 in
    let tails = same_first files names a b xs ys p.1 q.1 in
    cc

-- nothing is read of no names
none_read : (contents : List (List ℕ)) → AreRead None [] contents → contents ≡ []
none_read [] read = refl
none_read (bytes ∷ contents) read = absurd read

no_first : (first more : List (List ℕ)) → first ++ more ≡ [] → first ≡ []
no_first [] more is = refl
no_first (name ∷ first) more is = cc

-- a command that names no file names none, whatever is read
no_names : (c : CommandValue) (xs ys : List (List ℕ)) → names_of c xs ≡ [] → names_of c ys ≡ []
no_names c xs ys none =
    let first : c.names ≡ [] = no_first c.names (c.further (take (length c.names) xs)) none in
    let P : List (List ℕ) → Type 0 = λ names. names ++ c.further (take (length names) ys) ≡ names ++ c.further (take (length names) xs) in
    subst P (sym first) refl ∙ none

-- so it is of a command's files
pub told_contents : (c : CommandValue) (told : Option (List ℕ → Option (List ℕ))) (xs ys : List (List ℕ)) → AreTold told (names_of c xs) xs → AreRead told (names_of c ys) ys → xs ≡ ys
told_contents c None xs ys a b = a.1 ∙ sym (none_read ys (subst (λ (names : List (List ℕ)). AreRead None names ys) (no_names c xs ys a.0) b))
told_contents c (Some files) xs ys a b =
    let first = same_first files c.names (c.further (take (length c.names) xs)) (c.further (take (length c.names) ys)) xs ys a b in
    let names : names_of c xs ≡ names_of c ys = ap (λ (zs : List (List ℕ)). c.names ++ c.further zs) first in
    same_contents files (names_of c ys) xs ys (subst (λ (ns : List (List ℕ)). AreRead (Some files) ns xs) names a) b

-- what was decided is what is due for the told contents
pub told_due : (c : CommandValue) (s : ShelfEdge) (decided : Decided c s) (contents : List (List ℕ)) → AreTold s.told (names_of c contents) contents → c.due contents ≡ Some decided.due
told_due c s decided contents told = ap c.due (told_contents c s.told contents decided.contents told decided.read.read) ∙ decided.is_due

-- where no fault is met, what is due was written, or memory was wanting
wrote : (c : CommandValue) (s : ShelfEdge) (k : SinkEdge) (result : Status) → Outcome c s k result → NoFault s k → Wrote c s k result ⊎ IsWanting k result
wrote c s k status.Done w calm = inl w
wrote c s k status.Found w calm = inl w
wrote c s k status.Usage w calm = absurd w
wrote c s k status.Refused w calm = inl w
wrote c s k status.ReadFault w calm = absurd (calm.read (omega (arith, w.0.fault)))
wrote c s k status.WriteFault w calm = absurd (calm.write (omega (arith, w.1.fault)))
wrote c s k status.OutOfMemory w calm = inr (refl, w.1.nothing)

ends : (c : CommandValue) (contents : List (List ℕ)) (s : ShelfEdge) (k : SinkEdge) (result : Status) → Outcome c s k result → AreTold s.told (names_of c contents) contents → NoFault s k → Ends (c.due contents) k result
ends c contents s k result outcome told calm = by_due (c.due contents) refl (wrote c s k result outcome calm)
  where
    by_due : (due : Option Due) → c.due contents ≡ due → Wrote c s k result ⊎ IsWanting k result → Ends due k result
    by_due due is (inl w) =
        subst (λ (d : Option Due). Ends d k result) (sym (told_due c s w.0 contents told) ∙ is) (inl (sym w.1, w.2.appended))
    by_due None is (inr w) = w
    by_due (Some due) is (inr w) = inr w

pub is_complete : (words : Option CommandValue) (s : ShelfEdge) (k : SinkEdge) (result : Status) → IfSome words (λ c. Outcome c s k result) → IsComplete words s k result
is_complete words s k result outcome c contents is told calm =
    ends c contents s k result (subst (λ (o : Option CommandValue). IfSome o (λ d. Outcome d s k result)) is outcome) told calm

-- the words of a run are those of its command
run_asked : (words : List (List ℕ)) (names : FileNames) (ticks : ℕ) → AsksRun words names.image names.schedule ticks → command_of words ≡ Some (run_image names ticks)
run_asked words names ticks (number, inl run) =
    ap command_of run.0 ∙ ap (λ (t : Option ℕ). option_map (system_command names) (option_map run_writing t)) run.1
run_asked words names ticks (number, inr long) =
    ap command_of long.0 ∙ ap (λ (t : Option ℕ). option_map (system_command names) (option_map run_writing t)) long.1

-- what is read of two names is two contents
two_contents : (told : Option (List ℕ → Option (List ℕ))) (one other : List ℕ) (contents : List (List ℕ)) → AreRead told (one ∷ other ∷ []) contents
    → (a : List ℕ) × (b : List ℕ) × (contents ≡ a ∷ b ∷ [])
two_contents told one other [] read = absurd read
two_contents told one other (a ∷ []) read = absurd read.1
two_contents told one other (a ∷ b ∷ []) read = (a, b, refl)
two_contents told one other (a ∷ b ∷ c ∷ contents) read = absurd read.1.1

-- the command of a run of two files
abbrev run_of : (image_name schedule_name : List ℕ) → ℕ → CommandValue
run_of image_name schedule_name ticks = run_image (record { image = image_name; schedule = schedule_name }) ticks

-- both files of a run were read once it was decided what is due, and it is due for what they have
both_read : (i n : List ℕ) (ticks : ℕ) (s : ShelfEdge) (decided : Decided (run_of i n ticks) s)
    → (both : BothRead i n s) × (decided.due ≡ due_of_both ticks both)
both_read i n ticks s decided =
    let two = two_contents s.told i n decided.contents decided.read.read in
    let read : AreRead s.told (i ∷ n ∷ []) (two.0 ∷ two.1 ∷ []) = subst (AreRead s.told (i ∷ n ∷ [])) two.2 decided.read.read in
    let is : Some decided.due ≡ Some (run_due (record { image = i; schedule = n }) ticks two.0 two.1) = sym decided.is_due ∙ ap (run_of i n ticks).due two.2 in (
      record {
        image = two.0;
        schedule = two.1;
        names_read = decided.read.got.names_read;
        contents_read = decided.read.got.contents_read ∙ ap (λ (contents : List (List ℕ)). s.before.contents ++ contents) two.2;
        image_told = read.0;
        schedule_told = read.1.0;
      },
      cc,
    )

-- what may be due for two files: the report, where neither has a fault, or a refusal
abbrev MayBeDue : (i n : List ℕ) → ℕ → (image schedule : List ℕ) → Type 0
MayBeDue i n ticks image schedule =
    ((image_fault image ≡ None) × (schedule_fault schedule ≡ None)
    × (run_due (record { image = i; schedule = n }) ticks image schedule ≡ Whole (report_after (image_of image) (events_of schedule) ticks)))
    ⊎ ((text : List ℕ) × (run_due (record { image = i; schedule = n }) ticks image schedule ≡ Refusal text))

may_be_due : (i n : List ℕ) (ticks : ℕ) (image schedule : List ℕ) → MayBeDue i n ticks image schedule
may_be_due i n ticks image schedule = by_faults (image_fault image) (schedule_fault schedule) refl refl
  where
    by_faults : (f : Option ImageFault) (g : Option (LineFault ScheduleWhy)) → image_fault image ≡ f → schedule_fault schedule ≡ g
        → MayBeDue i n ticks image schedule
    by_faults None None p q = inl (p, q, rw (p, q) refl)
    by_faults None (Some g) p q = inr (refusal_text n (schedule_why_text g.why) g.line, rw (p, q) refl)
    by_faults (Some f) g p q = inr (refusal_text i (image_why_text f.why) f.place, rw p refl)

not_done : status.Refused ≢ status.Done
not_done w = cc

not_refused : status.Done ≢ status.Refused
not_refused w = cc

not_found_done : status.Done ≢ status.Found
not_found_done w = cc

not_found_refused : status.Refused ≢ status.Found
not_found_refused w = cc

not_found : (due : Due) (text : List ℕ) → (due ≡ Whole text) ⊎ (due ≡ Refusal text) → status_of due ≢ status.Found
not_found due text (inl is) w = not_found_done (sym (ap status_of is) ∙ w)
not_found due text (inr is) w = not_found_refused (sym (ap status_of is) ∙ w)

-- a run that is done wrote the report
done : (i n : List ℕ) (ticks : ℕ) (s : ShelfEdge) (k : SinkEdge) (both : BothRead i n s) (due : Due) → due ≡ due_of_both ticks both
    → status_of due ≡ status.Done → IsWhole k (due_text due) → MayBeDue i n ticks both.image both.schedule → WroteReport i n ticks s k
done i n ticks s k both due is settled whole (inl report) = record {
  both = both;
  sound_image = report.0;
  sound_schedule = report.1;
  whole = subst (λ (d : Due). IsWhole k (due_text d)) (is ∙ report.2) whole;
}
done i n ticks s k both due is settled whole (inr refusal) = absurd (not_done (sym (ap status_of (is ∙ refusal.1)) ∙ settled))

-- one that is refused wrote the refusal
denied : (i n : List ℕ) (ticks : ℕ) (s : ShelfEdge) (k : SinkEdge) (both : BothRead i n s) (due : Due) → due ≡ due_of_both ticks both
    → status_of due ≡ status.Refused → IsWhole k (due_text due) → MayBeDue i n ticks both.image both.schedule → WroteRefusal i n ticks s k
denied i n ticks s k both due is settled whole (inl report) = absurd (not_refused (sym (ap status_of (is ∙ report.2)) ∙ settled))
denied i n ticks s k both due is settled whole (inr refusal) = record {
  both = both;
  text = refusal.0;
  is_due = refusal.1;
  whole = subst (λ (d : Due). IsWhole k (due_text d)) (is ∙ refusal.1) whole;
}

-- no run finds anything
never_found : (i n : List ℕ) (ticks : ℕ) (image schedule : List ℕ) (due : Due) → due ≡ run_due (record { image = i; schedule = n }) ticks image schedule
    → MayBeDue i n ticks image schedule → status_of due ≢ status.Found
never_found i n ticks image schedule due is (inl report) = not_found due _ (inl (is ∙ report.2))
never_found i n ticks image schedule due is (inr refusal) = not_found due refusal.0 (inr (is ∙ refusal.1))

-- a place of two names has one of them
one_of_two : (a b name : List ℕ) (place : ℕ) → slice_get (a ∷ b ∷ []) place ≡ Some name → (name ≡ a) ⊎ (name ≡ b)
one_of_two a b name zero is = inl cc
one_of_two a b name (suc zero) is = inr cc
one_of_two a b name (suc (suc place)) is = absurd cc

-- how a run ends, by its outcome
run_ends : (i n : List ℕ) (ticks : ℕ) (s : ShelfEdge) (k : SinkEdge) (result : Status) → Outcome (run_of i n ticks) s k result → RunEnds i n ticks s k result
run_ends i n ticks s k status.Done w =
    let read = both_read i n ticks s w.0 in
    done i n ticks s k read.0 w.0.due read.1 w.1 w.2 (may_be_due i n ticks read.0.image read.0.schedule)
run_ends i n ticks s k status.Found w =
    let read = both_read i n ticks s w.0 in
    absurd (never_found i n ticks read.0.image read.0.schedule w.0.due read.1 (may_be_due i n ticks read.0.image read.0.schedule) w.1)
run_ends i n ticks s k status.Usage w = absurd w
run_ends i n ticks s k status.Refused w =
    let read = both_read i n ticks s w.0 in
    denied i n ticks s k read.0 w.0.due read.1 w.1 w.2 (may_be_due i n ticks read.0.image read.0.schedule)
run_ends i n ticks s k status.ReadFault w = record {
  name = w.0.name;
  is_one = one_of_two i n w.0.name (length w.0.came.contents) w.0.came.is_next;
  failed = w.0.failed;
  last = w.0.last;
  fault = w.0.fault;
  untouched = w.1;
}
run_ends i n ticks s k status.WriteFault w =
    let read = both_read i n ticks s w.0 in
    record { both = read.0; part = subst (λ (d : Due). IsPart k (due_text d)) read.1 w.1 }
run_ends i n ticks s k status.OutOfMemory w = w.1

-- the headline is the outcome of the words of a run
pub is_headline : (words : List (List ℕ)) (s : ShelfEdge) (k : SinkEdge) (result : Status) → IfSome (command_of words) (λ c. Outcome c s k result) → IsHeadline words s k result
is_headline words s k result outcome image_name schedule_name ticks asks =
    let is = run_asked words (record { image = image_name; schedule = schedule_name }) ticks asks in
    run_ends image_name schedule_name ticks s k result (subst (λ (o : Option CommandValue). IfSome o (λ c. Outcome c s k result)) is outcome)

-- no due status is that of a fault of writing
due_status : (due : Due) → status_of due ≢ status.WriteFault
due_status (Refusal text) w = cc
due_status (Whole text) w = cc
due_status (Found text) w = cc

-- a sink that takes the due text gives no fault
pub is_taken : (c : CommandValue) (s : ShelfEdge) (k : SinkEdge) (answer : Answer) (text : List ℕ) (result : Status) → Performed c s answer → text ≡ answer.text.items → (k.Takes (length text) → result ≡ answer.status) → TakesAll (Some c) s k result
is_taken c s k answer text result p same sure contents due told is takes =
    let decided = told_due c s p.0 contents told in
    let one : due ≡ p.0.due = cc in
    let long : length (due_text due) ≡ length text = ap (λ (d : Due). length (due_text d)) one ∙ ap length (sym (same ∙ p.1.text)) in
    λ w. due_status p.0.due (sym (sure (subst k.Takes long takes) ∙ p.1.status) ∙ w)

-- what was written whole is an outcome, by its status
outcome_by : (c : CommandValue) (s : ShelfEdge) (k : SinkEdge) (decided : Decided c s) (due : Due) → decided.due ≡ due → IsWhole k (due_text decided.due) → Outcome c s k (status_of due)
outcome_by c s k decided (Refusal text) is whole = (decided, ap status_of is, whole)
outcome_by c s k decided (Whole text) is whole = (decided, ap status_of is, whole)
outcome_by c s k decided (Found text) is whole = (decided, ap status_of is, whole)

-- an answer that was due, and then written, is an outcome
pub is_outcome : (c : CommandValue) (s : ShelfEdge) (k : SinkEdge) (answer : Answer) (text : List ℕ) (result : Status) → Performed c s answer → text ≡ answer.text.items → Finished answer.status text k result → Outcome c s k result
is_outcome c s k answer text result p same (inl w) =
    subst (Outcome c s k) (sym (w.0 ∙ p.1.status)) (outcome_by c s k p.0 p.0.due refl (subst (IsWhole k) (same ∙ p.1.text) w.1))
is_outcome c s k answer text result p same (inr w) =
    subst (Outcome c s k) (sym w.0) (p.0, subst (IsPart k) (same ∙ p.1.text) w.1)

-- Every shelf tells what no names have.
told_nothing : (told : Option (List ℕ → Option (List ℕ))) → AreTold told [] []
told_nothing None = (refl, refl)
told_nothing (Some files) = tt

-- what load writes is completeness for its words
pub is_load : (words : List (List ℕ)) (s : ShelfEdge) (k : SinkEdge) (result : Status) → IfSome (command_of words) (λ c. Outcome c s k result) → IsLoad words s k result
is_load words s k result outcome number seed are seed_is calm =
    let is : command_of words ≡ Some (load_seed seed) = ap command_of are ∙ ap (option_map load_seed) seed_is in
    is_complete (command_of words) s k result outcome (load_seed seed) [] is (told_nothing s.told) calm
