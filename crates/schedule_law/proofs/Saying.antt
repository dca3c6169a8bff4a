-- What a line says is within its limits.
use Rattle.std.proofs.Common.{◌≡◌, ◌-◌, ℕ, zero, suc, List, [], ◌∷◌, map, Bool, true, false, Option, None, Some, Result, Ok, Err, refl, sym, ◌∙◌, ap, subst, arith}
use Rattle.std.specs.Prelude.{◌==◌, ◌&&◌, if◌then◌else◌, filter, nat_le, nat_lt, slice_get}
use Rattle.std.specs.List.{cons_option, list_all}
use Rattle.std.specs.Option.{ok_or, option_and_then}
use Rattle.std.specs.Result.{result_ok}
use Rattle.std.proofs.lemmas.Bool.{and_parts, leb-true, lt-ltb}
use Rattle.aegis_limits.specs.Limits.{most_run_ticks}
use Rattle.hex.specs.Hex.{decode_of}
use Rattle.line_text.specs.Lines.{LineValue, lines_of}
use Rattle.line_text.specs.Statements.{statements_of}
use Rattle.line_text.specs.Number.{number_of, number_within}
use Rattle.line_text.specs.Outcome.{◌>>=◌}
use Rattle.line_text.specs.Words.{line_words}
use Rattle.external_event.specs.declared.event.Occurrence.{Occurrence}
use Rattle.external_event.specs.declared.event.Occurrence.TheVariants.{Packet, Line, Revoke}
use Rattle.external_event.specs.EventValue.{EventValue, is_event, is_occurrence}
use Rattle.external_event.specs.Limits.{last_environment, lines, most_asked}
use Rattle.external_event.specs.Packet.{is_packet, packet_of}
use Rattle.boot_schedule.specs.declared.fault.ScheduleWhy.{ScheduleWhy}
use Rattle.boot_schedule.specs.declared.fault.ScheduleWhy.TheVariants.{Syntax, Range, Hex}
use Rattle.boot_schedule.specs.Forms.{EventWords, PacketWords, LineWords, RevokeWords, event_form}
use Rattle.boot_schedule.specs.Saying.{bytes_said, event_at, in_range, said, words_said}
use Rattle.boot_schedule.specs.Schedule.{event_said, events_of, events_said}
use Rattle.world_model.specs.Event.{schedule_of}
use Rattle.schedule_law.specs.Limits.{EventsAreWithin, SaidIsWithinLimits, SchedulesAreWithin}

-- both hold
and_true : (a b : Bool) → a ≡ true → b ≡ true → (a && b) ≡ true
and_true a b first next = rw (first, next) refl

-- a number that is read is at most what it may be
within : (most n : ℕ) (word : List ℕ) → number_within 0 most word ≡ Some n → nat_le n most ≡ true
within most n word is = by_number (number_of word) is
  where
    by_test : (m : ℕ) (t : Bool) → (nat_le 0 m && nat_le m most) ≡ t → (if t then Some m else None) ≡ Some n → nat_le n most ≡ true
    by_test m true least some = let same : m ≡ n = cc in subst (λ (k : ℕ). nat_le k most ≡ true) same (and_parts (nat_le 0 m) (nat_le m most) least).1
    by_test m false least some = cc

    by_number : (o : Option ℕ) → option_and_then (λ k. if nat_le 0 k && nat_le k most then Some k else None) o ≡ Some n → nat_le n most ≡ true
    by_number None some = cc
    by_number (Some m) some = by_test m (nat_le 0 m && nat_le m most) refl some

in_range_within : (most n : ℕ) (word : List ℕ) → in_range most word ≡ Ok n → nat_le n most ≡ true
in_range_within most n word is = by_number (number_within 0 most word) refl is
  where
    by_number : (o : Option ℕ) → number_within 0 most word ≡ o → ok_or o Range ≡ Ok n → nat_le n most ≡ true
    by_number None read some = cc
    by_number (Some m) read some = let same : m ≡ n = cc in within most n word (read ∙ ap Some same)

packet_within : (bytes packet : List ℕ) → packet_of bytes ≡ Some packet → is_packet packet ≡ true
packet_within bytes packet is = by_test (is_packet bytes) refl is
  where
    by_test : (t : Bool) → is_packet bytes ≡ t → (if t then Some bytes else None) ≡ Some packet → is_packet packet ≡ true
    by_test true so some = let same : bytes ≡ packet = cc in subst (λ bs. is_packet bs ≡ true) same so
    by_test false so some = cc

bytes_within : (word packet : List ℕ) → bytes_said word ≡ Ok packet → is_packet packet ≡ true
bytes_within word packet is = by_bytes (ok_or (result_ok (decode_of word)) Hex) is
  where
    by_packet : (bytes : List ℕ) (o : Option (List ℕ)) → packet_of bytes ≡ o → ok_or o Range ≡ Ok packet → is_packet packet ≡ true
    by_packet bytes None so some = cc
    by_packet bytes (Some p) so some = let same : p ≡ packet = cc in packet_within bytes packet (so ∙ ap Some same)

    by_bytes : (r : Result (List ℕ) ScheduleWhy) → (r >>= (λ bytes. ok_or (packet_of bytes) Range)) ≡ Ok packet → is_packet packet ≡ true
    by_bytes (Err why) some = cc
    by_bytes (Ok bytes) some = by_packet bytes (packet_of bytes) refl some

-- an event of a time within its limit, and of what is within its own
abbrev heard : EventValue → Result EventValue ScheduleWhy
heard x = Ok x

event_within : (t : ℕ) (what : Occurrence) (x : EventValue) → heard (event_at t what) ≡ Ok x → nat_le t most_run_ticks ≡ true → is_occurrence what ≡ true → is_event x ≡ true
event_within t what x is time occurs =
    let same : event_at t what ≡ x = cc in
    subst (λ (e : EventValue). is_event e ≡ true) same (and_true (nat_le t most_run_ticks) (is_occurrence what) time occurs)

line_below : (n : ℕ) → nat_le n (lines - 1) ≡ true → nat_lt n lines ≡ true
line_below n is = let most = leb-true n (lines - 1) is in lt-ltb n lines (omega (arith, most))

words_within : (words : EventWords) (x : EventValue) → words_said words ≡ Ok x → is_event x ≡ true
words_within (PacketWords time word) x is = by_time (in_range most_run_ticks time) refl is
  where
    by_bytes : (t : ℕ) → nat_le t most_run_ticks ≡ true → (r : Result (List ℕ) ScheduleWhy) → bytes_said word ≡ r → (r >>= (λ bytes. Ok (event_at t (Packet bytes)))) ≡ Ok x → is_event x ≡ true
    by_bytes t early (Err why) read some = cc
    by_bytes t early (Ok bytes) read some = event_within t (Packet bytes) x some early (bytes_within word bytes read)

    by_time : (r : Result ℕ ScheduleWhy) → in_range most_run_ticks time ≡ r → (r >>= (λ t. bytes_said word >>= (λ bytes. Ok (event_at t (Packet bytes))))) ≡ Ok x → is_event x ≡ true
    by_time (Err why) read some = cc
    by_time (Ok t) read some = by_bytes t (in_range_within most_run_ticks t time read) (bytes_said word) refl some
words_within (LineWords time number) x is = by_time (in_range most_run_ticks time) refl is
  where
    by_line : (t : ℕ) → nat_le t most_run_ticks ≡ true → (r : Result ℕ ScheduleWhy) → in_range (lines - 1) number ≡ r → (r >>= (λ n. Ok (event_at t (Line n)))) ≡ Ok x → is_event x ≡ true
    by_line t early (Err why) read some = cc
    by_line t early (Ok n) read some = event_within t (Line n) x some early (line_below n (in_range_within (lines - 1) n number read))

    by_time : (r : Result ℕ ScheduleWhy) → in_range most_run_ticks time ≡ r → (r >>= (λ t. in_range (lines - 1) number >>= (λ n. Ok (event_at t (Line n))))) ≡ Ok x → is_event x ≡ true
    by_time (Err why) read some = cc
    by_time (Ok t) read some = by_line t (in_range_within most_run_ticks t time read) (in_range (lines - 1) number) refl some
words_within (RevokeWords time env count grace) x is = by_time (in_range most_run_ticks time) refl is
  where
    by_grace : (t e pages : ℕ) → nat_le t most_run_ticks ≡ true → nat_le e last_environment ≡ true → nat_le pages most_asked ≡ true
        → (r : Result ℕ ScheduleWhy) → in_range most_run_ticks grace ≡ r → (r >>= (λ ticks. Ok (event_at t (Revoke e pages ticks)))) ≡ Ok x → is_event x ≡ true
    by_grace t e pages early there few (Err why) read some = cc
    by_grace t e pages early there few (Ok ticks) read some =
        let short = in_range_within most_run_ticks ticks grace read in
        event_within t (Revoke e pages ticks) x some early
        (and_true (nat_le e last_environment) (nat_le pages most_asked && nat_le ticks most_run_ticks) there (and_true (nat_le pages most_asked) (nat_le ticks most_run_ticks) few short))

    by_count : (t e : ℕ) → nat_le t most_run_ticks ≡ true → nat_le e last_environment ≡ true
        → (r : Result ℕ ScheduleWhy) → in_range most_asked count ≡ r
        → (r >>= (λ pages. in_range most_run_ticks grace >>= (λ ticks. Ok (event_at t (Revoke e pages ticks))))) ≡ Ok x → is_event x ≡ true
    by_count t e early there (Err why) read some = cc
    by_count t e early there (Ok pages) read some = by_grace t e pages early there (in_range_within most_asked pages count read) (in_range most_run_ticks grace) refl some

    by_env : (t : ℕ) → nat_le t most_run_ticks ≡ true → (r : Result ℕ ScheduleWhy) → in_range last_environment env ≡ r
        → (r >>= (λ e. in_range most_asked count >>= (λ pages. in_range most_run_ticks grace >>= (λ ticks. Ok (event_at t (Revoke e pages ticks)))))) ≡ Ok x → is_event x ≡ true
    by_env t early (Err why) read some = cc
    by_env t early (Ok e) read some = by_count t e early (in_range_within last_environment e env read) (in_range most_asked count) refl some

    by_time : (r : Result ℕ ScheduleWhy) → in_range most_run_ticks time ≡ r
        → (r >>= (λ t. in_range last_environment env >>= (λ e. in_range most_asked count >>= (λ pages. in_range most_run_ticks grace >>= (λ ticks. Ok (event_at t (Revoke e pages ticks))))))) ≡ Ok x
        → is_event x ≡ true
    by_time (Err why) read some = cc
    by_time (Ok t) read some = by_env t (in_range_within most_run_ticks t time read) (in_range last_environment env) refl some

said_within : (text : List ℕ) (x : EventValue) → said text ≡ Ok x → is_event x ≡ true
said_within text x is = by_words (ok_or (option_and_then event_form (line_words text)) Syntax) is
  where
    by_words : (r : Result EventWords ScheduleWhy) → (r >>= words_said) ≡ Ok x → is_event x ≡ true
    by_words (Err why) some = cc
    by_words (Ok words) some = words_within words x some

-- so it is with all events of all lines
ok_of : (r : Result EventValue ScheduleWhy) (x : EventValue) → result_ok r ≡ Some x → r ≡ Ok x
ok_of (Err why) x is = cc
ok_of (Ok y) x is = let same : y ≡ x = cc in ap Ok same

all_within : (those : List LineValue) → list_all is_event (events_said those) ≡ true
all_within [] = refl
all_within (line ∷ those) = by_event (event_said line.text) refl (all_within those)
  where
    by_event : (o : Option EventValue) → event_said line.text ≡ o → list_all is_event (events_said those) ≡ true → list_all is_event (cons_option o (events_said those)) ≡ true
    by_event None read rest = rest
    by_event (Some x) read rest = and_true (is_event x) (list_all is_event (events_said those)) (said_within line.text x (ok_of (said line.text) x read)) rest

pub events_are_within : EventsAreWithin
unfolding events_of
events_are_within text = all_within (statements_of (lines_of text))

-- and with all that happens in a tick
occurs_within : (events : List EventValue) (t : ℕ) → list_all is_event events ≡ true → list_all is_occurrence (schedule_of events t) ≡ true
occurs_within [] t all = refl
occurs_within (x ∷ events) t all = by_time (x.time == t) (occurs_within events t (and_parts (is_event x) (list_all is_event events) all).1)
  where
    parts : (is_event x ≡ true) × (list_all is_event events ≡ true)
    parts = and_parts (is_event x) (list_all is_event events) all

    by_time : (now : Bool) → list_all is_occurrence (schedule_of events t) ≡ true → list_all is_occurrence (map (λ (e : EventValue). e.what) (if now then x ∷ filter (λ (e : EventValue). e.time == t) events else filter (λ (e : EventValue). e.time == t) events)) ≡ true
    by_time true rest = and_true (is_occurrence x.what) (list_all is_occurrence (schedule_of events t)) (and_parts (nat_le x.time most_run_ticks) (is_occurrence x.what) parts.0).1 rest
    by_time false rest = rest

pub schedules_are_within : SchedulesAreWithin
schedules_are_within text t = occurs_within (events_of text) t (events_are_within text)

-- so with each of them
one_of : {A : Type 0} (p : A → Bool) (xs : List A) (k : ℕ) (x : A) → list_all p xs ≡ true → slice_get xs k ≡ Some x → p x ≡ true
one_of p [] k x all is = cc
one_of p (y ∷ xs) zero x all is = let same : y ≡ x = cc in ap p (sym same) ∙ (and_parts (p y) (list_all p xs) all).0
one_of p (y ∷ xs) (suc k) x all is = one_of p xs k x (and_parts (p y) (list_all p xs) all).1 is

pub said_is_within_limits : SaidIsWithinLimits
said_is_within_limits text tick k what is = one_of is_occurrence (schedule_of (events_of text) tick) k what (schedules_are_within text tick) is
