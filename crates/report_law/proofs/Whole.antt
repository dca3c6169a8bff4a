-- A whole report is read as its world's ledger.
use Rattle.std.proofs.Common.{arith, refl, sym, ◌∙◌, ap, subst, ◌≡◌, ◌≤◌, ◌+◌, ℕ, zero, suc, List, [], ◌∷◌, ◌++◌, append_assoc, map, Bool, true, false, Option, None, Result, Ok}
use Rattle.std.specs.Prelude.{codes, count_by}
use Rattle.std.specs.List.{AllByRecursion, flat_map}
use Rattle.std.proofs.lemmas.Bool.{cond-true}
use Rattle.std.proofs.lemmas.List.{append-nil}
use Rattle.boot_image.specs.ImageValue.{name_text}
use Rattle.kernel_journal.specs.declared.row.Row.{Row}
use Rattle.kernel_journal.specs.declared.row.RunEnd.{RunEnd}
use Rattle.kernel_journal.specs.declared.row.RunEnd.TheVariants as end
use Rattle.kernel_journal.specs.RowTable.{RowsAreReadBack, name_of, numbers_of}
use Rattle.line_text.specs.declared.failure.LineFault.{LineFault}
use Rattle.line_text.specs.Outcome.{◌>>=◌}
use Rattle.line_text.specs.Statements.{end_of}
use Rattle.line_text.specs.Text.{dec_text}
use Rattle.line_text.specs.WrittenLine.{line, or_dash, spaced}
use Rattle.machine_text.specs.Series.{for_each}
use Rattle.world_model.specs.Table.{listed}
use Rattle.world_model.specs.World.{World}
use Rattle.run_model.specs.Excess.{is_over_of, is_pay_of, is_run_of}
use Rattle.run_report.specs.Report.{end_line, end_text, env_text, numbers_line, report_text, row_line, sum_line}
use Rattle.ledger_audit.specs.LedgerState.{LedgerState}
use Rattle.ledger_text.specs.declared.entry.Entry.TheVariants as entry
use Rattle.ledger_text.specs.declared.fault.LedgerWhy.{LedgerWhy}
use Rattle.ledger_text.specs.declared.kind.LineKind.{LineKind}
use Rattle.ledger_text.specs.declared.kind.LineKind.TheVariants as kind
use Rattle.ledger_text.specs.LedgerText.{LedgerValue, end_form, end_said, ledger_read, line_said, no_ledger, sum_form, sum_of as sum_words_of, sum_said}
use Rattle.ledger_text.specs.Limits.{most_number}
use Rattle.ledger_text.specs.LineKinds.{before_row, before_sum, ends_env, is_kind_done, is_kind_end, is_kind_none, is_kind_title}
use Rattle.ledger_text.specs.RowText.{env_in, other_in, time_in}
use Rattle.ledger_text.specs.Within.{IsEnv, IsTime}
use Rattle.ledger_text.specs.Words.{spaced_words}
use Rattle.ledger_audit.specs.Answer.{first_wrong_sum, is_sum, rows_of}
use Rattle.ledger_law.specs.LedgerLaw.{says_idle}
use Rattle.report_law.specs.ReportLaw.{tally_of, values_of}
use Rattle.report_law.proofs.Bytes.{AtLeast, both}
use Rattle.report_law.proofs.Cuts.{line_then, words_cut, words_plain}
use Rattle.report_law.proofs.Numbers.{if_all, then_read}
use Rattle.report_law.proofs.Reading.{AreWithin, At, Has, Known, rest_is, row_text, rows_at, step_at, values_more, weaker, with_rows}
use Rattle.report_law.proofs.Rows.{dec_solid, env_is, env_spells, known_line, other_is, other_spells, solid_plain, time_is, time_spells}
use Rattle.report_law.proofs.Sections.{envs_lead}

-- rows as they are written
numbers_are : (numbers : List (Option ℕ)) → flat_map (λ n. spaced (or_dash n)) numbers ≡ flat_map spaced (map or_dash numbers)
numbers_are [] = refl
numbers_are (n ∷ numbers) = ap (λ (text : List ℕ). spaced (or_dash n) ++ text) (numbers_are numbers)

row_is : (r : Row) → row_line r ≡ row_text r
unfolding numbers_line
row_is r = ap (λ (text : List ℕ). (name_of r ++ text) ++ 10 ∷ []) (numbers_are (numbers_of r))

rows_are : (rows : List Row) → flat_map row_line rows ≡ flat_map row_text rows
rows_are [] = refl
rows_are (r ∷ rows) = ap (λ (text : List ℕ). text ++ flat_map row_line rows) (row_is r) ∙ ap (λ (text : List ℕ). row_text r ++ text) (rows_are rows)

-- sums
abbrev AreFew : List Row → ℕ → Type 0
AreFew rows e = (count_by (is_run_of e) rows ≤ most_number) × (count_by (is_pay_of e) rows ≤ most_number) × (count_by (is_over_of e) rows ≤ most_number)

abbrev sum_words : List Row → ℕ → List (List ℕ)
sum_words rows e = dec_text e ∷ dec_text (count_by (is_run_of e) rows) ∷ dec_text (count_by (is_pay_of e) rows) ∷ dec_text (count_by (is_over_of e) rows) ∷ []

abbrev sum_body : List Row → ℕ → List ℕ
sum_body rows e = codes "sum" ++ flat_map spaced (sum_words rows e)

sum_line_is : (rows : List Row) (e : ℕ) → sum_line rows e ≡ sum_body rows e ++ 10 ∷ []
unfolding numbers_line
sum_line_is rows e = refl

sum_read : (e r p o : ℕ) → IsEnv e → r ≤ most_number → p ≤ most_number → o ≤ most_number
    → sum_form (codes "sum" ∷ dec_text e ∷ dec_text r ∷ dec_text p ∷ dec_text o ∷ []) ≡ Ok (entry.Sum (e ∷ r ∷ p ∷ o ∷ []))
unfolding sum_words_of
sum_read e r p o who runs pays overs =
    if_all (dec_text e ∷ dec_text r ∷ dec_text p ∷ dec_text o ∷ []) (sum_said (dec_text e) (dec_text r) (dec_text p) (dec_text o)) _ (env_spells e who, (other_spells r runs, (other_spells p pays, (other_spells o overs, tt))))
    (then_read (env_in (dec_text e)) e _ _ (env_is e who) (then_read (other_in (dec_text r)) r _ _ (other_is r runs)
    (then_read (other_in (dec_text p)) p _ _ (other_is p pays) (then_read (other_in (dec_text o)) o _ _ (other_is o overs) refl))))

words_solid : (rows : List Row) (e : ℕ) → AllByRecursion (AtLeast 33) (sum_words rows e)
words_solid rows e = (dec_solid e, (dec_solid (count_by (is_run_of e) rows), (dec_solid (count_by (is_pay_of e) rows), (dec_solid (count_by (is_over_of e) rows), tt))))

sum_plain : (rows : List Row) (e : ℕ) → AtLeast 32 (sum_body rows e)
sum_plain rows e = both 32 (codes "sum") (flat_map spaced (sum_words rows e)) refl (words_plain (sum_words rows e) (solid_plain (sum_words rows e) (words_solid rows e)))

sum_line_said : (last : LineKind) (rows : List Row) (e : ℕ) → before_sum last ≡ true → IsEnv e → AreFew rows e → line_said last (sum_body rows e) ≡ Ok (entry.Sum (tally_of rows e))
sum_line_said last rows e follows who (runs, pays, overs) =
    known_line last kind.Sum (sum_body rows e) (entry.Sum (tally_of rows e)) refl follows refl
    (ap sum_form (words_cut (codes "sum") (sum_words rows e) refl (words_solid rows e))
    ∙ sum_read e (count_by (is_run_of e) rows) (count_by (is_pay_of e) rows) (count_by (is_over_of e) rows) who runs pays overs)

abbrev with_sums : Known → List (List ℕ) → Known
with_sums k sums = record k { sums = k.sums ++ sums }

sums_at : (last : ℕ) (from : Result LedgerValue (LineFault LedgerWhy)) (k : Known) (rows : List Row) (n : ℕ) (rest : List ℕ) → n ≤ 32 → ((e : ℕ) → AreFew rows e)
    → At last from before_sum k (for_each (sum_line rows) n ++ rest) → At last from before_sum (with_sums k (listed (tally_of rows) n)) rest
sums_at last from k rows zero rest few each at = subst (λ (sums : List (List ℕ)). At last from before_sum (record k { sums = sums }) rest) (sym (append-nil k.sums)) at
sums_at last from k rows (suc n) rest few each at =
    let before = for_each (sum_line rows) n in
    let l = with_sums k (listed (tally_of rows) n) in
    let m = record l { sums = l.sums ++ tally_of rows n ∷ [] } in
    let moved : At last from before_sum k (before ++ (sum_line rows n ++ rest)) =
    rest_is last from before_sum k ((before ++ sum_line rows n) ++ rest) (before ++ (sum_line rows n ++ rest)) (append_assoc before (sum_line rows n) rest) at in
    let there = sums_at last from k rows n (sum_line rows n ++ rest) (omega (arith, few)) each moved in
    let here : At last from before_sum l (sum_body rows n ++ 10 ∷ rest) =
    rest_is last from before_sum l (sum_line rows n ++ rest) (sum_body rows n ++ 10 ∷ rest)
    (ap (λ (text : List ℕ). text ++ rest) (sum_line_is rows n) ∙ append_assoc (sum_body rows n) (10 ∷ []) rest) there in
    let next : At last from before_sum m rest =
    step_at last from before_sum before_sum l m (sum_body rows n) rest (entry.Sum (tally_of rows n)) (sum_plain rows n)
    (λ prior follows. sum_line_said prior rows n follows (omega (arith, few)) (each n)) refl
    (λ number ledger has. record {
      idle = has.idle;
      time = has.time;
      environments = has.environments;
      rows = has.rows;
      sums = values_more ledger.sums number (tally_of rows n) ∙ ap (λ (xs : List (List ℕ)). xs ++ tally_of rows n ∷ []) has.sums;
    }) here in
    subst (λ (sums : List (List ℕ)). At last from before_sum (record k { sums = sums }) rest) (append_assoc k.sums (listed (tally_of rows) n) (tally_of rows n ∷ [])) next

-- the title
abbrev nothing : Known
nothing = record { idle = false; time = 0; environments = 0; rows = []; sums = [] }

begin : (text : List ℕ) → At (end_of text) (ledger_read text) is_kind_none nothing text
unfolding ledger_read
begin text = record { last = kind.Nothing; passes = refl; ledger = no_ledger; has = record { idle = refl; time = refl; environments = refl; rows = refl; sums = refl }; number = 1; start = 0; same = refl }

title_at : (last : ℕ) (from : Result LedgerValue (LineFault LedgerWhy)) (rest : List ℕ) → At last from is_kind_none nothing (line (codes "aegis" ∷ codes "run" ∷ []) ++ rest) → At last from is_kind_title nothing rest
title_at last from rest at =
    step_at last from is_kind_none is_kind_title nothing nothing (codes "aegis run") rest (entry.Other kind.Title) refl
    (λ prior follows. known_line prior kind.Title (codes "aegis run") (entry.Other kind.Title) refl follows refl refl) refl (λ number ledger has. has) at

-- how the run ended
abbrev end_words : RunEnd → ℕ → List (List ℕ)
end_words how time = end_text how ∷ dec_text time ∷ []

abbrev end_body : RunEnd → ℕ → List ℕ
end_body how time = codes "end" ++ flat_map spaced (end_words how time)

how_solid : (how : RunEnd) → AtLeast 33 (end_text how)
how_solid end.Limit = refl
how_solid end.Idle = refl

end_solid : (how : RunEnd) (time : ℕ) → AllByRecursion (AtLeast 33) (end_words how time)
end_solid how time = (how_solid how, (dec_solid time, tt))

time_said : (idle : Bool) (time : ℕ) → IsTime time → end_said idle (dec_text time) ≡ Ok (entry.End idle time)
time_said idle time within =
    if_all (dec_text time ∷ []) (time_in (dec_text time) >>= λ t. Ok (entry.End idle t)) _ (time_spells time within, tt) (then_read (time_in (dec_text time)) time _ _ (time_is time within) refl)

end_read : (how : RunEnd) (time : ℕ) → IsTime time → end_form (codes "end" ∷ end_text how ∷ dec_text time ∷ []) ≡ Ok (entry.End (says_idle how) time)
end_read end.Limit time within = time_said false time within
end_read end.Idle time within = time_said true time within

end_line_said : (last : LineKind) (how : RunEnd) (time : ℕ) → is_kind_title last ≡ true → IsTime time → line_said last (end_body how time) ≡ Ok (entry.End (says_idle how) time)
end_line_said kind.Title how time is within =
    by_words (ap end_form (words_cut (codes "end") (end_words how time) refl (end_solid how time)) ∙ end_read how time within)
  where
    by_words : end_form (spaced_words (end_body how time)) ≡ Ok (entry.End (says_idle how) time) → line_said kind.Title (end_body how time) ≡ Ok (entry.End (says_idle how) time)
    by_words said = said
end_line_said last how time is within = cc

end_at : (last : ℕ) (from : Result LedgerValue (LineFault LedgerWhy)) (how : RunEnd) (w : World) (rest : List ℕ) → IsTime w.book.time → At last from is_kind_title nothing (end_line w how ++ rest)
    → At last from is_kind_end (record nothing { idle = says_idle how; time = w.book.time }) rest
unfolding end_line
end_at last from how w rest within at =
    let words = end_words how w.book.time in
    step_at last from is_kind_title is_kind_end nothing (record nothing { idle = says_idle how; time = w.book.time }) (end_body how w.book.time) rest (entry.End (says_idle how) w.book.time)
    (both 32 (codes "end") (flat_map spaced words) refl (words_plain words (solid_plain words (end_solid how w.book.time))))
    (λ prior follows. end_line_said prior how w.book.time follows within) refl (λ number ledger has. record { idle = refl; time = refl; environments = has.environments; rows = has.rows; sums = has.sums })
    (rest_is last from is_kind_title nothing (line (codes "end" ∷ words) ++ rest) (end_body how w.book.time ++ 10 ∷ rest) (line_then (codes "end") words rest) at)

-- what a text is read as in the end
pub record ReadsTo (from : Result LedgerValue (LineFault LedgerWhy)) (k : Known) : Type 0 where
  pub ledger : LedgerValue
  pub is : from ≡ Ok ledger
  pub has : Has ledger k

done_at : (last : ℕ) (from : Result LedgerValue (LineFault LedgerWhy)) (k : Known) → At last from before_sum k (line (codes "done" ∷ [])) → ReadsTo from k
done_at last from k at =
    let at_end : At last from is_kind_done k [] =
    step_at last from before_sum is_kind_done k k (codes "done") [] (entry.Other kind.Done) refl
    (λ prior follows. known_line prior kind.Done (codes "done") (entry.Other kind.Done) refl follows refl refl) refl (λ number ledger has. record { idle = has.idle; time = has.time; environments = has.environments; rows = has.rows; sums = has.sums }) at in
    record { ledger = at_end.ledger; is = at_end.same ∙ cond-true (is_kind_done at_end.last) (Ok at_end.ledger) _ at_end.passes; has = at_end.has }

env_row : (last : LineKind) → ends_env last ≡ true → before_row last ≡ true
env_row kind.Row is = refl
env_row last is = is

row_sum : (last : LineKind) → before_row last ≡ true → before_sum last ≡ true
row_sum kind.Sum is = refl
row_sum last is = is

-- what a world's report has
abbrev pub known_of : World → RunEnd → Known
known_of w how = record { idle = says_idle how; time = w.book.time; environments = w.count; rows = w.rows; sums = listed (tally_of w.rows) w.count }

pub record IsShown (w : World) : Type 0 where
  pub time : IsTime w.book.time
  pub named : (e : ℕ) → AtLeast 32 (name_text (w.solos e).name)
  pub some : 1 ≤ w.count
  pub few : w.count ≤ 32
  pub rows : AreWithin w.rows
  pub counts : (e : ℕ) → AreFew w.rows e

in_parts : (a b c d e f : List ℕ) → ((((a ++ b) ++ c) ++ d) ++ e) ++ f ≡ a ++ (b ++ (c ++ (d ++ (e ++ f))))
in_parts a b c d e f =
    append_assoc (((a ++ b) ++ c) ++ d) e f ∙ append_assoc ((a ++ b) ++ c) d (e ++ f) ∙ append_assoc (a ++ b) c (d ++ (e ++ f)) ∙ append_assoc a b (c ++ (d ++ (e ++ f)))

-- the parts of a report, one after another
parts_read : RowsAreReadBack → (last : ℕ) (from : Result LedgerValue (LineFault LedgerWhy)) (w : World) (how : RunEnd) → IsShown w
    → At last from is_kind_none nothing (line (codes "aegis" ∷ codes "run" ∷ []) ++ (end_line w how ++ (for_each (env_text w) w.count ++ (flat_map row_line w.rows ++ (for_each (sum_line w.rows) w.count ++ line (codes "done" ∷ []))))))
    → ReadsTo from (known_of w how)
parts_read back last from w how shown at =
    let sums = for_each (sum_line w.rows) w.count in
    let done = line (codes "done" ∷ []) in
    let rows = flat_map row_line w.rows in
    let envs = for_each (env_text w) w.count in
    let k = record nothing { idle = says_idle how; time = w.book.time } in
    let titled = title_at last from (end_line w how ++ (envs ++ (rows ++ (sums ++ done)))) at in
    let ended = end_at last from how w (envs ++ (rows ++ (sums ++ done))) shown.time titled in
    let shows = envs_lead last from k w w.count shown.named shown.some (rows ++ (sums ++ done)) ended in
    let l = record k { environments = w.count } in
    let ready : At last from before_row l (flat_map row_text w.rows ++ (sums ++ done)) =
    rest_is last from before_row l (rows ++ (sums ++ done)) (flat_map row_text w.rows ++ (sums ++ done)) (ap (λ (xs : List ℕ). xs ++ (sums ++ done)) (rows_are w.rows))
    (weaker last from ends_env before_row l (rows ++ (sums ++ done)) env_row shows) in
    let told = weaker last from before_row before_sum (with_rows l w.rows) (sums ++ done) row_sum (rows_at back last from l w.rows (sums ++ done) shown.rows ready) in
    done_at last from (known_of w how) (sums_at last from (with_rows l w.rows) w.rows w.count done shown.few shown.counts told)

pub report_read : RowsAreReadBack → (w : World) (how : RunEnd) → IsShown w → ReadsTo (ledger_read (report_text w how)) (known_of w how)
unfolding report_text
report_read back w how shown =
    let text = report_text w how in
    let sums = for_each (sum_line w.rows) w.count in
    let done = line (codes "done" ∷ []) in
    let rows = flat_map row_line w.rows in
    let envs = for_each (env_text w) w.count in
    let title = line (codes "aegis" ∷ codes "run" ∷ []) in
    let parts = title ++ (end_line w how ++ (envs ++ (rows ++ (sums ++ done)))) in
    parts_read back (end_of text) (ledger_read text) w how shown
    (rest_is (end_of text) (ledger_read text) is_kind_none nothing text parts (in_parts title (end_line w how) envs rows sums done) (begin text))

-- and that is a ledger of the run, whose sums count right
pub rows_values : (rows : List (ℕ × Row)) → rows_of rows ≡ values_of rows
rows_values [] = refl
rows_values (x ∷ rows) = ap (λ (rs : List Row). x.1 ∷ rs) (rows_values rows)

abbrev rising : (ℕ → List ℕ) → ℕ → ℕ → List (List ℕ)
rising f e zero = []
rising f e (suc n) = f e ∷ rising f (e + 1) n

rising_more : (f : ℕ → List ℕ) (e n : ℕ) → rising f e n ++ f (e + n) ∷ [] ≡ rising f e (suc n)
rising_more f e zero = ap (λ (i : ℕ). f i ∷ []) (omega arith)
rising_more f e (suc n) =
    let same : e + suc n ≡ (e + 1) + n = omega arith in
    ap (λ (xs : List (List ℕ)). f e ∷ xs) (ap (λ (i : ℕ). rising f (e + 1) n ++ f i ∷ []) same ∙ rising_more f (e + 1) n)

listed_rises : (f : ℕ → List ℕ) (n : ℕ) → listed f n ≡ rising f 0 n
listed_rises f zero = refl
listed_rises f (suc n) = ap (λ (xs : List (List ℕ)). xs ++ f n ∷ []) (listed_rises f n) ∙ ap (λ (i : ℕ). rising f 0 n ++ f i ∷ []) (omega arith) ∙ rising_more f 0 n

pub sums_right : (s : LedgerState) (f : ℕ → List ℕ) → ((e : ℕ) → is_sum s e (f e) ≡ true) → (n : ℕ) (sums : List (ℕ × List ℕ)) → values_of sums ≡ listed f n → first_wrong_sum s 0 sums ≡ None
sums_right s f right n sums is = from_env sums 0 n (is ∙ listed_rises f n)
  where
    from_env : (sums : List (ℕ × List ℕ)) (e n : ℕ) → values_of sums ≡ rising f e n → first_wrong_sum s e sums ≡ None
    from_env [] e n is = refl
    from_env (x ∷ sums) e zero is = cc
    from_env (x ∷ sums) e (suc n) is =
        let first : x.1 ≡ f e = cc in
        let rest : values_of sums ≡ rising f (e + 1) n = cc in
        cond-true (is_sum s e x.1) _ _ (ap (is_sum s e) first ∙ right e) ∙ from_env sums (e + 1) n rest
