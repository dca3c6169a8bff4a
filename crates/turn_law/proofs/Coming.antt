-- Turns come: a ledger from its first row to its end.
use Rattle.std.proofs.Common.{arith, refl, sym, ◌∙◌, ap, ◌≡◌, ◌<◌, ◌≤◌, ◌+◌, ◌-◌, ◌⊎◌, inl, inr, ℕ, List, [], ◌∷◌, Bool, true, false, ◌&&◌, Option, None, Some}
use Rattle.std.specs.Prelude.{◌==◌, not, nat_le, nat_lt, if◌then◌else◌}
use Rattle.std.specs.Option.{option_or}
use Rattle.std.proofs.lemmas.Bool.{and_parts, and_right, cases_eq, cases_lt, eqb-true, leb-true}
use Rattle.aegis_limits.specs.Limits.{excess_limit, most_slots}
use Rattle.kernel_journal.specs.declared.row.Row.{Row}
use Rattle.kernel_journal.specs.declared.row.Row.TheVariants as row
use Rattle.kernel_journal.specs.RowTable.{time_of}
use Rattle.world_model.specs.declared.slot.Phase.{Phase}
use Rattle.world_model.specs.declared.slot.Phase.TheVariants as phase
use Rattle.ledger_audit.specs.Answer.{rows_of}
use Rattle.ledger_audit.specs.Laws.{CleanKeepsRules}
use Rattle.ledger_audit.specs.LedgerState.{LedgerState, after_row, excess_in, first_state, limit_in, state_from}
use Rattle.ledger_audit.specs.RowRules.{are_empty, is_end, is_end_by, is_fit_by_kind, is_in_time, is_own_row}
use Rattle.turn_law.specs.Ticks.{starter, starts_by, state_before, state_until}
use Rattle.turn_law.specs.TurnLaw.{CleanTurnsCome, HoldsSlot, StepsBetween, TurnsCome, longest_turn}
use Rattle.turn_law.proofs.Amounts.{bound_is, longest_is, quanta_most, rounds, rounds_more, turns, turns_more, turns_most}
use Rattle.turn_law.proofs.Distance.{far_within}
use Rattle.turn_law.proofs.Keeping.{Follows, IsSound, first_sound, sound_next}
use Rattle.turn_law.proofs.Lateness.{IsSoon, end_in_slice, far, latest, latest_by}
use Rattle.turn_law.proofs.Rules.{AreFit, all_fit, boot_time, timely}
use Rattle.turn_law.proofs.Walking.{IsLeft, IsReached, IsWaiting, early, left_next, next_row, not_earlier}

-- the next row, if there is one
abbrev Reaches : ℕ → ℕ → LedgerState → List Row → Type 0
Reaches t now s [] = Unit {0}
Reaches t now s (r ∷ rows) = IsReached t now s r

boot_over : (s : LedgerState) (r : Row) → (is_own_row r && s.at_boot) ≡ false → (after_row r s).at_boot ≡ false
boot_over s (row.Own time k owner holder) is = is
boot_over s r is = refl

reaches_next : (q end t now : ℕ) (s : LedgerState) (r : Row) (rows : List Row) → IsReached t now s r → AreFit q end (after_row r s) rows → Reaches t (time_of r + 1) (after_row r s) rows
reaches_next q end t now s r [] reached fit = tt
reaches_next q end t now s r (x ∷ rows) reached fit =
    let u = after_row r s in
    let over : (is_own_row x && u.at_boot) ≡ false = and_right (is_own_row x) u.at_boot (boot_over s r reached.later) in
    let time = timely q end u x over (and_parts (is_in_time q end u x) (is_fit_by_kind q u x rows) fit.0).0 in
    record { later = over; since = omega (arith, time.rises, reached.since); reaches = omega (arith, time.rises) }

not_boot : (a b : Bool) (P : Type 0) → (a && b) ≡ false → a ≡ true → b ≡ true → P
not_boot true b P is first second = let never : true ≡ false = sym second ∙ is in cc
not_boot false b P is first second = cc

-- the rows that are earlier than a tick, and the others
pub either_of : (s : LedgerState) (r : Row) (t : ℕ)
    → ((is_own_row r && s.at_boot) ≡ true) ⊎ (((is_own_row r && s.at_boot) ≡ false) × ((time_of r < t) ⊎ (t ≤ time_of r)))
either_of s r t = by_boot (is_own_row r && s.at_boot)
  where
    by_boot : (b : Bool) → (b ≡ true) ⊎ ((b ≡ false) × ((time_of r < t) ⊎ (t ≤ time_of r)))
    by_boot true = inl refl
    by_boot false = inr (refl, cases_lt (time_of r) t)

pub own_starts : (u : ℕ) (r : Row) → is_own_row r ≡ true → starts_by u r ≡ None
own_starts u (row.Own time k owner holder) is = refl
own_starts u (row.Run time k who) is = cc
own_starts u r is = refl

own_boot : (s : LedgerState) (r : Row) → is_own_row r ≡ true → s.at_boot ≡ true → (after_row r s).at_boot ≡ true
own_boot s (row.Own time k owner holder) own boot = boot
own_boot s r own boot = cc

boot_left : (all : List Row) (u : ℕ) (s : LedgerState) (r : Row) (rows : List Row) → (is_own_row r && s.at_boot) ≡ true → IsLeft all u s (r ∷ rows) → IsLeft all u (after_row r s) rows
boot_left all u s r rows boot left = record {
  state = left.state ∙ ap (λ (b : Bool). if (if b then true else nat_lt (time_of r) u) then state_until u (after_row r s) rows else s) boot;
  starts = left.starts ∙ ap (λ (o : Option ℕ). option_or o (starter u rows)) (own_starts u r (and_parts (is_own_row r) s.at_boot boot).0);
}

-- before a tick there are the rows of the boot, or those of ticks before it
abbrev IsEarly : ℕ → LedgerState → Type 0
IsEarly t s = (s.time < t) ⊎ (s.at_boot ≡ true)

late_start : (q t : ℕ) (o : Option ℕ) (p : Phase) (slice grace turn : ℕ) (excess : ℕ → ℕ) → 1 ≤ q → turn ≤ t → ((who : ℕ) → o ≡ Some who → (slice < t) × (grace < t))
    → latest_by q o p slice grace turn excess + 1 ≤ t + longest_turn q
late_start q t None p slice grace turn excess some soon began = omega (arith, some, soon)
late_start q t (Some who) phase.Own slice grace turn excess some soon began = let was = began who refl in omega (arith, was.0)
late_start q t (Some who) phase.Grace slice grace turn excess some soon began =
    let was = began who refl in
    let most = quanta_most q (excess_limit + 1 - excess who) 9 (omega arith) in
    let all = longest_is q in
    omega (arith, was.1, most, all, some)

module _ (all : List Row) (q end count slot e t before : ℕ) (idle : Bool) (some : 1 ≤ q) (there : slot < count) (few : count ≤ most_slots)
    (holding : (u : ℕ) → t ≤ u → u < before → HoldsSlot all count slot e u) (ends : before ≤ end) where
  at_end : (s : LedgerState) (now : ℕ) → is_end q idle end s ≡ true → IsSound s [] → IsWaiting all q count slot e t before now s [] → ⊥
  at_end s now ended sound waits = by_runner s.runner refl
    where
      soon : latest q s < before
      soon = early all q end count slot e t before now s some there few holding [] waits

      by_runner : (o : Option ℕ) → s.runner ≡ o → ⊥
      by_runner None is =
          let late : latest q s ≡ s.turn = ap (λ (o : Option ℕ). latest_by q o s.phase s.slice_start s.grace_start s.turn (excess_in s)) is in
          let here : ((end == s.turn) && (if idle then are_empty s else true)) ≡ true = sym (ap (is_end_by q idle end s) is) ∙ ended in
          let same : end ≡ s.turn = eqb-true end s.turn (and_parts (end == s.turn) (if idle then are_empty s else true) here).0 in
          absurd (omega (arith, soon, late, same, ends))
      by_runner (Some who) is =
          let here : (not idle && nat_le end (limit_in q s)) ≡ true = sym (ap (is_end_by q idle end s) is) ∙ ended in
          let within : end ≤ limit_in q s = leb-true end (limit_in q s) (and_parts (not idle) (nat_le end (limit_in q s)) here).1 in
          let last = end_in_slice q s who end some sound is within in
          absurd (omega (arith, soon, last, ends))

  walk : (rows : List Row) (s : LedgerState) (now : ℕ) → AreFit q end s rows → is_end q idle end (state_from s rows) ≡ true → IsSound s rows
      → IsWaiting all q count slot e t before now s rows → Reaches t now s rows → StepsBetween all e t before
  walk [] s now fit ended sound waits reached = absurd (at_end s now ended sound waits)
  walk (r ∷ rows) s now fit ended sound waits reached =
      let parts = and_parts (is_in_time q end s r) (is_fit_by_kind q s r rows) fit.0 in
      let time = timely q end s r reached.later parts.0 in
      let follows : Follows q s r rows =
      record { rises = time.rises; boot = λ own boot. not_boot (is_own_row r) s.at_boot (time_of r ≡ 0) reached.later own boot; fits = parts.1 } in
      elim (next_row all q end count slot e t before now s some there few holding r rows waits sound reached time parts.1) [
        | inl found ↦ found
        | inr next ↦ walk rows (after_row r s) (time_of r + 1) fit.1 ended (sound_next q s r rows sound follows) next (reaches_next q end t now s r rows reached fit.1)
      ]

  begin : (rows : List Row) (s : LedgerState) → before ≡ t + turns q (rounds count (excess_in s e + 1)) → AreFit q end s rows → is_end q idle end (state_from s rows) ≡ true → IsSound s rows → IsEarly t s
      → ((u : ℕ) → t ≤ u → IsLeft all u s rows) → state_before t all ≡ s → Reaches t t s rows → StepsBetween all e t before
  begin rows s bound fit ended sound first left state reached = by_runner (s.runner) refl
    where
      all_rounds : rounds count (excess_in s e + 1) ≡ rounds count (excess_in s e) + count
      all_rounds = rounds_more count (excess_in s e)

      positive : t < before
      positive =
          let least = turns_most q 1 (rounds count (excess_in s e + 1)) (omega (arith, all_rounds, there)) in
          let one = turns_more q 0 in
          omega (arith, bound, least, one, some)

      soon : latest q s + 1 ≤ t + longest_turn q → IsSoon q before (latest q s + turns q (far count slot e s))
      soon late =
          let within = (far_within slot count s.cursor there).1 in
          let most = turns_most q (far count slot e s) (rounds count (excess_in s e + 1)) (omega (arith, within, all_rounds)) in
          omega (arith, bound, most, late)

      late_by : IsEarly t s → latest q s + 1 ≤ t + longest_turn q
      late_by (inl past) =
          late_start q t s.runner s.phase s.slice_start s.grace_start s.turn (excess_in s) some (omega (arith, sound.turn, past))
          (λ who runs. (omega (arith, sound.slice, past), omega (arith, sound.grace, past)))
      late_by (inr boot) =
          let was = sound.boot boot in
          late_start q t s.runner s.phase s.slice_start s.grace_start s.turn (excess_in s) some (omega (arith, was.2))
          (λ who runs. let never : None ≡ Some who = sym was.0 ∙ runs in cc)

      waits : (s.runner ≡ Some e → ⊥) → IsWaiting all q count slot e t before t s rows
      waits other = record {
        soon = soon (late_by first);
        left = left;
        idle = λ nobody since past. absurd (omega (arith, since, past));
        mine = λ runs. absurd (other runs);
      }

      by_runner : (o : Option ℕ) → s.runner ≡ o → StepsBetween all e t before
      by_runner None is = walk rows s t fit ended sound (waits (λ (runs : s.runner ≡ Some e). let never : None ≡ Some e = sym is ∙ runs in cc)) reached
      by_runner (Some who) is =
          elim (cases_eq who e) [
            | inl same ↦ record {
              tick = t;
              since = omega arith;
              until = positive;
              runs =
                  ap (λ (u : LedgerState). option_or u.runner (starter t all)) state ∙ ap (λ (o : Option ℕ). option_or o (starter t all)) is
                  ∙ ap (λ (n : ℕ). Some n) same;
            }
            | inr other ↦
                walk rows s t fit ended sound
                (waits (λ (runs : s.runner ≡ Some e). let both : Some who ≡ Some e = sym is ∙ runs in let same : who ≡ e = cc in other same)) reached
          ]

  enter : (rows : List Row) (s : LedgerState) → before ≡ t + turns q (rounds count (excess_in (state_before t all) e + 1)) → AreFit q end s rows → is_end q idle end (state_from s rows) ≡ true → IsSound s rows → IsEarly t s
      → ((u : ℕ) → t ≤ u → IsLeft all u s rows) → StepsBetween all e t before
  enter [] s bound fit ended sound first left =
      let state = (left t (omega arith)).state in
      begin [] s (bound ∙ ap (λ (u : LedgerState). t + turns q (rounds count (excess_in u e + 1))) state) fit ended sound first left state tt
  enter (r ∷ rows) s bound fit ended sound first left =
      let parts = and_parts (is_in_time q end s r) (is_fit_by_kind q s r rows) fit.0 in
      elim (either_of s r t) [
        | inl boot ↦
            let both = and_parts (is_own_row r) s.at_boot boot in
            let zero_time = boot_time q end s r boot parts.0 in
            let was = sound.boot both.1 in
            enter rows (after_row r s) bound fit.1 ended (sound_next q s r rows sound (record { rises = omega (arith, was.1); boot = λ own at_boot. zero_time; fits = parts.1 }))
            (inr (own_boot s r both.0 both.1)) (λ u less. boot_left all u s r rows boot (left u less))
        | inr (over, inl past) ↦
            let time = timely q end s r over parts.0 in
            enter rows (after_row r s) bound fit.1 ended
            (sound_next q s r rows sound (record { rises = time.rises; boot = λ own boot. not_boot (is_own_row r) s.at_boot (time_of r ≡ 0) over own boot; fits = parts.1 }))
            (inl past) (λ u less. left_next all u s r rows over (omega (arith, past, less)) (left u less))
        | inr (over, inr reached) ↦
            let state = (left t (omega arith)).state ∙ not_earlier t s r rows over reached in
            begin (r ∷ rows) s (bound ∙ ap (λ (u : LedgerState). t + turns q (rounds count (excess_in u e + 1))) state) fit ended sound first left state
            (record { later = over; since = reached; reaches = omega (arith, reached) })
      ]

pub turns_come : TurnsCome
turns_come q end count slot e t idle rows some few there rules ends holding =
    enter rows q end count slot e t _ idle some there few holding ends rows first_state (bound_is q count (excess_in (state_before t rows) e) t) (all_fit q end first_state rows rules.fit) rules.ended
    (first_sound rows) (inr refl) (λ u less. record { state = refl; starts = refl })

pub clean_turns_come : TurnsCome → CleanKeepsRules → CleanTurnsCome
clean_turns_come come keeps q count slot e t plan ledger some few there clean ends holding =
    let kept = keeps q plan ledger clean in
    come q ledger.time count slot e t ledger.idle (rows_of ledger.rows) some few there (record { fit = kept.rows; ended = kept.end }) ends holding
